-- What both versions have of a table, and that what an engine stores is what its steps are promised.
use Rattle.roll_core.proofs.Words.{newer_schema, Both, State, form_in, over_pair, Paired, Former, shared, ◌≡◌, ◌∙◌, ℕ, List, Option, Some, None, true, ap, refl, sym, subst, option_map}
use Rattle.roll_core.proofs.Words.{option_and_then, some_same, Schema, Shape, Lens, Fate, IsSchema, IsWellFormed, Joins, fits, Table, table_numbered, shape_of, Shared, lens_among, IsPair, pair_over}
use Rattle.roll_core.proofs.Words.{false, ◌==◌, if◌then◌else◌, Mode, Calm, IsState, Pair, Form, Own, Left, Trimmed, FormSuits, LeftBy, Runs, Below, New, Old, is_some, meant, other, side_alone, table_on}
use Rattle.roll_core.proofs.Words.{FormerStands, HasFormer, IsStored, IsStoredTable, Stored, StoredTable, both_again, calm_form, former_pair}
use Rattle.roll_core.proofs.Words.{Kind, Returned, ReturnedBy, both_before, newer_of, older_of}
use Rattle.roll_core.proofs.Words.kind
use Rattle.roll_core.proofs.Tables.{each_of}

-- What both have, where they have it and a lens.
abbrev pub shared_of : Option Lens → Option Table → Option Table → Option Shared
shared_of lens new old = option_and_then (λ old. option_and_then (λ new. option_map {U = Shared} (λ lens. record { old = old; new = new; lens = lens }) lens) new) old

abbrev pub shared_in : Schema → Schema → List (ℕ × Fate) → ℕ → Option Shared
shared_in old new fates number = shared_of (lens_among fates number) (table_numbered new number) (table_numbered old number)

pub shared_parts : (lens : Option Lens) (new old : Option Table) (both : Shared) → shared_of lens new old ≡ Some both → (old ≡ Some both.old) × (new ≡ Some both.new) × (lens ≡ Some both.lens)
shared_parts lens new None both h = cc
shared_parts lens None (Some old) both h = cc
shared_parts None (Some new) (Some old) both h = cc
shared_parts (Some lens) (Some new) (Some old) both h =
    let same = some_same (record { old = old; new = new; lens = lens }) both h in
    (ap (λ (b : Shared). Some b.old) same, ap (λ (b : Shared). Some b.new) same, ap (λ (b : Shared). Some b.lens) same)

pub no_new : (lens : Option Lens) (old : Option Table) → shared_of lens None old ≡ None
no_new lens None = refl
no_new lens (Some old) = refl

same_shape : (found : Option Table) (table : Table) (shape : Shape) → found ≡ Some table → option_map (λ table. table.2) found ≡ Some shape → shape ≡ shape_of table
same_shape found table shape f h = some_same shape (shape_of table) (sym h ∙ ap (option_map (λ (table : Table). table.2)) f)

-- What both have of it is a pair.
pub joined_pair : (old new : Schema) (fates : List (ℕ × Fate)) (number : ℕ) (both : Shared) → IsSchema old → IsSchema new → shared_in old new fates number ≡ Some both → Joins both.lens number old new → IsPair (pair_over both)
joined_pair old new fates number both is_old is_new h joined =
    let parts = shared_parts (lens_among fates number) (table_numbered new number) (table_numbered old number) both h in
    let older = same_shape (table_numbered old number) both.old joined.before parts.0 joined.in_old in
    let newer = same_shape (table_numbered new number) both.new joined.after parts.1 joined.in_new in
    record {
      old = is_old.shapes number (shape_of both.old) (ap (option_map (λ (table : Table). table.2)) parts.0);
      new = is_new.shapes number (shape_of both.new) (ap (option_map (λ (table : Table). table.2)) parts.1);
      fitting = subst (λ shape. fits both.lens shape (shape_of both.new) ≡ true) older (subst (λ shape. fits both.lens joined.before shape ≡ true) newer joined.fitting);
      lens = subst (λ shape. IsWellFormed both.lens shape (shape_of both.new)) older (subst (λ shape. IsWellFormed both.lens joined.before shape) newer joined.well_formed);
      layout = refl;
    }

-- ---- while both versions stand

pub active_form : (former : Option Former) (frame : State) (number : ℕ) (name : List ℕ) (schema : Schema) (fates : List (ℕ × Fate)) → frame.mode ≡ Both name schema fates
    → form_in former frame number ≡ over_pair Paired (side_alone frame number) (shared frame number)
active_form former frame number name schema fates m =
    ap (λ (mode : Mode). elim mode [ Calm ↦ calm_form former frame number | Both name schema fates ↦ over_pair Paired (side_alone frame number) (shared frame number) ]) m

-- What both have of a table is a pair.
pub both_pair : Below → (s : State) (number : ℕ) (both : Shared) → IsState s → shared s number ≡ Some both → IsPair (pair_over both)
both_pair law s number both stands e =
    let p = law.shared s number both stands e in
    record {
      old = stands.version.schema_stands.shapes number (shape_of both.old) (ap (option_map (λ (table : Table). table.2)) p.old);
      new = (law.filling s number both stands e).1.well_formed;
      fitting = p.fitting;
      lens = p.well_formed;
      layout = refl;
    }

pub none_there : {X : Type 0} (o : Option X) → is_some o ≡ false → o ≡ None
none_there None h = refl
none_there (Some x) h = cc

pub not_there : {X : Type 0} (o : Option X) → ¬ (is_some o ≡ true) → o ≡ None
not_there None h = refl
not_there (Some x) h = absurd (h refl)

-- What isn't shared only one of them has.
pub unshared : Below → (frame : State) (tables : List StoredTable) (number : ℕ) → IsState (meant frame tables) → shared frame number ≡ None
    → is_some (table_on frame Old number) ≡ true → table_on frame New number ≡ None
unshared law frame tables number stands none old =
    not_there (table_on frame New number) (λ new. let some : is_some (shared frame number) ≡ true = law.both (meant frame tables) number stands old new in let no : false ≡ true = sym (ap is_some none) ∙ some in cc)

lacks : Below → (frame : State) (tables : List StoredTable) (number : ℕ) → IsState (meant frame tables) → shared frame number ≡ None → table_on frame (other (side_alone frame number)) number ≡ None
lacks law frame tables number stands none =
    elim (is_some (table_on frame Old number)) as (λ has. is_some (table_on frame Old number) ≡ has → table_on frame (other (if has then Old else New)) number ≡ None)
    [ true ↦ λ has. unshared law frame tables number stands none has | false ↦ λ has. none_there (table_on frame Old number) has ] refl

both_suits : Below → (frame : State) (tables : List StoredTable) (number : ℕ) → IsState (meant frame tables) → FormSuits frame number (over_pair Paired (side_alone frame number) (shared frame number))
both_suits law frame tables number stands =
    elim (shared frame number) as (λ both. shared frame number ≡ both → FormSuits frame number (over_pair Paired (side_alone frame number) both)) [
      | None ↦ λ e. lacks law frame tables number stands e
      | Some both ↦ λ e. record { both = both; shares = e; over = refl; is_pair = both_pair law (meant frame tables) number both stands e }
    ] refl

-- ---- while one does

pub calm_none : (s : State) (number : ℕ) → s.mode ≡ Calm → table_on s New number ≡ None
calm_none s number m = ap (λ mode. option_and_then (λ schema. table_numbered schema number) (newer_schema mode)) m

-- What both had of a table before the old version went is a pair, and the standing version's table is its new one.
left_by : (frame : State) (former : Former) → frame.mode ≡ Calm → frame.kind ≡ kind.Complete → IsSchema frame.schema → FormerStands frame former → (number : ℕ) (pair : Shared)
    → shared (both_again former frame) number ≡ Some pair → LeftBy frame number (pair_over pair)
left_by frame former m k is stands number pair h =
    let both : shared (both_before kind.Complete former frame) number ≡ Some pair = sym (ap (λ (by : Kind). shared (both_before by former frame) number) k) ∙ h in
    let parts = shared_parts (lens_among former.fates number) (table_numbered frame.schema number) (table_numbered former.schema number) pair both in
    let joined = subst (λ (by : Kind). Joins pair.lens number (older_of by former.schema frame.schema) (newer_of by former.schema frame.schema)) k (stands.joined number pair.lens parts.2) in
    record {
      calm = m;
      is_pair = joined_pair former.schema frame.schema former.fates number pair stands.schema is both joined;
      shape = λ table e. ap shape_of (some_same pair.new table (sym parts.1 ∙ e));
    }

-- The same before the new version went, and the standing version's table is its old one.
returned_by : (frame : State) (former : Former) → frame.mode ≡ Calm → frame.kind ≡ kind.Rollback → IsSchema frame.schema → FormerStands frame former → (number : ℕ) (pair : Shared)
    → shared (both_again former frame) number ≡ Some pair → ReturnedBy frame number (pair_over pair)
returned_by frame former m k is stands number pair h =
    let both : shared (both_before kind.Rollback former frame) number ≡ Some pair = sym (ap (λ (by : Kind). shared (both_before by former frame) number) k) ∙ h in
    let parts = shared_parts (lens_among former.fates number) (table_numbered former.schema number) (table_numbered frame.schema number) pair both in
    let joined = subst (λ (by : Kind). Joins pair.lens number (older_of by former.schema frame.schema) (newer_of by former.schema frame.schema)) k (stands.joined number pair.lens parts.2) in
    record {
      calm = m;
      is_pair = joined_pair frame.schema former.schema former.fates number pair is stands.schema both joined;
      shape = λ table e. ap shape_of (some_same pair.old table (sym parts.0 ∙ e));
    }

over_suits : (form : Pair → Form) (s : State) (number : ℕ) (o : Option Shared) → s.mode ≡ Calm → ((pair : Shared) → o ≡ Some pair → FormSuits s number (form (pair_over pair))) → FormSuits s number (over_pair form Old o)
over_suits form s number None m h = calm_none s number m
over_suits form s number (Some pair) m h = h pair refl

pub former_left : (frame : State) (former : Option Former) → frame.mode ≡ Calm → frame.kind ≡ kind.Complete → IsSchema frame.schema → HasFormer frame former → (number : ℕ) (pair : Shared)
    → former_pair former frame number ≡ Some pair → LeftBy frame number (pair_over pair)
former_left frame None m k is h number pair e = cc
former_left frame (Some former) m k is h number pair e = left_by frame former m k is h.1 number pair e

former_returned : (frame : State) (former : Option Former) → frame.mode ≡ Calm → frame.kind ≡ kind.Rollback → IsSchema frame.schema → HasFormer frame former → (number : ℕ) (pair : Shared)
    → former_pair former frame number ≡ Some pair → ReturnedBy frame number (pair_over pair)
former_returned frame None m k is h number pair e = cc
former_returned frame (Some former) m k is h number pair e = returned_by frame former m k is h.1 number pair e

calm_suits : (frame : State) (former : Option Former) → frame.mode ≡ Calm → IsSchema frame.schema → HasFormer frame former → (number : ℕ) → FormSuits frame number (calm_form former frame number)
calm_suits frame former m is h number =
    let over = former_pair former frame number in
    elim frame.kind as (λ by. frame.kind ≡ by → FormSuits frame number (elim by [
      | kind.Nothing ↦ Own Old
      | kind.Complete ↦ over_pair (if frame.left == 2 then Left else Trimmed) Old (former_pair former frame number)
      | kind.Rollback ↦ over_pair Returned Old (former_pair former frame number)
    ])) [
      | kind.Nothing ↦ λ k. calm_none frame number m
      | kind.Complete ↦ λ k. elim (frame.left == 2) as (λ two. FormSuits frame number (over_pair (if two then Left else Trimmed) Old over)) [
        | true ↦ over_suits Left frame number over m (former_left frame former m k is h number)
        | false ↦ over_suits Trimmed frame number over m (former_left frame former m k is h number)
      ]
      | kind.Rollback ↦ λ k. over_suits Returned frame number over m (former_returned frame former m k is h number)
    ] refl

-- ---- each table

form_suits : Below → (stored : Stored) → IsStored stored → (mode : Mode) → stored.frame.mode ≡ mode → (table : StoredTable) → IsStoredTable stored table → FormSuits stored.frame table.number table.form
form_suits law stored is Calm m table t =
    let frame = stored.frame in
    let form : table.form ≡ calm_form stored.former frame table.number = t.form ∙ ap (λ (mode : Mode). elim mode [ Calm ↦ calm_form stored.former frame table.number | Both name schema fates ↦ over_pair Paired (side_alone frame table.number) (shared frame table.number) ]) m in
    subst (FormSuits frame table.number) (sym form) (calm_suits frame stored.former m is.stands.version.schema_stands is.former table.number)
form_suits law stored is (Both name schema fates) m table t =
    subst (FormSuits stored.frame table.number) (sym (t.form ∙ active_form stored.former stored.frame table.number name schema fates m)) (both_suits law stored.frame stored.tables table.number is.stands)

-- What an engine stores can be run over.
pub runs_of : Below → (stored : Stored) → IsStored stored → Runs stored.frame stored.tables
runs_of law stored is = record {
  stands = is.stands;
  forms = each_of (λ (table : StoredTable) h. form_suits law stored is stored.frame.mode refl table h) stored.tables is.tables;
  lost = each_of (λ (table : StoredTable) h. h.lost) stored.tables is.tables;
  rows = each_of (λ (table : StoredTable) h. h.rows) stored.tables is.tables;
}
