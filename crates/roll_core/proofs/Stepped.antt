-- Rows that a step stores anew stand in their order, and what the second and the third step of completing leave.
use Rattle.roll_core.proofs.Words.{take_all, le_of_eq, nil_from_length, arith, ◌≡◌, ◌∙◌, ◌<◌, ℕ, zero, suc, ℤ, List, [], ◌∷◌, Bool, true, false, ◌&&◌, Some, None, int_cmp, Ordering, Less, Equal}
use Rattle.roll_core.proofs.Words.{Greater, ap, refl, sym, subst, length, map, take, T, slice_get, int_cmp_total, is_sorted, put, below_all, by_order, is_lt, ordering_reverse, some_same, Each, Kept}
use Rattle.roll_core.proofs.Words.{Value, Rows, Form, IsStoredRow, kept, stepped_row, stepped_values, StoredRow, meaning, ◌==◌, Option, Ok, inl, inr, ◌⊎◌, if◌then◌else◌, map-id, map-map, Calm, Both}
use Rattle.roll_core.proofs.Words.{State, Complete, complete, stepped, table_without_loss, tidied, without_loss, ModeStands, StepsStand, Shared, Pair, IsPair, Own, Left, Trimmed, Former, meant}
use Rattle.roll_core.proofs.Words.{AreKept, Goes, tidied_form, tidied_number, tidied_parts, tidied_table, HasFormer, IsStored, IsStoredTable, Stored, StoredTable, form_in, former_pair}
use Rattle.roll_core.proofs.Words.{lost_columns_by, option_map, over_pair, pair_over, rows_meant, table_meant, tables_taken, without_tables, Below, Old}
use Rattle.roll_core.proofs.Words.{Kind, Mode, Paired, Returned, Rollback, both_before, calm_form, side_alone, rollback, shared, tidied_back, tidied_back_frame, tidied_back_parts}
use Rattle.roll_core.proofs.Words.finite
use Rattle.roll_core.proofs.Words.kind
use Rattle.roll_core.proofs.Runs.{former_left}
use Rattle.roll_core.proofs.Tables.{each_mapped, each_of, none_lost}

pub split : (a b : Bool) → T (a && b) → T a × T b
split true b h = (tt, h)
split false b h = absurd h

pub is_less : (o : Ordering) → T (is_lt o) → o ≡ Less
is_less Less h = refl
is_less Equal h = absurd h
is_less Greater h = absurd h

above : (key : ℤ) (rows : List StoredRow) (at : ℕ) (row : StoredRow) → T (below_all int_cmp key rows) → slice_get rows at ≡ Some row → int_cmp row.0 key ≡ Greater
above key [] at row b e = cc
above key (first ∷ rows) zero row b e =
    let less = is_less (int_cmp key first.0) (split (is_lt (int_cmp key first.0)) (below_all int_cmp key rows) b).0 in
    let same : first ≡ row = some_same first row e in
    subst (λ (r : StoredRow). int_cmp r.0 key ≡ Greater) same (int_cmp_total.antisymm first.0 key ∙ ap ordering_reverse less)
above key (first ∷ rows) (suc at) row b e = above key rows at row (split (is_lt (int_cmp key first.0)) (below_all int_cmp key rows) b).1 e

-- The next row is put behind those that are there.
pub put_behind : (form : Form) (rows : List StoredRow) (at : ℕ) (row : StoredRow) → T (is_sorted int_cmp rows) → slice_get rows at ≡ Some row → put int_cmp row.0 (stepped_values form row.1) (map (stepped_row form) (take at rows)) ≡ map (stepped_row form) (take (suc at) rows)
put_behind form [] at row s e = cc
put_behind form (first ∷ rows) zero row s e = ap (λ (r : StoredRow). stepped_row form r ∷ []) (sym (some_same first row e))
put_behind form (first ∷ rows) (suc at) row s e =
    let parts = split (below_all int_cmp first.0 rows) (is_sorted int_cmp rows) s in
    let greater = above first.0 rows at row parts.0 e in
    let values = stepped_values form row.1 in
    let there = map (stepped_row form) (take at rows) in
    ap (λ o. by_order o ((row.0, values) ∷ stepped_row form first ∷ there) ((first.0, values) ∷ there) (stepped_row form first ∷ put int_cmp row.0 values there)) greater
    ∙ ap (λ rest. stepped_row form first ∷ rest) (put_behind form rows at row parts.1 e)

pub stepped_next : (form : Form) (rows stepped new : Rows) (at : ℕ) (key : ℤ) (values : List Value) → finite.entries stepped ≡ map (stepped_row form) (take at (finite.entries rows)) → slice_get (finite.entries rows) at ≡ Some (key, values)
    → new ≡ finite.insert stepped key (stepped_values form values) → finite.entries new ≡ map (stepped_row form) (take (suc at) (finite.entries rows))
stepped_next form rows stepped new at key values is e n =
    ap finite.entries n ∙ finite.entries-insert int_cmp_total stepped key (stepped_values form values) ∙ ap (put int_cmp key (stepped_values form values)) is
    ∙ put_behind form (finite.entries rows) at (key, values) (finite.entries_sorted rows) e

-- There is a row at each place.
pub none_past : {X : Type 0} (xs : List X) (at : ℕ) → slice_get xs at ≡ None → at < length xs → ⊥
none_past [] at e h = omega (arith, h)
none_past (x ∷ xs) zero e h = cc
none_past (x ∷ xs) (suc at) e h = none_past xs at e (omega (arith, h))

pub stepped_whole : (form : Form) (rows stepped : Rows) (at : ℕ) → finite.entries stepped ≡ map (stepped_row form) (take at (finite.entries rows)) → at ≡ finite.len rows → finite.entries stepped ≡ map (stepped_row form) (finite.entries rows)
stepped_whole form rows stepped at is e = is ∙ ap (map (stepped_row form)) (take_all at (finite.entries rows) (le_of_eq (sym (e ∙ finite.len-entries rows))))

pub none_stored : (rows : Rows) → rows ≡ finite.empty → finite.entries rows ≡ []
none_stored rows e = ap finite.entries e ∙ nil_from_length (finite.entries {X = List Value} {R = int_cmp} finite.empty) (sym (finite.len-entries finite.empty) ∙ finite.len-empty int_cmp (List Value))

-- ---- what they mean

-- A row that is stored anew means what is wanted, and is stored as its new form wants.
abbrev pub StepsTo : Form → Form → (StoredRow → Kept) → StoredRow → Type 0
StepsTo step after wanted row = (kept after (stepped_row step row) ≡ wanted row) × IsStoredRow after (stepped_values step row.1)

pub rows_next : (step after : Form) (wanted : StoredRow → Kept) (rows : List StoredRow) → Each (StepsTo step after wanted) rows
    → (map (kept after) (map (stepped_row step) rows) ≡ map wanted rows) × Each (λ row. IsStoredRow after row.1) (map (stepped_row step) rows)
rows_next step after wanted [] h = (refl, tt)
rows_next step after wanted (row ∷ rows) h =
    let rest = rows_next step after wanted rows h.1 in
    (ap (λ (k : Kept). k ∷ map (kept after) (map (stepped_row step) rows)) h.0.0 ∙ ap (λ (ks : List Kept). wanted row ∷ ks) rest.0, (h.0.1, rest.1))

-- ---- a table

-- What a step leaves of a table, of whose rows this is wanted.
record IsNext (wanted : Kept → Kept) (form : Form) (table : StoredTable) : Type 0 where
  is_form : tidied_form table.form ≡ form
  means : table_meant (tidied_table table) ≡ (table.number, map wanted (rows_meant table))
  rows : Each (λ row. IsStoredRow (tidied_form table.form) row.1) (map (stepped_row table.form) table.rows)
  lost : lost_columns_by (tidied_form table.form) ≡ 0

next_by : (before : Form) (wanted : Kept → Kept) → lost_columns_by (tidied_form before) ≡ 0
    → ((row : StoredRow) → IsStoredRow before row.1 → StepsTo before (tidied_form before) (λ row. wanted (kept before row)) row)
    → (table : StoredTable) → table.form ≡ before → Each (λ row. IsStoredRow table.form row.1) table.rows → IsNext wanted (tidied_form before) table
next_by before wanted lost one table f h =
    let stored = subst (λ form. Each (λ row. IsStoredRow form row.1) table.rows) f h in
    let next = rows_next before (tidied_form before) (λ row. wanted (kept before row)) table.rows (each_of one table.rows stored) in
    let is : IsNext wanted (tidied_form before) (record { number = table.number; form = before; rows = table.rows }) = record {
      is_form = refl;
      means = ap (λ (rows : List Kept). (table.number, rows)) (next.0 ∙ sym (map-map wanted (kept before) table.rows));
      rows = next.1;
      lost = lost;
    } in
    subst (λ form. IsNext wanted (tidied_form before) (record { number = table.number; form = form; rows = table.rows })) (sym f) is

row_trimmed : Below → (pair : Pair) → IsPair pair → (row : StoredRow) → IsStoredRow (Left pair) row.1
    → StepsTo (Left pair) (Trimmed pair) (λ row. without_loss (kept (Left pair) row)) row
row_trimmed law pair is row h =
    let shown = law.trims pair row.1 is (law.laid_long pair row.1 h) in
    (ap (λ (v : List Value). record { key = row.0; halves = record { old = Some v; new = None }; lost = 0 }) shown, law.trimmed pair row.1 is h)

second_by : Below → (both : Option Shared) → ((shared : Shared) → both ≡ Some shared → IsPair (pair_over shared)) → (table : StoredTable)
    → table.form ≡ over_pair Left Old both → Each (λ row. IsStoredRow table.form row.1) table.rows → IsNext without_loss (over_pair Trimmed Old both) table
second_by law None is table f h = next_by (Own Old) without_loss refl (λ row h. (refl, tt)) table f h
second_by law (Some both) is table f h = next_by (Left (pair_over both)) without_loss refl (row_trimmed law (pair_over both) (is both refl)) table f h

third_by : (both : Option Shared) (table : StoredTable) → table.form ≡ over_pair Trimmed Old both → Each (λ row. IsStoredRow table.form row.1) table.rows
    → IsNext (λ row. row) (Own Old) table
third_by None table f h = next_by (Own Old) (λ row. row) refl (λ row h. (refl, tt)) table f h
third_by (Some both) table f h = next_by (Trimmed (pair_over both)) (λ row. row) refl (λ row h. (refl, tt)) table f h

-- ---- all tables

next_mean : (wanted : Kept → Kept) (form : ℕ → Form) (tables : List StoredTable) → Each (λ table. IsNext wanted (form table.number) table) tables
    → map table_meant (map tidied_table tables) ≡ map {B = ℕ × List Kept} (λ table. (table.0, map wanted table.1)) (map table_meant tables)
next_mean wanted form [] h = refl
next_mean wanted form (table ∷ tables) h = ap (λ (t : ℕ × List Kept). t ∷ map table_meant (map tidied_table tables)) h.0.means
    ∙ ap (λ (ts : List (ℕ × List Kept)). (table.number, map wanted (rows_meant table)) ∷ ts) (next_mean wanted form tables h.1)

same_rows : (tables : List (ℕ × List Kept)) → map {B = ℕ × List Kept} (λ table. (table.0, map (λ row. row) table.1)) tables ≡ tables
same_rows [] = refl
same_rows (table ∷ tables) = ap (λ (rows : List Kept). (table.0, rows) ∷ map {B = ℕ × List Kept} (λ table. (table.0, map (λ row. row) table.1)) tables) (map-id table.1)
    ∙ ap (λ (ts : List (ℕ × List Kept)). table ∷ ts) (same_rows tables)

next_stored : (wanted : Kept → Kept) (form : ℕ → Form) (new : Stored) (tables : List StoredTable) → ((number : ℕ) → form number ≡ form_in new.former new.frame number)
    → new.frame.lost_columns ≡ [] → Each (λ table. IsNext wanted (form table.number) table) tables → Each (IsStoredTable new) (map tidied_table tables)
next_stored wanted form new tables f l h = each_mapped tidied_table _
    (λ (table : StoredTable) is. record { form = is.is_form ∙ f table.number; lost = none_lost new.frame table.number l ∙ sym is.lost; rows = is.rows }) tables h

-- ---- the steps

-- The form of a table while one version stands, by the steps that are left.
abbrev form_by : Option Former → State → ℕ → Kind → Form
form_by former frame number by = elim by [
  | kind.Nothing ↦ Own Old
  | kind.Complete ↦ over_pair (if frame.left == 2 then Left else Trimmed) Old (former_pair former frame number)
  | kind.Rollback ↦ over_pair Returned Old (former_pair former frame number)
]

form_of_kind : (former : Option Former) (frame : State) (number : ℕ) (by : Kind) → frame.mode ≡ Calm → frame.kind ≡ by → form_in former frame number ≡ form_by former frame number by
form_of_kind former frame number by m k =
    ap (λ (mode : Mode). elim mode [ Calm ↦ calm_form former frame number | Both name schema fates ↦ over_pair Paired (side_alone frame number) (shared frame number) ]) m
    ∙ ap (form_by former frame number) k

two_form : (former : Option Former) (frame : State) (number : ℕ) → frame.mode ≡ Calm → frame.kind ≡ kind.Complete → frame.left ≡ 2
    → form_in former frame number ≡ over_pair Left Old (former_pair former frame number)
two_form former frame number m k l =
    form_of_kind former frame number kind.Complete m k ∙ ap (λ (n : ℕ). over_pair (if n == 2 then Left else Trimmed) Old (former_pair former frame number)) l

one_form : (former : Option Former) (frame : State) (number : ℕ) → frame.mode ≡ Calm → frame.kind ≡ kind.Complete → frame.left ≡ 1
    → form_in former frame number ≡ over_pair Trimmed Old (former_pair former frame number)
one_form former frame number m k l =
    form_of_kind former frame number kind.Complete m k ∙ ap (λ (n : ℕ). over_pair (if n == 2 then Left else Trimmed) Old (former_pair former frame number)) l

back_form : (former : Option Former) (frame : State) (number : ℕ) → frame.mode ≡ Calm → frame.kind ≡ kind.Rollback
    → form_in former frame number ≡ over_pair Returned Old (former_pair former frame number)
back_form former frame number m k = form_of_kind former frame number kind.Rollback m k

pub no_form : (former : Option Former) (frame : State) (number : ℕ) → frame.mode ≡ Calm → frame.kind ≡ kind.Nothing → form_in former frame number ≡ Own Old
no_form former frame number m k = form_of_kind former frame number kind.Nothing m k

-- The versions' own tables are as they were.
same_pair : (by : Kind) (former : Former) (frame : State) (number : ℕ)
    → shared (both_before by (without_tables former) (record frame { left = 1; lost_columns = [] })) number ≡ shared (both_before by former frame) number
same_pair kind.Nothing former frame number = refl
same_pair kind.Complete former frame number = refl
same_pair kind.Rollback former frame number = refl

without_pair : (former : Option Former) (frame : State) (number : ℕ)
    → former_pair (option_map without_tables former) (record frame { left = 1; lost_columns = [] }) number ≡ former_pair former frame number
without_pair None frame number = refl
without_pair (Some former) frame number = same_pair frame.kind former frame number

-- What a step leaves.
pub record IsTidied (two : Bool) (frame : State) (former : Option Former) (tables : List StoredTable) : Type 0 where
  pub means :
      meant (if two then record frame { left = 1; lost_columns = [] } else record frame { left = 0; kind = kind.Nothing }) (map tidied_table tables)
      ≡ (if two then record (meant frame tables) { left = 1; tables = map table_without_loss (map table_meant tables); lost_columns = [] } else record (meant frame tables) { left = 0; kind = kind.Nothing })
  pub kept : AreKept (record { frame = if two then record frame { left = 1; lost_columns = [] } else record frame { left = 0; kind = kind.Nothing }; former = if two then option_map without_tables former else None; tables = map tidied_table tables })

none_left : {by : Kind} → by ≡ kind.Complete → tables_taken by 1 ≡ false → ⊥
none_left k left = let no : true ≡ false = sym (ap (λ by. tables_taken by 1) k) ∙ left in cc

second : Below → (frame : State) (former : Option Former) (tables : List StoredTable) → IsStored (record { frame = frame; former = former; tables = tables })
    → frame.mode ≡ Calm → frame.kind ≡ kind.Complete → frame.left ≡ 2 → IsTidied true frame former tables
second law frame former tables stored m k l =
    let new = record frame { left = 1; lost_columns = [] } in
    let form = λ (number : ℕ). over_pair Trimmed Old (former_pair former frame number) in
    let is_pair = λ (number : ℕ) (both : Shared) (e : former_pair former frame number ≡ Some both).
    (former_left frame former m k stored.stands.version.schema_stands stored.former number both e).is_pair in
    let each : Each (λ table. IsNext without_loss (form table.number) table) tables = each_of
    (λ table h. second_by law (former_pair former frame table.number) (is_pair table.number) table (h.form ∙ two_form former frame table.number m k l) h.rows) tables stored.tables in
    record {
      means = ap (λ (ts : List (ℕ × List Kept)). record new { tables = ts }) (next_mean without_loss form tables each);
      kept = record {
        once = stored.once;
        former = elim former as (λ former. HasFormer frame former → HasFormer new (option_map without_tables former))
            [ None ↦ λ h. let no : 0 ≡ 2 = sym h ∙ l in absurd (omega (arith, no)) | Some former ↦ λ h. (omega arith, record { schema = h.1.schema; joined = h.1.joined; alone = tt; ascend = tt; all = λ left. absurd (none_left k left); taken = λ k e. refl }) ] stored.former;
        tables = next_stored without_loss form (record { frame = new; former = option_map without_tables former; tables = map tidied_table tables }) tables
            (λ number. ap (over_pair Trimmed Old) (sym (without_pair former frame number)) ∙ sym (one_form (option_map without_tables former) new number m k refl)) refl each;
      };
    }

third : (frame : State) (former : Option Former) (tables : List StoredTable) → IsStored (record { frame = frame; former = former; tables = tables })
    → frame.mode ≡ Calm → frame.kind ≡ kind.Complete → frame.left ≡ 1 → IsTidied false frame former tables
third frame former tables stored m k l =
    let new = record frame { left = 0; kind = kind.Nothing } in
    let each : Each (IsNext (λ row. row) (Own Old)) tables = each_of
    (λ table h. third_by (former_pair former frame table.number) table (h.form ∙ one_form former frame table.number m k l) h.rows) tables stored.tables in
    let nothing = stored.stands.lost (rw (k, l) refl) in
    record {
      means = ap (λ (ts : List (ℕ × List Kept)). record new { tables = ts }) (next_mean (λ row. row) (λ number. Own Old) tables each ∙ same_rows (map table_meant tables));
      kept = record {
        once = stored.once;
        former = refl;
        tables = next_stored (λ row. row) (λ number. Own Old) (record { frame = new; former = None; tables = map tidied_table tables }) tables (λ number. sym (no_form None new number m refl)) nothing.columns each;
      };
    }

-- The second step of rolling back leaves the old columns, and is the last.
returned_next : (both : Option Shared) (table : StoredTable) → table.form ≡ over_pair Returned Old both → Each (λ row. IsStoredRow table.form row.1) table.rows
    → IsNext without_loss (Own Old) table
returned_next None table f h = next_by (Own Old) without_loss refl (λ row h. (refl, tt)) table f h
returned_next (Some both) table f h = next_by (Returned (pair_over both)) without_loss refl (λ row h. (refl, tt)) table f h

record IsReturned (frame : State) (tables : List StoredTable) : Type 0 where
  means : meant (tidied_back_frame frame) (map tidied_table tables)
      ≡ record (meant frame tables) { left = 0; kind = kind.Nothing; tables = map table_without_loss (map table_meant tables); lost_columns = [] }
  kept : AreKept (record { frame = tidied_back_frame frame; former = None; tables = map tidied_table tables })

is_returned : (frame : State) (former : Option Former) (tables : List StoredTable) → IsStored (record { frame = frame; former = former; tables = tables })
    → frame.mode ≡ Calm → frame.kind ≡ kind.Rollback → IsReturned frame tables
is_returned frame former tables stored m k =
    let new = tidied_back_frame frame in
    let each : Each (IsNext without_loss (Own Old)) tables = each_of
    (λ table h. returned_next (former_pair former frame table.number) table (h.form ∙ back_form former frame table.number m k) h.rows) tables stored.tables in
    record {
      means = ap (λ (ts : List (ℕ × List Kept)). record new { tables = ts }) (next_mean without_loss (λ number. Own Old) tables each);
      kept = record {
        once = stored.once;
        former = refl;
        tables = next_stored without_loss (λ number. Own Old) (record { frame = new; former = None; tables = map tidied_table tables }) tables
            (λ number. sym (no_form None new number m refl)) refl each;
      };
    }

-- While steps are left one version stands.
is_calm : (s : State) → ModeStands s s.mode → ¬ (s.kind ≡ kind.Nothing) → s.mode ≡ Calm
is_calm s stands steps =
    elim s.mode as (λ mode. ModeStands s mode → mode ≡ Calm) [ Calm ↦ λ h. refl | Both name schema fates ↦ λ h. absurd (steps h.no_steps) ] stands

-- The next step leaves what the machine's leaves.
pub is_tidied : Below → (frame : State) (former : Option Former) (tables : List StoredTable) → IsStored (record { frame = frame; former = former; tables = tables }) → frame.kind ≡ kind.Complete → IsTidied (frame.left == 2) frame former tables
is_tidied law frame former tables stored k =
    let s = meant frame tables in
    let calm = is_calm s stored.stands.mode (λ none. let no : kind.Complete ≡ kind.Nothing = sym k ∙ none in cc) in
    by_left calm (subst (λ by. StepsStand by frame.left) k stored.stands.steps)
  where
    by_left : frame.mode ≡ Calm → (frame.left ≡ 2) ⊎ (frame.left ≡ 1) → IsTidied (frame.left == 2) frame former tables
    by_left m (inl l) = subst (λ two. IsTidied two frame former tables) (sym (ap (λ n. n == 2) l)) (second law frame former tables stored m k l)
    by_left m (inr l) = subst (λ two. IsTidied two frame former tables) (sym (ap (λ n. n == 2) l)) (third frame former tables stored m k l)

-- ---- the whole

pub same_parts : (f g : State) (a b : Option Former) (ts us : List StoredTable) → f ≡ g → a ≡ b → ts ≡ us → ◌≡◌ {A = Stored} (record { frame = f; former = a; tables = ts }) (record { frame = g; former = b; tables = us })
same_parts f g a b ts us p q r = rw (p, q, r) refl

-- The second step, or the third, goes as the machine's does.
pub tidies : Below → (stored : Stored) → IsStored stored → stored.frame.kind ≡ kind.Complete
    → Goes stored (complete (meaning stored)) (Ok (Complete (tidied_number stored.frame))) (tidied_parts stored) × AreKept (tidied_parts stored)
tidies law stored is k =
    let s = meaning stored in
    let next = is_tidied law stored.frame stored.former stored.tables is k in
    let second = record s { left = 1; tables = map table_without_loss s.tables; lost_columns = [] } in
    let third = record s { left = 0; kind = kind.Nothing } in
    let reply = elim (stored.frame.left == 2) as (λ two. Complete (if two then 2 else 3) ≡ (if two then stepped 2 second else stepped 3 third).reply) [ true ↦ refl | false ↦ refl ] in
    let after = elim (stored.frame.left == 2) as (λ two. (if two then second else third) ≡ (if two then stepped 2 second else stepped 3 third).after) [ true ↦ refl | false ↦ refl ] in
    ((tidied s, rw k refl, reply, next.means ∙ after), next.kept)

-- So does the second step of rolling back.
pub tidies_back : (stored : Stored) → IsStored stored → stored.frame.kind ≡ kind.Rollback
    → Goes stored (rollback (meaning stored)) (Ok (Rollback 2)) (tidied_back_parts stored) × AreKept (tidied_back_parts stored)
tidies_back stored is k =
    let s = meaning stored in
    let calm = is_calm s is.stands.mode (λ none. let no : kind.Rollback ≡ kind.Nothing = sym k ∙ none in cc) in
    let next = is_returned stored.frame stored.former stored.tables is calm k in
    ((tidied_back s, rw k refl, refl, next.means), next.kept)
