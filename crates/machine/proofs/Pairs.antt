-- The tables of a state that stands: those that one version has, and those that both have.
use Rattle.std.proofs.Common.{◌≡◌, ℕ, List, [], ◌∷◌, Bool, true, false, ◌&&◌, ◌||◌, not, ◌==◌, Option, Some, None, is_some, refl, ◌∙◌, sym, ap, subst, if◌then◌else◌, map, find, arith, option_map, option_and_then}
use Rattle.std.specs.List.{AllByRecursion as Each, list_any}
use Rattle.std.specs.Option.{option_or}
use Rattle.std.specs.Str.{bytes_eq}
use Rattle.std.proofs.lemmas.Bool.Decides.{nat_tests}
use Rattle.sql_base.specs.declared.shapes.Schema.{Schema}
use Rattle.sql_eval.specs.Shape.{WellFormed}
use Rattle.mig_lens.specs.declared.columns.Lens.{Lens}
use Rattle.mig_lens.specs.declared.columns.Side.TheVariants.{Old, New}
use Rattle.mig_lens.specs.Laws.{IsSchema, numbers_differ}
use Rattle.mig_lens.specs.Lens.{IsWellFormed, fits}
use Rattle.mig_lens.specs.Plan.{Table, table_numbered}
use Rattle.sql_base.specs.Laws.{some_same}
use Rattle.machine.specs.declared.states.Mode.{Mode}
use Rattle.machine.specs.declared.states.Mode.TheVariants.{Calm, Both}
use Rattle.machine.specs.declared.states.State.{State}
use Rattle.machine.specs.State.{Found, Shared, Version, fate_among, lens_between, newer_called, newer_schema, path_name, schema_on, shared, table_in, table_of, table_on, table_through, version_called}
use Rattle.row_rules.specs.Site.{name_of, number_of, shape_of}
use Rattle.machine.proofs.Joining.{both_have_lens, lens_joins, pair_of}
use Rattle.machine.proofs.Moving.{each_so}
use Rattle.machine.proofs.Placing.{neither}
use Rattle.machine.specs.Sites.{PairStands, TableStands}
use Rattle.machine.specs.Standing.{IsState, ModeStands, is_known}

-- ---- tables that both versions have

pair_parts : (lens : Option Lens) (old new : Option Table) (pair : Shared) → pair_of lens old new ≡ Some pair → (old ≡ Some pair.old) × (new ≡ Some pair.new) × (lens ≡ Some pair.lens)
pair_parts lens None new pair h = cc
pair_parts lens (Some old) None pair h = cc
pair_parts None (Some old) (Some new) pair h = cc
pair_parts (Some lens) (Some old) (Some new) pair h = (ap (option_map (λ p. p.old)) h, ap (option_map (λ p. p.new)) h, ap (option_map (λ p. p.lens)) h)

-- The new version's table of a number, by the mode.
abbrev newer_table : Mode → ℕ → Option Table
newer_table mode number = option_and_then (λ schema. table_numbered schema number) (newer_schema mode)

joined : (s : State) (mode : Mode) → ModeStands s mode → (number : ℕ) (lens : Lens) → lens_between mode number ≡ Some lens → (old new : Table) → table_numbered s.schema number ≡ Some old → newer_table mode number ≡ Some new → (fits lens (shape_of old) (shape_of new) ≡ true) × IsWellFormed lens (shape_of old) (shape_of new)
joined s Calm h number lens e old new o n = cc
joined s (Both name schema fates) h number lens e old new o n =
    let j = lens_joins s.schema schema number (fate_among fates number) lens (h.fates_stand number) e in
    let before : j.before ≡ shape_of old = some_same j.before (shape_of old) (sym j.in_old ∙ ap (option_map shape_of) o) in
    let after : j.after ≡ shape_of new = some_same j.after (shape_of new) (sym j.in_new ∙ ap (option_map shape_of) n) in
    let fitting = subst (λ shape. fits lens (shape_of old) shape ≡ true) after (subst (λ shape. fits lens shape j.after ≡ true) before j.fitting) in
    let well_formed = subst (IsWellFormed lens (shape_of old)) after (subst (λ shape. IsWellFormed lens shape j.after) before j.well_formed) in
    (fitting, well_formed)

pub pair_stands : (s : State) (number : ℕ) (pair : Shared) → IsState s → shared s number ≡ Some pair → PairStands s number pair
pair_stands s number pair stands h =
    let parts = pair_parts (lens_between s.mode number) (table_on s Old number) (table_on s New number) pair h in
    let j = joined s s.mode stands.mode number pair.lens parts.2 pair.old pair.new parts.0 parts.1 in
    record { old = parts.0; new = parts.1; fitting = j.0; well_formed = j.1 }

-- ---- tables that one version has alone

has_lens : (s : State) (mode : Mode) → ModeStands s mode → (number : ℕ) (old new : Table) →
    table_numbered s.schema number ≡ Some old → newer_table mode number ≡ Some new →
    (lens : Lens) × (lens_between mode number ≡ Some lens)
has_lens s Calm h number old new o n = cc
has_lens s (Both name schema fates) h number old new o n =
    let known : is_known s number ≡ true = ap (λ found. is_some found || is_some (table_on s New number)) o in
    both_have_lens s.schema schema number (fate_among fates number) old new (h.fates_stand number) (h.all number known) o n

-- A table that isn't shared is one side's alone.
pub not_both : (s : State) (number : ℕ) (old new : Table) → IsState s → shared s number ≡ None → table_on s Old number ≡ Some old → table_on s New number ≡ Some new → ⊥
not_both s number old new stands none o n =
    let lens = has_lens s s.mode stands.mode number old new o n in
    let pair : shared s number ≡ Some (record { old = old; new = new; lens = lens.0 }) = ap (λ l. pair_of l (table_on s Old number) (table_on s New number)) lens.1 ∙ ap (λ o. pair_of (Some lens.0) o (table_on s New number)) o ∙ ap (pair_of (Some lens.0) (Some old)) n in
    cc

pub old_alone : (s : State) (number : ℕ) (old : Table) → IsState s → shared s number ≡ None → table_on s Old number ≡ Some old → table_on s New number ≡ None
old_alone s number old stands none o = by_table (table_on s New number) refl
  where
    by_table : (new : Option Table) → table_on s New number ≡ new → new ≡ None
    by_table None e = refl
    by_table (Some new) e = absurd (not_both s number old new stands none o e)

pub new_alone : (s : State) (number : ℕ) (new : Table) → IsState s → shared s number ≡ None → table_on s New number ≡ Some new → table_on s Old number ≡ None
new_alone s number new stands none n = by_table (table_on s Old number) refl
  where
    by_table : (old : Option Table) → table_on s Old number ≡ old → old ≡ None
    by_table None e = refl
    by_table (Some old) e = absurd (not_both s number old new stands none e n)

-- ---- tables that a statement finds

other_number : (a b : Bool) → (not a && b) ≡ true → (a ≡ false) × (b ≡ true)
other_number true b h = cc
other_number false b h = (refl, h)

not_among : (number : ℕ) (tables : List Table) (p : Table → Bool) (table : Table) → list_any (λ other. other == number) (map (λ (table : Table). table.1) tables) ≡ false → find p tables ≡ Some table → (table.1 == number) ≡ false
not_among number [] p table h e = cc
not_among number (first ∷ tables) p table h e =
    let parts = neither (first.1 == number) (list_any (λ other. other == number) (map (λ (table : Table). table.1) tables)) h in
    by_test parts.0 (not_among number tables p table parts.1) (p first) e
  where
    by_test : (first.1 == number) ≡ false → (find p tables ≡ Some table → (table.1 == number) ≡ false) → (b : Bool) → (if b then Some first else find p tables) ≡ Some table → (table.1 == number) ≡ false
    by_test here there true e = subst (λ (t : Table). (t.1 == number) ≡ false) (some_same first table e) here
    by_test here there false e = there e

-- A table that is found by any test is found by its number, since numbers differ.
found_by_number : (p : Table → Bool) (tables : List Table) (table : Table) → numbers_differ (map (λ (table : Table). table.1) tables) ≡ true → find p tables ≡ Some table → find {X = Table} (λ other. other.1 == table.1) tables ≡ Some table
found_by_number p [] table h e = cc
found_by_number p (first ∷ tables) table h e =
    let parts = other_number (list_any (λ other. other == first.1) (map (λ (table : Table). table.1) tables)) (numbers_differ (map (λ (table : Table). table.1) tables)) h in
    by_test parts.0 (not_among first.1 tables p table parts.0) (found_by_number p tables table parts.1) (p first) e
  where
    skip : (b : Bool) → b ≡ false → (x y : Option Table) → (if b then x else y) ≡ y
    skip true k x y = cc
    skip false k x y = refl

    here : (b : Bool) → b ≡ true → (x y : Option Table) → (if b then x else y) ≡ x
    here true k x y = refl
    here false k x y = cc

    by_test : list_any (λ other. other == first.1) (map (λ (table : Table). table.1) tables) ≡ false → (find p tables ≡ Some table → (table.1 == first.1) ≡ false) → (find p tables ≡ Some table → find {X = Table} (λ other. other.1 == table.1) tables ≡ Some table) → (b : Bool) → (if b then Some first else find p tables) ≡ Some table → (if first.1 == table.1 then Some first else find {X = Table} (λ other. other.1 == table.1) tables) ≡ Some table
    by_test none differ there true e =
        let is : first ≡ table = some_same first table e in
        let number : first.1 ≡ table.1 = ap (λ (t : Table). t.1) is in
        here (first.1 == table.1) (grind (arith, nat_tests)) (Some first) (find {X = Table} (λ other. other.1 == table.1) tables) ∙ ap Some is
    by_test none differ there false e =
        let apart : (table.1 == first.1) ≡ false = differ e in
        skip (first.1 == table.1) (grind (arith, nat_tests)) (Some first) (find {X = Table} (λ other. other.1 == table.1) tables) ∙ there e

-- The version that a name of a path calls is one that stands.
record Called (s : State) (version : Version) : Type 0 where
  is : schema_on s version.side ≡ Some version.schema
  schema_stands : IsSchema version.schema

called_newer : (s : State) (mode : Mode) → s.mode ≡ mode → ModeStands s mode → (named : List ℕ) (version : Version) → newer_called mode named ≡ Some version → Called s version
called_newer s Calm m h named version e = cc
called_newer s (Both name schema fates) m h named version e = by_test (bytes_eq named (path_name name)) e
  where
    by_test : (b : Bool) → (if b then Some (record { side = New; schema = schema }) else None) ≡ Some version → Called s version
    by_test true e =
        let is = some_same (record { side = New; schema = schema }) version e in
        subst (Called s) is (record { is = ap newer_schema m; schema_stands = h.version.schema_stands })
    by_test false e = cc

called : (s : State) (named : List ℕ) (version : Version) → IsState s → version_called s named ≡ Some version → Called s version
called s named version stands e = by_test (bytes_eq named (path_name s.version)) e
  where
    by_test : (b : Bool) → (if b then Some (record { side = Old; schema = s.schema }) else newer_called s.mode named) ≡ Some version → Called s version
    by_test true e = subst (Called s) (some_same (record { side = Old; schema = s.schema }) version e) (record { is = refl; schema_stands = stands.version.schema_stands })
    by_test false e = called_newer s s.mode refl stands.mode named version e

in_version : (s : State) (name : List ℕ) (version : Version) (found : Found) → Called s version → table_in name version ≡ Some found → TableStands s found
in_version s name version found c e = by_table (find {X = Table} (λ table. bytes_eq (name_of table) name) version.schema.tables) refl e
  where
    by_table : (o : Option Table) → find {X = Table} (λ table. bytes_eq (name_of table) name) version.schema.tables ≡ o → option_map {U = Found} (λ table. record { side = version.side; table = table }) o ≡ Some found → TableStands s found
    by_table None f e = cc
    by_table (Some table) f e =
        let numbered = found_by_number (λ table. bytes_eq (name_of table) name) version.schema.tables table c.schema_stands.numbers f in
        let is = some_same (record { side = version.side; table = table }) found e in
        subst (TableStands s) is (record {
          on_side = ap (option_and_then (λ schema. table_numbered schema (number_of table))) c.is ∙ numbered;
          well_formed = c.schema_stands.shapes (number_of table) (shape_of table) (ap (option_map shape_of) numbered);
        })

through : (s : State) (named name : List ℕ) (found : Found) → IsState s → table_through s named name ≡ Some found → TableStands s found
through s named name found stands e = by_version (version_called s named) refl e
  where
    by_version : (o : Option Version) → version_called s named ≡ o → option_and_then (table_in name) o ≡ Some found → TableStands s found
    by_version None v e = cc
    by_version (Some version) v e = in_version s name version found (called s named version stands v) e

pub found_stands : (s : State) (path : List (List ℕ)) (name : List ℕ) (found : Found) → IsState s → table_of s path name ≡ Some found → TableStands s found
found_stands s [] name found stands e = cc
found_stands s (named ∷ path) name found stands e = by_first (table_through s named name) refl (found_stands s path name found stands) e
  where
    by_first : (o : Option Found) → table_through s named name ≡ o → (table_of s path name ≡ Some found → TableStands s found) → option_or o (table_of s path name) ≡ Some found → TableStands s found
    by_first None f there e = there e
    by_first (Some first) f there e = through s named name found stands (f ∙ e)

-- ---- a shared table, through the new version

newer_stands : (s : State) (mode : Mode) → ModeStands s mode → (number : ℕ) (new : Table) → newer_table mode number ≡ Some new → WellFormed (shape_of new)
newer_stands s Calm h number new e = cc
newer_stands s (Both name schema fates) h number new e = h.version.schema_stands.shapes number (shape_of new) (ap (option_map shape_of) e)

-- Each table of a version is found by its number, or another one is.
pub each_numbered : (tables : List Table) →
    Each (λ table. is_some (find {X = Table} (λ other. other.1 == number_of table) tables) ≡ true) tables
each_numbered [] = tt
each_numbered (t ∷ ts) =
    let itself : (t.1 == t.1) ≡ true = grind (arith, nat_tests) in (
      ap (λ b. is_some (if b then Some t else find {X = Table} (λ other. other.1 == t.1) ts)) itself,
      each_so (λ (u : Table). is_some (find {X = Table} (λ other. other.1 == u.1) ts) ≡ true) (λ (u : Table). is_some (find {X = Table} (λ other. other.1 == u.1) (t ∷ ts)) ≡ true) (λ u h. by_test (t.1 == u.1) (find {X = Table} (λ other. other.1 == u.1) ts) h) ts (each_numbered ts),
    )
  where
    by_test : (b : Bool) (found : Option Table) → is_some found ≡ true →
        is_some (if b then Some t else found) ≡ true
    by_test true found h = refl
    by_test false found h = h

-- A table that is found by a number has it.
pub number_found : (number : ℕ) (tables : List Table) (table : Table) → find {X = Table} (λ t. t.1 == number) tables ≡ Some table → number_of table ≡ number
number_found number [] table h = cc
number_found number (t ∷ ts) table h = by_test (number_found number ts table) (t.1 == number) refl h
  where
    by_test : (find {X = Table} (λ t. t.1 == number) ts ≡ Some table → number_of table ≡ number) → (b : Bool) → (t.1 == number) ≡ b → (if b then Some t else find {X = Table} (λ t. t.1 == number) ts) ≡ Some table → number_of table ≡ number
    by_test more true is k = let same : t ≡ table = some_same t table k in subst (λ (u : Table). u.1 ≡ number) same (grind (arith, nat_tests))
    by_test more false is k = more k

pub number_on : (s : State) (number : ℕ) (table : Table) → table_on s New number ≡ Some table → number_of table ≡ number
number_on s number table h = by_version (newer_schema s.mode) h
  where
    by_version : (version : Option Schema) → option_and_then (λ schema. table_numbered schema number) version ≡ Some table → number_of table ≡ number
    by_version None h = cc
    by_version (Some schema) h = number_found number schema.tables table h

-- The new version's table, as a batch fills it.
pub new_stands : (s : State) (number : ℕ) (pair : Shared) → IsState s → shared s number ≡ Some pair → (number_of pair.new ≡ number) × TableStands s (record { side = New; table = pair.new })
new_stands s number pair stands is =
    let p = pair_stands s number pair stands is in
    let same : number_of pair.new ≡ number = number_on s number pair.new p.new in (
      same,
      record {
        on_side = subst (λ n. table_on s New n ≡ Some pair.new) (sym same) p.new;
        well_formed = newer_stands s s.mode stands.mode number pair.new p.new;
      },
    )
