-- Completing leads from a state that stands to one.
use Rattle.std.proofs.Common.{◌≡◌, ◌∙◌, inl, inr, ℕ, ℤ, List, [], ◌∷◌, true, cond, Option, Some, None, map, ap, refl, sym, subst}
use Rattle.std.specs.Prelude.{◌==◌, is_none, is_some}
use Rattle.std.specs.List.{AllByRecursion as Each, filter}
use Rattle.std.specs.Option.{option_and_then, option_map, option_map_or}
use Rattle.sql_base.specs.declared.shapes.Schema.{Schema}
use Rattle.sql_base.specs.declared.values.Value.{Value}
use Rattle.sql_base.specs.Laws.{either_none}
use Rattle.sql_eval.specs.Row.{least}
use Rattle.mig_lens.specs.declared.columns.Side.TheVariants.{New}
use Rattle.mig_lens.specs.declared.faults.Kind.TheVariants as kind
use Rattle.mig_lens.specs.declared.faults.Refusal.{Refusal}
use Rattle.mig_lens.specs.declared.faults.Refusal.TheVariants.{NotFilled}
use Rattle.mig_lens.specs.declared.plans.Fate.{Fate}
use Rattle.mig_lens.specs.Plan.{Table}
use Rattle.row_rules.specs.declared.kinds.Kept.{Kept}
use Rattle.row_rules.specs.Site.{name_of}
use Rattle.machine.specs.declared.states.Mode.{Mode}
use Rattle.machine.specs.declared.states.Mode.TheVariants.{Calm, Both}
use Rattle.machine.specs.declared.states.State.{State}
use Rattle.machine.specs.State.{Shared, rows_of, shared, table_on}
use Rattle.machine.specs.Migrate.{by_completing, complete, finish, invalid, may_not_complete, not_filled, not_filled_in, not_valid, numbers_of, standing_alone, stepped, tidied}
use Rattle.machine.specs.Standing.{HalfStands, IsState, ModeStands, NewStands, NewerStands, RowStands, StepsStand, may_miss}
use Rattle.machine.proofs.Alone.{HalfStays, HalvesStay, alone_stands}
use Rattle.machine.proofs.Outcomes.{Holds, Stands, holds_without}
use Rattle.machine.proofs.Replacing.{rows_each, rows_stand}
use Rattle.machine.proofs.Tidied.{emptied_stands, ended_stands}
use Rattle.machine.proofs.Tidying.{completing_so, tidied_so}
use Rattle.machine.proofs.SiteHalves.{new_half}
use Rattle.machine.proofs.Joining.{on_new}
use Rattle.machine.proofs.Moving.{IsFound, Rows, each_both, each_found, each_so, numbers}

-- ---- no new half is missing

all_filled : (s : State) (tables : List Rows) → not_filled s (numbers tables) ≡ None → Each (λ table. not_filled_in s table.0 ≡ None) tables
all_filled s [] h = tt
all_filled s (t ∷ ts) h =
    let parts = either_none (not_filled_in s t.0) (not_filled s (numbers ts)) h in
    (parts.0, all_filled s ts parts.1)

no_least : (keys : List ℤ) (refuse : ℤ → Refusal) → option_map refuse (least keys) ≡ None → keys ≡ []
no_least [] refuse h = refl
no_least (key ∷ keys) refuse h = cc

abbrev pub IsFilled : Kept → Type 0
IsFilled row = is_some row.halves.new ≡ true

abbrev unfilled_keys : List Kept → List ℤ
unfilled_keys rows = map (λ row. row.key) (filter (λ row. is_none row.halves.new) rows)

each_filled : (rows : List Kept) → unfilled_keys rows ≡ [] → Each IsFilled rows
each_filled [] h = tt
each_filled (row ∷ rows) h = by_half (each_filled rows) row.halves.new refl h
  where
    by_half : (unfilled_keys rows ≡ [] → Each IsFilled rows) → (half : Option (List Value)) → row.halves.new ≡ half → map (λ row. row.key) (cond (is_none half) (row ∷ filter (λ row. is_none row.halves.new) rows) (filter (λ row. is_none row.halves.new) rows)) ≡ [] → IsFilled row × Each IsFilled rows
    by_half more None is k = cc
    by_half more (Some values) is k = (ap is_some is, more k)

filled_in : (s : State) (number : ℕ) (pair : Shared) (rows : List Kept) → shared s number ≡ Some pair → rows_of s number ≡ rows → not_filled_in s number ≡ None → Each IsFilled rows
filled_in s number pair rows is found h =
    let none : option_map (λ key. NotFilled (name_of pair.new) key) (least (unfilled_keys (rows_of s number))) ≡ None = subst (λ p. option_and_then (λ pair. option_map (λ key. NotFilled (name_of pair.new) key) (least (option_map_or (λ pair. unfilled_keys (rows_of s number)) p []))) p ≡ None) is h in
    each_filled rows (subst (λ rows. unfilled_keys rows ≡ []) found (no_least (unfilled_keys (rows_of s number)) (λ key. NotFilled (name_of pair.new) key) none))

-- A half stands only where it is there.
half_there : (table : Option Table) (key : ℤ) (half : Option (List Value)) → is_some table ≡ true →
    HalfStands table key half → is_some half ≡ true
half_there None key half has h = cc
half_there (Some table) key None has h = absurd h
half_there (Some table) key (Some values) has h = refl

-- Where the new version has a table and none of its rows is still to be filled, each has its new half.
rows_filled : (s : State) (number : ℕ) → IsState s → is_some (table_on s New number) ≡ true →
    not_filled_in s number ≡ None → Each IsFilled (rows_of s number)
rows_filled s number stands has none = by_pair (shared s number) refl
  where
    by_pair : (found : Option Shared) → shared s number ≡ found → Each IsFilled (rows_of s number)
    by_pair (Some pair) is = filled_in s number pair (rows_of s number) is refl none
    by_pair None is =
        each_so (RowStands s number) IsFilled
        (λ row r. half_there (table_on s New number) row.key row.halves.new has (subst (λ pair. NewStands (may_miss pair) (table_on s New number) row.key row.halves.new) is r.new))
        (rows_of s number) (rows_each s number (rows_of s number) (rows_stand s number stands).1)

abbrev pub IsWhole : State → Rows → Type 0
IsWhole s table = is_some (table_on s New table.0) ≡ true → Each IsFilled table.1

pub whole_tables : (s : State) → IsState s → not_filled s (numbers_of s) ≡ None → Each (IsWhole s) s.tables
whole_tables s stands none =
    each_both (IsFound s.tables) (λ u. not_filled_in s u.0 ≡ None) (IsWhole s) whole s.tables (each_found s.tables stands.numbers) (all_filled s s.tables none)
  where
    whole : (u : Rows) → IsFound s.tables u → not_filled_in s u.0 ≡ None → IsWhole s u
    whole u found none has = subst (Each IsFilled) (ap (λ f. option_map_or (λ table. table.1) f []) found) (rows_filled s u.0 stands has none)

-- ---- completing

-- The new half of a row that has one stands in the new version's table.
filled_stays : (s : State) (name : List ℕ) (schema : Schema) (fates : List (ℕ × Fate)) → s.mode ≡ Both name schema fates →
    (number : ℕ) (row : Kept) → IsFilled row → RowStands s number row → HalfStays by_completing name schema fates s number row
filled_stays s name schema fates is number row filled stands =
    subst (λ table. HalfStands table row.key row.halves.new) (on_new s name schema fates is number) (new_half (may_miss (shared s number)) (table_on s New number) row.key row.halves.new filled stands.new)

whole_stays : (s : State) (name : List ℕ) (schema : Schema) (fates : List (ℕ × Fate)) → s.mode ≡ Both name schema fates →
    (u : Rows) → IsWhole s u → HalvesStay by_completing name schema fates s u
whole_stays s name schema fates is u whole stay =
    each_so IsFilled (λ row. RowStands s u.0 row → HalfStays by_completing name schema fates s u.0 row) (filled_stays s name schema fates is u.0) u.1
    (whole (ap is_some (on_new s name schema fates is u.0) ∙ stay))

completed_state : (s : State) (name : List ℕ) (schema : Schema) (fates : List (ℕ × Fate)) → s.mode ≡ Both name schema fates → IsState s →
    NewerStands s name schema fates → not_filled s (numbers_of s) ≡ None → IsState (standing_alone by_completing name schema fates s)
completed_state s name schema fates is stands newer none =
    alone_stands by_completing name schema fates s stands (inl refl) refl newer.version
    (each_so (IsWhole s) (HalvesStay by_completing name schema fates s) (whole_stays s name schema fates is) s.tables (whole_tables s stands none))

-- ---- every step of completing

tidied_stands : (s : State) → IsState s → s.kind ≡ kind.Complete → IsState (tidied s).after
tidied_stands s stands is =
    tidied_so s Stands (s.left == 2)
    (λ two. emptied_stands s 1 s.kind stands (λ no. let differ : kind.Nothing ≡ kind.Complete = sym no ∙ is in absurd cc) (subst (λ k. StepsStand k 1) (sym is) (inr refl)))
    (λ last. ended_stands s stands is last)

finished_stands : (s : State) (m : Mode) → s.mode ≡ m → IsState s → Holds Stands (finish s m)
finished_stands s Calm is stands = tt
finished_stands s (Both name schema fates) is stands =
    holds_without Stands (may_not_complete s) (stepped 1 (standing_alone by_completing name schema fates s))
    (λ allowed. completed_state s name schema fates is stands (subst (ModeStands s) is stands.mode) (either_none (not_filled s (numbers_of s)) (option_map not_valid (invalid s (numbers_of s))) allowed).0)

-- Completing, the migration's completion or a step of tidying after it, leads from a state that stands to one.
pub completed_stands : (s : State) → IsState s → Holds Stands (complete s)
completed_stands s stands = completing_so s Stands (λ is. finished_stands s s.mode refl stands) (λ is. tidied_stands s stands is)
