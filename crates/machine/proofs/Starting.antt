-- Starting a migration leads from a state that stands to one.
use Rattle.std.proofs.Common.{◌≡◌, ◌∙◌, ℕ, zero, suc, ◌+◌, ◌<◌, ◌≤◌, ℤ, List, [], ◌∷◌, ◌++◌, Bool, true, false, ◌||◌, if◌then◌else◌, Option, Some, None, Result, Ok, Err, length, map, ap, refl, sym, subst, arith}
use Rattle.std.specs.Prelude.{◌==◌, find, is_some, nat_eq, sum_by}
use Rattle.std.specs.List.{AllByRecursion as Each, list_all, list_any, range_with_len}
use Rattle.std.specs.Option.{option_and_then, option_map, option_map_or, option_or}
use Rattle.std.specs.Str.{bytes_eq}
use Rattle.std.proofs.lemmas.Bool.Decides.{nat_tests}
use Rattle.std.proofs.lemmas.List.{length-map, map-append}
use Rattle.std.proofs.lemmas.List.Folds.{list_all-append, list_any-append}
use Rattle.std.proofs.lemmas.List.Sums.{sum_by-append, sum_by-cons}
use Rattle.sql_base.specs.Outcome.{and_then, every}
use Rattle.sql_base.specs.declared.shapes.Shape.{Shape}
use Rattle.sql_base.specs.declared.values.Value.{Value}
use Rattle.mig_lens.specs.declared.columns.Cell.{Cell}
use Rattle.mig_lens.specs.declared.columns.Cell.TheVariants.{Carry, Make, Still}
use Rattle.mig_lens.specs.declared.columns.Lens.{Lens}
use Rattle.mig_lens.specs.declared.columns.Side.TheVariants.{New, Old}
use Rattle.mig_lens.specs.declared.faults.Kind.{Kind}
use Rattle.mig_lens.specs.declared.faults.Kind.TheVariants as kind
use Rattle.mig_lens.specs.declared.faults.PlanFault.{PlanFault}
use Rattle.mig_lens.specs.declared.faults.Refusal.{Refusal}
use Rattle.mig_lens.specs.declared.faults.Refusal.TheVariants.{NameTaken}
use Rattle.mig_lens.specs.declared.migrations.Migration.{Migration}
use Rattle.mig_lens.specs.declared.plans.Fate.{Fate}
use Rattle.mig_lens.specs.declared.plans.Fate.TheVariants as fate
use Rattle.mig_lens.specs.declared.plans.Plan.{Plan}
use Rattle.mig_lens.specs.Laws.{AllBelow, Joins}
use Rattle.mig_lens.specs.Layout.{has_mark, is_make}
use Rattle.mig_lens.specs.Lens.{IsWellFormed, fits, forward, outcomes, unfilled, unfilled_value}
use Rattle.mig_lens.specs.Plan.{Table, created_in, table_numbered}
use Rattle.mig_plan.specs.Plan.{plan_of}
use Rattle.phase_steps.specs.Phases.{already, taken, unfinished}
use Rattle.sql_base.specs.Laws.{all_true, both, either_none}
use Rattle.machine.specs.declared.events.Asked.{Asked}
use Rattle.machine.specs.declared.events.Asked.TheVariants.{Read, Refused as NotRead}
use Rattle.machine.specs.declared.events.Reply.TheVariants.{Start}
use Rattle.row_rules.specs.declared.kinds.Kept.{Kept}
use Rattle.machine.specs.declared.states.Mode.{Mode}
use Rattle.machine.specs.declared.states.Mode.TheVariants.{Both, Calm}
use Rattle.machine.specs.declared.states.State.{State}
use Rattle.machine.specs.State.{fate_among, lens_among, lens_between, newer_schema, row_count, table_on}
use Rattle.row_rules.specs.Site.{number_of, shape_of}
use Rattle.machine.specs.Statement.{max_rows}
use Rattle.machine.specs.Migrate.{active_name, begun_table, created_tables, may_not_start, numbers_of, planned, start, start_planned, started, too_heavy, unplanned}
use Rattle.machine.specs.Done.{Started}
use Rattle.row_rules.specs.Steps.{begun_half, begun_row}
use Rattle.machine.specs.Standing.{Ascends, FateAt, HalfStands, IsState, NewStands, NoneLost, NumbersAscend, RowStands, RowsStand, TablesStand, VersionStands, is_known, may_miss}
use Rattle.machine.proofs.Moving.{Carries, Rows, ascends_mapped, counts_kept, each, each_append, each_both, each_list, each_number, each_so, either_way, map_each, number_each, numbers, numbers_kept, rows_mapped, tables_append, tables_mapped}
use Rattle.machine.proofs.Pairs.{each_numbered}
use Rattle.machine.proofs.Replacing.{each_row, rows_each}
use Rattle.machine.specs.Below.{Below}
use Rattle.machine.proofs.Outcomes.{Holds, Stands, holds_guarded, holds_then, holds_without}
use Rattle.machine.proofs.SiteHalves.{same_key}
use Rattle.machine.proofs.Joining.{Pair, lacks_new, lens_at, paired, without_new}

-- ---- a migration that may be started

no_left : (k : Kind) → unfinished k ≡ None → k ≡ kind.Nothing
no_left kind.Nothing h = refl
no_left kind.Complete h = cc
no_left kind.Rollback h = cc

not_taken : (b : Bool) (refusal : Refusal) → (if b then Some refusal else None) ≡ None → b ≡ false
not_taken true refusal h = cc
not_taken false refusal h = refl

abbrev or_refusal : Result Plan PlanFault → Result Plan Refusal
or_refusal r = elim r [ Ok plan ↦ Ok plan | Err fault ↦ Err (unplanned fault) ]

pub has_plan : (r : Result Plan PlanFault) (plan : Plan) → or_refusal r ≡ Ok plan → r ≡ Ok plan
has_plan (Ok found) plan h = cc
has_plan (Err fault) plan h = cc

not_active : (mode : Mode) → already (active_name mode) ≡ None → mode ≡ Calm
not_active Calm h = refl
not_active (Both name schema fates) h = cc

-- What is so where a migration is started by this plan.
record Begins (s : State) (m : Migration) (plan : Plan) : Type 0 where
  calm : s.mode ≡ Calm
  no_steps : s.kind ≡ kind.Nothing
  named : bytes_eq m.name s.version ≡ false
  is_plan : plan_of s.schema s.next_table m ≡ Ok plan

-- ---- the half that a row begins with

pub unfilled_is : (shape : Shape) (old : List Value) (at : ℕ) (cells : List Cell) → list_any is_make cells ≡ false → every (outcomes shape old None at cells) ≡ Ok (map (unfilled_value old) cells)
unfilled_is shape old at [] h = refl
unfilled_is shape old at (Carry from ∷ cells) h = ap (λ r. and_then r (λ values. Ok (unfilled_value old (Carry from) ∷ values))) (unfilled_is shape old (at + 1) cells h)
unfilled_is shape old at (Make up ∷ cells) h = cc
unfilled_is shape old at (Still value ∷ cells) h = ap (λ r. and_then r (λ values. Ok (value ∷ values))) (unfilled_is shape old (at + 1) cells h)

-- The new half that is made of an old half that stands, stands too.
forward_stands : Below → (lens : Lens) (old new : Table) (key : ℤ) (half made : List Value) → fits lens (shape_of old) (shape_of new) ≡ true → IsWellFormed lens (shape_of old) (shape_of new) → HalfStands (Some old) key (Some half) → forward lens (shape_of old) half None ≡ Ok made → HalfStands (Some new) key (Some made)
forward_stands below lens old new key half made fitting well stands is =
    let done = below.forward lens (shape_of old) (shape_of new) half None made fitting well stands.0 refl is in
    (done.0, same_key (shape_of new) made (shape_of old) half done.1 ∙ stands.1)

begun_half_stands : Below → (lens : Lens) (old new : Table) (key : ℤ) (half : Option (List Value)) (mark : Bool) → has_mark lens ≡ mark → fits lens (shape_of old) (shape_of new) ≡ true → IsWellFormed lens (shape_of old) (shape_of new) → HalfStands (Some old) key half → NewStands mark (Some new) key (if mark then None else option_map (unfilled lens) half)
begun_half_stands below lens old new key None mark is fitting well stands = absurd stands
begun_half_stands below lens old new key (Some values) true is fitting well stands = tt
begun_half_stands below lens old new key (Some values) false is fitting well stands =
    forward_stands below lens old new key values (unfilled lens values) fitting well stands (unfilled_is (shape_of old) values 0 lens.new_cols is)

begun_row_stands : Below → (s : State) (name : List ℕ) (plan : Plan) (number : ℕ) (lens : Lens) → Pair (started s name plan) number lens → (row : Kept) → RowStands s number row → RowStands (started s name plan) number (begun_row lens row)
begun_row_stands below s name plan number lens pair row stands =
    record {
      old = stands.old;
      new =
          let half = subst (λ table. HalfStands table row.key row.halves.old) pair.stands.old stands.old in
          let here = begun_half_stands below lens pair.old pair.new row.key row.halves.old (has_mark lens) refl pair.stands.fitting pair.stands.well_formed half in
          subst (λ found. NewStands (may_miss found) (table_on (started s name plan) New number) row.key (begun_half lens row.halves.old)) (sym pair.is_shared)
          (subst (λ table. NewStands (has_mark lens) table row.key (begun_half lens row.halves.old)) (sym pair.stands.new) here);
    }

-- ---- tables

begun_number : (fates : List (ℕ × Fate)) (table : Rows) → (begun_table fates table).0 ≡ table.0
begun_number fates table = by_lens (lens_among fates table.0)
  where
    by_lens : (lens : Option Lens) → (option_map_or {U = Rows} (λ lens. (table.0, map (begun_row lens) table.1)) lens table).0 ≡ table.0
    by_lens None = refl
    by_lens (Some lens) = refl

begun_count : (fates : List (ℕ × Fate)) (table : Rows) → length (begun_table fates table).1 ≡ length table.1
begun_count fates table = by_lens (lens_among fates table.0)
  where
    by_lens : (lens : Option Lens) → length (option_map_or {U = Rows} (λ lens. (table.0, map (begun_row lens) table.1)) lens table).1 ≡ length table.1
    by_lens None = refl
    by_lens (Some lens) = length-map table.1 (begun_row lens)

begun_lost : (fates : List (ℕ × Fate)) (table : Rows) → NoneLost table.1 → NoneLost (begun_table fates table).1
begun_lost fates table h = by_lens (lens_among fates table.0)
  where
    by_lens : (lens : Option Lens) → NoneLost (option_map_or {U = Rows} (λ lens. (table.0, map (begun_row lens) table.1)) lens table).1
    by_lens None = h
    by_lens (Some lens) = map_each (begun_row lens) (λ row. row.lost ≡ 0) table.1 h

table_begun : Below → (s : State) (name : List ℕ) (plan : Plan) (table : Rows) (lens : Lens) → lens_among plan.fates table.0 ≡ Some lens → Joins lens table.0 s.schema plan.schema → Carries s (started s name plan) (begun_table plan.fates) table
table_begun below s name plan table lens has joined ascend stand =
    let t = started s name plan in
    let pair = paired t name plan.schema plan.fates refl table.0 lens has joined in
    let one = each (λ row. RowStands s table.0 row → RowStands t table.0 (begun_row lens row)) (begun_row_stands below s name plan table.0 lens pair) table.1 in
    let is : begun_table plan.fates table ≡ (table.0, map (begun_row lens) table.1) = ap (λ found. option_map_or (λ lens. (table.0, map (begun_row lens) table.1)) found table) has in
    subst (λ (made : Rows). Ascends made.1 × RowsStand t made.0 made.1) (sym is) (ascends_mapped (begun_row lens) (λ row. refl) table.1 ascend, rows_mapped s t table.0 (begun_row lens) table.1 one stand)

-- Of a table that the new version hasn't the rows stay as they are.
dropped_row : (s : State) (name : List ℕ) (plan : Plan) (number : ℕ) → s.mode ≡ Calm →
    table_numbered plan.schema number ≡ None → (row : Kept) → RowStands s number row →
    RowStands (started s name plan) number row
dropped_row s name plan number calm lacks row stands =
    let t = started s name plan in
    let none : table_on s New number ≡ None = ap (λ mode. option_and_then (λ schema. table_numbered schema number) (newer_schema mode)) calm in
    let no_half = lacks_new (lens_between s.mode number) (table_on s Old number) (table_on s New number) row.key row.halves.new none stands.new in
    record { old = stands.old; new = without_new (lens_between t.mode number) (table_on t Old number) (table_on t New number) row.key row.halves.new lacks no_half }

table_dropped : (s : State) (name : List ℕ) (plan : Plan) (table : Rows) → s.mode ≡ Calm →
    lens_among plan.fates table.0 ≡ None → table_numbered plan.schema table.0 ≡ None →
    Carries s (started s name plan) (begun_table plan.fates) table
table_dropped s name plan table calm none lacks ascend stand =
    let t = started s name plan in
    let rows = each_row t table.0 table.1 (each_so (RowStands s table.0) (RowStands t table.0) (dropped_row s name plan table.0 calm lacks) table.1 (rows_each s table.0 table.1 stand)) in
    let is : begun_table plan.fates table ≡ table = ap (λ found. option_map_or (λ lens. (table.0, map (begun_row lens) table.1)) found table) none in
    subst (λ (made : Rows). Ascends made.1 × RowsStand t made.0 made.1) (sym is) (ascend, rows)

-- A table of the old version, whichever its fate is.
fate_carries : Below → (s : State) (name : List ℕ) (plan : Plan) (table : Rows) → s.mode ≡ Calm →
    is_some (table_numbered s.schema table.0) ≡ true → (found : Option (ℕ × Fate)) →
    fate_among plan.fates table.0 ≡ found → is_some found ≡ true →
    FateAt s.schema plan.schema table.0 found →
    Carries s (started s name plan) (begun_table plan.fates) table
fate_carries below s name plan table calm known None is has h = cc
fate_carries below s name plan table calm known (Some (owner, fate.Kept lens)) is has h = table_begun below s name plan table lens (ap lens_at is) h
fate_carries below s name plan table calm known (Some (owner, fate.Dropped)) is has h = table_dropped s name plan table calm (ap lens_at is) h.1
fate_carries below s name plan table calm known (Some (owner, fate.Created)) is has h = let no : is_some (table_numbered s.schema table.0) ≡ false = ap is_some h.0 in cc

-- ---- created tables

created_numbers : (ns : List ℕ) → numbers (map (λ number. (number, [])) ns) ≡ ns
created_numbers [] = refl
created_numbers (n ∷ ns) = ap (λ ns. n ∷ ns) (created_numbers ns)

created_count : (ns : List ℕ) →
    sum_by {X = Rows} (λ table. length table.1) (map (λ number. (number, [])) ns) ≡ 0
created_count [] = refl
created_count (n ∷ ns) =
    let more : List Rows = map (λ number. (number, [])) ns in
    omega (arith, sum_by-cons {X = Rows} (λ table. length table.1) (n, []) more, created_count ns)

created_stand : (t : State) (ns : List ℕ) → TablesStand t (map (λ number. (number, [])) ns)
created_stand t [] = tt
created_stand t (n ∷ ns) = (tt, tt, created_stand t ns)

-- A table that is created has a fate.
created_has_fate : (fates : List (ℕ × Fate)) →
    Each (λ number. is_some (fate_among fates number) ≡ true) (created_in fates)
created_has_fate [] = tt
created_has_fate ((first, kind) ∷ fates) = by_kind kind (created_has_fate fates)
  where
    by_test : (kind : Fate) (number : ℕ) (b : Bool) → is_some (fate_among fates number) ≡ true →
        is_some (if b then Some (first, kind) else fate_among fates number) ≡ true
    by_test kind number true h = refl
    by_test kind number false h = h

    later : (kind : Fate) → Each (λ number. is_some (fate_among fates number) ≡ true) (created_in fates) →
        Each (λ number. is_some (fate_among ((first, kind) ∷ fates) number) ≡ true) (created_in fates)
    later kind h = each_so (λ number. is_some (fate_among fates number) ≡ true) (λ number. is_some (fate_among ((first, kind) ∷ fates) number) ≡ true) (λ number h. by_test kind number (first == number) h) (created_in fates) h

    by_kind : (kind : Fate) → Each (λ number. is_some (fate_among fates number) ≡ true) (created_in fates) →
        Each (λ number. is_some (fate_among ((first, kind) ∷ fates) number) ≡ true) (created_in ((first, kind) ∷ fates))
    by_kind (fate.Kept lens) h = later (fate.Kept lens) h
    by_kind fate.Dropped h = later fate.Dropped h
    by_kind fate.Created h =
        let itself : (first == first) ≡ true = grind (arith, nat_tests) in
        (ap (λ b. is_some (if b then Some (first, fate.Created) else fate_among fates first)) itself, later fate.Created h)

-- And one with that fate is created.
fate_is_created : (fates : List (ℕ × Fate)) (number owner : ℕ) →
    fate_among fates number ≡ Some (owner, fate.Created) →
    list_any (nat_eq number) (created_in fates) ≡ true
fate_is_created [] number owner h = cc
fate_is_created ((first, kind) ∷ fates) number owner h = by_test (first == number) refl kind (fate_is_created fates number owner) h
  where
    by_test : (b : Bool) → (first == number) ≡ b → (kind : Fate) →
        (fate_among fates number ≡ Some (owner, fate.Created) → list_any (nat_eq number) (created_in fates) ≡ true) →
        (if b then Some (first, kind) else fate_among fates number) ≡ Some (owner, fate.Created) → list_any (nat_eq number) (created_in ((first, kind) ∷ fates)) ≡ true
    by_test true e (fate.Kept lens) more h = let no : Some (fate.Kept lens) ≡ Some fate.Created = ap (option_map (λ fate. fate.1)) h in cc
    by_test true e fate.Dropped more h = let no : Some fate.Dropped ≡ Some fate.Created = ap (option_map (λ fate. fate.1)) h in cc
    by_test true e fate.Created more h =
        let same : nat_eq number first ≡ true = grind (arith, nat_tests) in
        ap (λ b. b || list_any (nat_eq number) (created_in fates)) same
    by_test false e (fate.Kept lens) more h = more h
    by_test false e fate.Dropped more h = more h
    by_test false e fate.Created more h = either_way (nat_eq number first) (list_any (nat_eq number) (created_in fates)) (more h)

-- ---- numbers

-- A number of one of these tables is below the next one.
found_below : (next number : ℕ) (tables : List Table) → AllBelow next tables →
    is_some (find {X = Table} (λ table. table.1 == number) tables) ≡ true → number < next
found_below next number [] h has = cc
found_below next number (table ∷ tables) h has = by_test (found_below next number tables h.1) (table.1 == number) refl has
  where
    by_test : (is_some (find {X = Table} (λ table. table.1 == number) tables) ≡ true → number < next) →
        (b : Bool) → (table.1 == number) ≡ b →
        is_some (if b then Some table else find {X = Table} (λ table. table.1 == number) tables) ≡ true →
        number < next
    by_test more true e has = let same : table.1 ≡ number = grind (arith, nat_tests) in subst (λ n. n < next) same h.0
    by_test more false e has = more has

below_more : (next more : ℕ) (tables : List Table) → AllBelow next tables → AllBelow (next + more) tables
below_more next more [] h = tt
below_more next more (table ∷ tables) h = (omega (arith, h.0), below_more next more tables h.1)

from_next : (next n : ℕ) → Each (λ number. next ≤ number) (range_with_len next n)
from_next next zero = tt
from_next next (suc n) = (omega arith, each_so (λ number. next + 1 ≤ number) (λ number. next ≤ number) (λ number h. omega arith) (range_with_len (next + 1) n) (from_next (next + 1) n))

counted_ascend : (next n : ℕ) → NumbersAscend (range_with_len next n)
counted_ascend next zero = tt
counted_ascend next (suc zero) = tt
counted_ascend next (suc (suc n)) = (omega arith, counted_ascend (next + 1) (suc n))

-- Numbers below the next one, and those from it on.
ascend_append : (next : ℕ) (tables : List Rows) (ns : List ℕ) → NumbersAscend (numbers tables) →
    Each (λ table. table.0 < next) tables → NumbersAscend ns → Each (λ number. next ≤ number) ns →
    NumbersAscend (numbers tables ++ ns)
ascend_append next [] ns a b c d = c
ascend_append next (t ∷ []) [] a b c d = tt
ascend_append next (t ∷ []) (n ∷ ns) a b c d = (omega (arith, b.0, d.0), c)
ascend_append next (t ∷ u ∷ tables) ns a b c d = (a.0, ascend_append next (u ∷ tables) ns a.1 b.1 c d)

-- ---- the versions

-- More rows leave a version with all of its own.
has_all_more : (ns more : List ℕ) (tables : List Table) →
    list_all (λ table. list_any (nat_eq (number_of table)) ns) tables ≡ true →
    list_all (λ table. list_any (nat_eq (number_of table)) (ns ++ more)) tables ≡ true
has_all_more ns more [] h = refl
has_all_more ns more (table ∷ tables) h =
    let parts = both (list_any (nat_eq (number_of table)) ns) (list_all (λ (table : Table). list_any (nat_eq (number_of table)) ns) tables) h in
    all_true (list_any (nat_eq (number_of table)) (ns ++ more)) (list_all (λ (table : Table). list_any (nat_eq (number_of table)) (ns ++ more)) tables)
    (list_any-append (nat_eq (number_of table)) ns more ∙ ap (λ b. b || list_any (nat_eq (number_of table)) more) parts.0) (has_all_more ns more tables parts.1)

pub there_is : {X : Type 0} (found : Option X) → is_some found ≡ true → (x : X) × (found ≡ Some x)
there_is None h = cc
there_is (Some x) h = (x, refl)

known_shape : (found : Option Table) (shape : Shape) → option_map (λ table. table.2) found ≡ Some shape → is_some found ≡ true
known_shape None shape h = cc
known_shape (Some table) shape h = refl

-- A table that is found by its number has its rows, where all of a version's have theirs.
has_rows : (ns : List ℕ) (number : ℕ) (tables : List Table) →
    list_all (λ table. list_any (nat_eq (number_of table)) ns) tables ≡ true →
    is_some (find {X = Table} (λ table. table.1 == number) tables) ≡ true →
    list_any (nat_eq number) ns ≡ true
has_rows ns number [] all has = cc
has_rows ns number (table ∷ tables) all has =
    let parts = both (list_any (nat_eq (number_of table)) ns) (list_all (λ (table : Table). list_any (nat_eq (number_of table)) ns) tables) all in
    by_test parts.0 (has_rows ns number tables parts.1) (table.1 == number) refl has
  where
    by_test : list_any (nat_eq (number_of table)) ns ≡ true →
        (is_some (find {X = Table} (λ table. table.1 == number) tables) ≡ true → list_any (nat_eq number) ns ≡ true) →
        (b : Bool) → (table.1 == number) ≡ b →
        is_some (if b then Some table else find {X = Table} (λ table. table.1 == number) tables) ≡ true →
        list_any (nat_eq number) ns ≡ true
    by_test here more true e has = let same : table.1 ≡ number = grind (arith, nat_tests) in subst (λ n. list_any (nat_eq n) ns ≡ true) same here
    by_test here more false e has = more has

-- ---- the whole state

left_known : (old : Bool) (new : Option Table) → new ≡ None → (old || is_some new) ≡ true → old ≡ true
left_known true new is h = refl
left_known false None is h = h
left_known false (Some new) is h = cc

module _ (below : Below) (s : State) (m : Migration) (plan : Plan) (stands : IsState s) (begins : Begins s m plan) where
  fates_stand : (number : ℕ) → FateAt s.schema plan.schema number (fate_among plan.fates number)
  fates_stand number = by_fate (fate_among plan.fates number) refl
    where
      by_fate : (found : Option (ℕ × Fate)) → fate_among plan.fates number ≡ found →
          FateAt s.schema plan.schema number found
      by_fate None is = tt
      by_fate (Some (owner, fate)) is = below.fates s.schema s.next_table m plan stands.version.schema_stands stands.version.below begins.is_plan number owner fate is

  have_fates : (number : ℕ) →
      (is_some (table_numbered s.schema number) || is_some (table_numbered plan.schema number)) ≡ true →
      is_some (fate_among plan.fates number) ≡ true
  have_fates = below.all s.schema s.next_table m plan stands.version.schema_stands stands.version.below begins.is_plan

  -- ---- the tables of the old version

  old_known : (number : ℕ) → is_known s number ≡ true → is_some (table_numbered s.schema number) ≡ true
  old_known number known =
      left_known (is_some (table_numbered s.schema number)) (table_on s New number) (ap (λ mode. option_and_then (λ schema. table_numbered schema number) (newer_schema mode)) begins.calm) known

  each_old : Each (λ u. is_some (table_numbered s.schema u.0) ≡ true) s.tables
  each_old = each_so (λ u. is_known s u.0 ≡ true) (λ u. is_some (table_numbered s.schema u.0) ≡ true) (λ u. old_known u.0) s.tables (each_number (is_known s) s.tables stands.known)

  each_below : Each (λ u. u.0 < s.next_table) s.tables
  each_below = each_so (λ u. is_some (table_numbered s.schema u.0) ≡ true) (λ u. u.0 < s.next_table) (λ u. found_below s.next_table u.0 s.schema.tables stands.version.below) s.tables each_old

  each_carries : Each (Carries s (started s m.name plan) (begun_table plan.fates)) s.tables
  each_carries = each_so (λ u. is_some (table_numbered s.schema u.0) ≡ true) (Carries s (started s m.name plan) (begun_table plan.fates)) carries s.tables each_old
    where
      carries : (u : Rows) → is_some (table_numbered s.schema u.0) ≡ true →
          Carries s (started s m.name plan) (begun_table plan.fates) u
      carries u known =
          let has = have_fates u.0 (ap (λ b. b || is_some (table_numbered plan.schema u.0)) known) in
          fate_carries below s m.name plan u begins.calm known (fate_among plan.fates u.0) refl has (fates_stand u.0)

  -- ---- the tables that are created

  counted : created_in plan.fates ≡ range_with_len s.next_table (length (created_in plan.fates))
  counted = below.numbered s.schema s.next_table m plan stands.version.schema_stands stands.version.below begins.is_plan

  created_above : Each (λ number. s.next_table ≤ number) (created_in plan.fates)
  created_above = subst (Each (λ number. s.next_table ≤ number)) (sym counted) (from_next s.next_table (length (created_in plan.fates)))

  created_ascend : NumbersAscend (created_in plan.fates)
  created_ascend = subst NumbersAscend (sym counted) (counted_ascend s.next_table (length (created_in plan.fates)))

  created_known : Each (λ number. is_some (table_numbered plan.schema number) ≡ true) (created_in plan.fates)
  created_known =
      each_both (λ number. is_some (fate_among plan.fates number) ≡ true) (λ number. s.next_table ≤ number) (λ number. is_some (table_numbered plan.schema number) ≡ true)
      (λ number has above. by_fate number above (fate_among plan.fates number) has (fates_stand number)) (created_in plan.fates) (created_has_fate plan.fates) created_above
    where
      by_fate : (number : ℕ) → s.next_table ≤ number → (found : Option (ℕ × Fate)) → is_some found ≡ true →
          FateAt s.schema plan.schema number found → is_some (table_numbered plan.schema number) ≡ true
      by_fate number above None has h = cc
      by_fate number above (Some (owner, fate.Kept lens)) has h = known_shape (table_numbered plan.schema number) h.after h.in_new
      by_fate number above (Some (owner, fate.Created)) has h = h.1
      by_fate number above (Some (owner, fate.Dropped)) has h =
          let low = found_below s.next_table number s.schema.tables stands.version.below h.0 in
          absurd (omega (arith, low, above))

  -- ---- both versions' tables

  same_numbers : numbers_of (started s m.name plan) ≡ numbers_of s ++ created_in plan.fates
  same_numbers =
      map-append (λ (table : Rows). table.0) (map (begun_table plan.fates) s.tables) (created_tables plan.fates)
      ∙ ap (λ ns. ns ++ numbers (created_tables plan.fates)) (numbers_kept (begun_table plan.fates) (begun_number plan.fates) s.tables)
      ∙ ap (λ ns. numbers_of s ++ ns) (created_numbers (created_in plan.fates))

  -- A table of the new version has its rows.
  new_among : (number : ℕ) → is_some (table_numbered plan.schema number) ≡ true →
      list_any (nat_eq number) (numbers_of s ++ created_in plan.fates) ≡ true
  new_among number has =
      list_any-append (nat_eq number) (numbers_of s) (created_in plan.fates)
      ∙ by_fate (fate_among plan.fates number) refl (have_fates number (either_way (is_some (table_numbered s.schema number)) (is_some (table_numbered plan.schema number)) has)) (fates_stand number)
    where
      by_fate : (found : Option (ℕ × Fate)) → fate_among plan.fates number ≡ found → is_some found ≡ true →
          FateAt s.schema plan.schema number found →
          (list_any (nat_eq number) (numbers_of s) || list_any (nat_eq number) (created_in plan.fates)) ≡ true
      by_fate None is some h = cc
      by_fate (Some (owner, fate.Kept lens)) is some h =
          ap (λ b. b || list_any (nat_eq number) (created_in plan.fates)) (has_rows (numbers_of s) number s.schema.tables stands.version.rows (known_shape (table_numbered s.schema number) h.before h.in_old))
      by_fate (Some (owner, fate.Created)) is some h =
          either_way (list_any (nat_eq number) (numbers_of s)) (list_any (nat_eq number) (created_in plan.fates)) (fate_is_created plan.fates number owner is)
      by_fate (Some (owner, fate.Dropped)) is some h = let no : is_some (table_numbered plan.schema number) ≡ false = ap is_some h.1 in cc

  old_version : VersionStands s.schema (numbers_of s ++ created_in plan.fates) (s.next_table + length (created_in plan.fates))
  old_version = record {
    schema_stands = stands.version.schema_stands;
    rows = has_all_more (numbers_of s) (created_in plan.fates) s.schema.tables stands.version.rows;
    below = below_more s.next_table (length (created_in plan.fates)) s.schema.tables stands.version.below;
  }

  new_version : VersionStands plan.schema (numbers_of s ++ created_in plan.fates) (s.next_table + length (created_in plan.fates))
  new_version = record {
    schema_stands = below.schemas s.schema s.next_table m plan stands.version.schema_stands stands.version.below begins.is_plan;
    rows = each_list (λ (table : Table). list_any (nat_eq (number_of table)) (numbers_of s ++ created_in plan.fates)) plan.schema.tables
        (each_so (λ (table : Table). is_some (table_numbered plan.schema (number_of table)) ≡ true) (λ (table : Table). list_any (nat_eq (number_of table)) (numbers_of s ++ created_in plan.fates) ≡ true)
        (λ table. new_among (number_of table)) plan.schema.tables (each_numbered plan.schema.tables));
    below = below.next s.schema s.next_table m plan stands.version.schema_stands stands.version.below begins.is_plan;
  }

  all_known : list_all (is_known (started s m.name plan)) (numbers_of s ++ created_in plan.fates) ≡ true
  all_known =
      let t = started s m.name plan in
      let old = each_so (λ u. is_some (table_numbered s.schema u.0) ≡ true) (λ u. is_known t u.0 ≡ true) (λ u h. ap (λ b. b || is_some (table_numbered plan.schema u.0)) h) s.tables each_old in
      let new = each_so (λ number. is_some (table_numbered plan.schema number) ≡ true) (λ number. is_known t number ≡ true) (λ number h. either_way (is_some (table_numbered s.schema number)) (is_some (table_numbered plan.schema number)) h) (created_in plan.fates) created_known in
      list_all-append (is_known t) (numbers_of s) (created_in plan.fates)
      ∙ all_true (list_all (is_known t) (numbers_of s)) (list_all (is_known t) (created_in plan.fates)) (number_each (is_known t) s.tables old) (each_list (is_known t) (created_in plan.fates) new)

  no_more_rows : row_count (started s m.name plan) ≡ row_count s
  no_more_rows =
      let all = sum_by-append (λ (table : Rows). length table.1) (map (begun_table plan.fates) s.tables) (created_tables plan.fates) in
      let same = counts_kept (begun_table plan.fates) (begun_count plan.fates) s.tables in
      let none = created_count (created_in plan.fates) in
      omega (arith, all, same, none)

  nothing_lost : Each (λ (table : Rows). NoneLost table.1) s.tables →
      Each (λ (table : Rows). NoneLost table.1) (started s m.name plan).tables
  nothing_lost none =
      each_append (λ (table : Rows). NoneLost table.1) (map (begun_table plan.fates) s.tables) (created_tables plan.fates)
      (map_each (begun_table plan.fates) (λ table. NoneLost table.1) s.tables (each_so (λ table. NoneLost table.1) (λ table. NoneLost (begun_table plan.fates table).1) (begun_lost plan.fates) s.tables none))
      (map_each {Y = Rows} (λ number. (number, [])) (λ table. NoneLost table.1) (created_in plan.fates) (each (λ number. NoneLost []) (λ number. tt) (created_in plan.fates)))

  started_state : IsState (started s m.name plan)
  started_state =
      let t = started s m.name plan in
      record {
        steps = stands.steps;
        version = subst (λ ns. VersionStands s.schema ns t.next_table) (sym same_numbers) old_version;
        mode = record {
          version = subst (λ ns. VersionStands plan.schema ns t.next_table) (sym same_numbers) new_version;
          named = begins.named;
          no_steps = begins.no_steps;
          fates_stand = fates_stand;
          all = have_fates;
        };
        numbers = subst NumbersAscend (sym same_numbers) (ascend_append s.next_table s.tables (created_in plan.fates) stands.numbers each_below created_ascend created_above);
        known = subst (λ ns. list_all (is_known t) ns ≡ true) (sym same_numbers) all_known;
        tables = tables_append t (map (begun_table plan.fates) s.tables) (created_tables plan.fates) (tables_mapped s t (begun_table plan.fates) s.tables each_carries stands.tables) (created_stand t (created_in plan.fates));
        few = subst (λ n. n ≤ max_rows) (sym no_more_rows) stands.few;
        lost = λ none. record { columns = (stands.lost none).columns; rows = nothing_lost (stands.lost none).rows };
      }

-- What is so where nothing refuses the start.
begins_so : (s : State) (m : Migration) (plan : Plan) → may_not_start s m ≡ None → planned s m ≡ Ok plan → Begins s m plan
begins_so s m plan allowed is =
    let names = option_or (already (active_name s.mode)) (taken s.version m.name) in
    let tidy = either_none (unfinished s.kind) names allowed in
    let free = either_none (already (active_name s.mode)) (taken s.version m.name) tidy.1 in
    record {
      calm = not_active s.mode free.0;
      no_steps = no_left s.kind tidy.0;
      named = not_taken (bytes_eq m.name s.version) (NameTaken m.name) free.1;
      is_plan = has_plan (plan_of s.schema s.next_table m) plan is;
    }

-- What a migration that is started begins with stands.
pub planned_stands : Below → (s : State) (m : Migration) (plan : Plan) → IsState s → may_not_start s m ≡ None → planned s m ≡ Ok plan → IsState (started s m.name plan)
planned_stands below s m plan stands allowed is = started_state below s m plan stands (begins_so s m plan allowed is)

-- Starting a migration leads from a state that stands to one.
pub started_stands : Below → (s : State) (asked : Asked) → IsState s → Holds Stands (start s asked)
started_stands below s (NotRead refusal) stands = tt
started_stands below s (Read m) stands =
    holds_guarded Stands (may_not_start s m) (and_then (planned s m) (start_planned s m))
    (λ allowed. holds_then Stands (planned s m) (start_planned s m)
    (λ plan is. holds_without Stands (too_heavy s plan) (record { reply = Start m.name; after = started s m.name plan; wrote = Started m })
    (λ light. planned_stands below s m plan stands allowed is)))
