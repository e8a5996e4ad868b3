-- What is looked at in rows from outside comes to what holds of the rows of a lawful state that stands.
use Rattle.std.proofs.Common.{◌≡◌, ◌∙◌, ℕ, ℤ, List, Bool, true, false, ◌||◌, ◌==◌, Option, Some, None, is_none, refl, ap, if◌then◌else◌, int_eq, arith}
use Rattle.std.specs.Option.{option_or}
use Rattle.std.proofs.lemmas.Bool.Decides.{nat_tests}
use Rattle.sql_base.specs.Fit.{row_fits}
use Rattle.sql_base.specs.Laws.{all_true, both, either_none}
use Rattle.sql_base.specs.declared.values.Value.{Value}
use Rattle.mig_lens.specs.declared.columns.Side.TheVariants.{Old, New}
use Rattle.mig_lens.specs.Plan.{Table}
use Rattle.row_rules.specs.declared.kinds.Cause.{Cause}
use Rattle.row_rules.specs.declared.kinds.Kept.{Kept}
use Rattle.row_rules.specs.Accept.{clashes_on, side_cause, weight_cause}
use Rattle.row_rules.specs.Site.{key_of, shape_of}
use Rattle.machine.specs.declared.states.State.{State}
use Rattle.machine.specs.Lawful.{IsLawfulRow}
use Rattle.machine.specs.MayPut.{clash_cause, half_stands, lost_row, made_table, may_hold, new_stands, stands_row, lawful_row, unlawful}
use Rattle.machine.specs.Standing.{HalfStands, NewStands, RowStands, may_lose, may_miss}
use Rattle.machine.specs.State.{shared, table_on}
use Rattle.machine.proofs.Choosing.{eq_self}
use Rattle.machine.proofs.Emptying.{same_key}

-- ---- a row stands

half_true : (table : Option Table) (key : ℤ) (half : Option (List Value)) → half_stands table key half ≡ true → HalfStands table key half
half_true None key None h = tt
half_true None key (Some values) h = cc
half_true (Some table) key None h = cc
half_true (Some table) key (Some values) h =
    let parts = both (row_fits (shape_of table) values) (int_eq (key_of (shape_of table) values) key) h in
    (parts.0, same_key (key_of (shape_of table) values) key parts.1)

half_test : (table : Option Table) (key : ℤ) (half : Option (List Value)) → HalfStands table key half → half_stands table key half ≡ true
half_test None key None h = refl
half_test None key (Some values) h = absurd h
half_test (Some table) key None h = absurd h
half_test (Some table) key (Some values) h =
    all_true (row_fits (shape_of table) values) (int_eq (key_of (shape_of table) values) key) h.0
    (ap (λ k. int_eq k key) h.1 ∙ eq_self key)

new_true : (misses : Bool) (table : Option Table) (key : ℤ) (half : Option (List Value)) → new_stands misses table key half ≡ true → NewStands misses table key half
new_true true table key None h = tt
new_true true table key (Some values) h = half_true table key (Some values) h
new_true false table key half h = half_true table key half h

new_test : (misses : Bool) (table : Option Table) (key : ℤ) (half : Option (List Value)) → NewStands misses table key half → new_stands misses table key half ≡ true
new_test true table key None h = refl
new_test true table key (Some values) h = half_test table key (Some values) h
new_test false table key half h = half_test table key half h

row_true : (s : State) (number : ℕ) (row : Kept) → stands_row s number row ≡ true → RowStands s number row
row_true s number row h =
    let old = half_stands (table_on s Old number) row.key row.halves.old in
    let new = new_stands (may_miss (shared s number)) (table_on s New number) row.key row.halves.new in
    let parts = both old new h in
    record {
      old = half_true (table_on s Old number) row.key row.halves.old parts.0;
      new = new_true (may_miss (shared s number)) (table_on s New number) row.key row.halves.new parts.1;
    }

row_test : (s : State) (number : ℕ) (row : Kept) → RowStands s number row → stands_row s number row ≡ true
row_test s number row h =
    all_true (half_stands (table_on s Old number) row.key row.halves.old) (new_stands (may_miss (shared s number)) (table_on s New number) row.key row.halves.new)
    (half_test (table_on s Old number) row.key row.halves.old h.old)
    (new_test (may_miss (shared s number)) (table_on s New number) row.key row.halves.new h.new)

-- ---- nothing is found

pub none_is : {T : Type 0} (o : Option T) → is_none o ≡ true → o ≡ None
none_is None h = refl
none_is (Some x) h = cc

pub is_none_of : {T : Type 0} (o : Option T) → o ≡ None → is_none o ≡ true
is_none_of None h = refl
is_none_of (Some x) h = cc

both_none : {T : Type 0} (a b : Option T) → a ≡ None → b ≡ None → option_or a b ≡ None
both_none None b h k = k
both_none (Some x) b h k = cc

-- What is looked at of a table only where a test says so.
where_so : (look : Option Table → Option Cause) (test : Bool) (table : Option Table) → look (if test then table else None) ≡ None → test ≡ true → look table ≡ None
where_so look true table h is = h
where_so look false table h is = cc

so_where : (look : Option Table → Option Cause) (test : Bool) (table : Option Table) → look None ≡ None → (test ≡ true → look table ≡ None) → look (if test then table else None) ≡ None
so_where look true table none h = h refl
so_where look false table none h = none

-- ---- a row is lawful

lawful_true : (s : State) (number : ℕ) (row : Kept) → unlawful s number row ≡ None → IsLawfulRow s number row
lawful_true s number row h =
    let new = side_cause (made_table s number) row.key row.halves.new in
    let first = either_none (side_cause (table_on s Old number) row.key row.halves.old) (option_or new (weight_cause row)) h in
    let second = either_none new (weight_cause row) first.1 in
    record {
      old = first.0;
      new = where_so (λ table. side_cause table row.key row.halves.new) (may_miss (shared s number)) (table_on s New number) second.0;
      light = second.1;
    }

lawful_test : (s : State) (number : ℕ) (row : Kept) → IsLawfulRow s number row → unlawful s number row ≡ None
lawful_test s number row h =
    let new = side_cause (made_table s number) row.key row.halves.new in
    both_none (side_cause (table_on s Old number) row.key row.halves.old) (option_or new (weight_cause row)) h.old
    (both_none new (weight_cause row) (so_where (λ table. side_cause table row.key row.halves.new) (may_miss (shared s number)) (table_on s New number) refl h.new) h.light)

-- ---- both, and the lost weight

either_or : (a b : Bool) → (a || b) ≡ true → a ≡ false → b ≡ true
either_or true b h is = cc
either_or false b h is = h

or_either : (a b : Bool) → (a ≡ false → b ≡ true) → (a || b) ≡ true
or_either true b h = refl
or_either false b h = h refl

-- The row may be one of the table of this number.
pub record Holds (s : State) (number : ℕ) (row : Kept) : Type 0 where
  pub stands : RowStands s number row
  pub lawful : IsLawfulRow s number row
  pub lost : may_lose s.kind s.left ≡ false → row.lost ≡ 0

pub holds_true : (s : State) (number : ℕ) (row : Kept) → may_hold s number row ≡ true → Holds s number row
holds_true s number row h =
    let first = both (stands_row s number row) _ h in
    let second = both (lost_row s row) (lawful_row s number row) first.1 in
    record {
      stands = row_true s number row first.0;
      lawful = lawful_true s number row (none_is (unlawful s number row) second.1);
      lost = λ none.
          let is : (row.lost == 0) ≡ true = either_or (may_lose s.kind s.left) (row.lost == 0) second.0 none in
          grind (arith, nat_tests);
    }

pub holds_test : (s : State) (number : ℕ) (row : Kept) → Holds s number row → may_hold s number row ≡ true
holds_test s number row h =
    all_true (stands_row s number row) _ (row_test s number row h.stands)
    (all_true (lost_row s row) (lawful_row s number row)
    (or_either (may_lose s.kind s.left) (row.lost == 0) (λ none. let is : row.lost ≡ 0 = h.lost none in grind (arith, nat_tests)))
    (is_none_of (unlawful s number row) (lawful_test s number row h.lawful)))

-- ---- nothing clashes

pub record Apart (s : State) (number : ℕ) (rows : List Kept) (keys : List ℤ) : Type 0 where
  pub old : clashes_on (table_on s Old number) Old rows keys ≡ None
  pub new : may_miss (shared s number) ≡ true → clashes_on (table_on s New number) New rows keys ≡ None

pub apart_true : (s : State) (number : ℕ) (rows : List Kept) (keys : List ℤ) → clash_cause s number rows keys ≡ None → Apart s number rows keys
apart_true s number rows keys h =
    let parts = either_none (clashes_on (table_on s Old number) Old rows keys) (clashes_on (made_table s number) New rows keys) h in
    record {
      old = parts.0;
      new = where_so (λ table. clashes_on table New rows keys) (may_miss (shared s number)) (table_on s New number) parts.1;
    }

pub apart_test : (s : State) (number : ℕ) (rows : List Kept) (keys : List ℤ) → Apart s number rows keys → clash_cause s number rows keys ≡ None
apart_test s number rows keys h =
    both_none (clashes_on (table_on s Old number) Old rows keys) (clashes_on (made_table s number) New rows keys) h.old
    (so_where (λ table. clashes_on table New rows keys) (may_miss (shared s number)) (table_on s New number) refl h.new)
