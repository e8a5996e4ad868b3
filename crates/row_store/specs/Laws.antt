-- What changes leave in the order of the keys, and what a scan finds.
use Rattle.std.specs.Prelude.{◌≡◌, ℤ, true, not, List, Some, None, MatchOption}
use Rattle.std.specs.FinMap as map
use Rattle.std.specs.List.{filter}
use Rattle.std.specs.Ordering.{int_cmp, int_eq, is_le, is_lt}
use Rattle.sql_base.specs.declared.values.Value.{Value}
use Rattle.row_store.specs.Stored.{Rows, first_from}

abbrev pub PutIsInOrder : Type 0
PutIsInOrder = (rows : Rows) (key : ℤ) (row : List Value) → map.entries (map.insert rows key row) ≡ map.put int_cmp key row (map.entries rows)

abbrev pub RemovedIsLeftOut : Type 0
RemovedIsLeftOut = (rows : Rows) (key : ℤ) → map.entries (map.remove rows key) ≡ filter (λ entry. not (int_eq key entry.0)) (map.entries rows)

-- no row has a key that isn't below this one
abbrev pub HasNoneFrom : ℤ → Rows → Type 0
HasNoneFrom key rows = (other : ℤ) → is_le (int_cmp key other) ≡ true → map.get rows other ≡ None

-- the entry is a row, its key isn't below this one, and no other such key is below it
pub record IsLeastFrom (key : ℤ) (rows : Rows) (entry : ℤ × List Value) : Type 0 where
  pub from : is_le (int_cmp key entry.0) ≡ true
  pub there : map.get rows entry.0 ≡ Some entry.1
  pub least : (other : ℤ) → is_le (int_cmp key other) ≡ true → is_lt (int_cmp other entry.0) ≡ true → map.get rows other ≡ None

abbrev pub FirstIsLeast : Type 0
FirstIsLeast = (key : ℤ) (rows : Rows) → MatchOption (first_from key rows) (HasNoneFrom key rows) (IsLeastFrom key rows)
