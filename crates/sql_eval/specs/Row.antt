-- What is wrong with a row of a shape, and which other row has the same values.
use Rattle.std.specs.Prelude.{ℕ, ℤ, ◌+◌, Bool, true, false, not, ◌&&◌, List, [], ◌∷◌, map, slice_index_or, Option, Some, None, Ok, Err, if◌then◌else◌}
use Rattle.std.specs.List.{filter}
use Rattle.std.specs.Int.{int_min}
use Rattle.std.specs.Map.{lookup, keys_of}
use Rattle.std.specs.Option.{option_or}
use Rattle.std.specs.Ordering.{int_eq}
use Rattle.sql_base.specs.declared.values.Value.{Value}
use Rattle.sql_base.specs.declared.values.Value.TheVariants.{Null}
use Rattle.sql_base.specs.declared.shapes.Column.{Column}
use Rattle.sql_base.specs.declared.shapes.Unique.{Unique}
use Rattle.sql_base.specs.declared.shapes.Shape.{Shape}
use Rattle.sql_base.specs.declared.faults.RowFault.{RowFault}
use Rattle.sql_base.specs.declared.faults.RowFault.TheVariants as fault
use Rattle.sql_eval.specs.Value.{Outcome, is_null, is_truth, alike}
use Rattle.sql_eval.specs.Eval.{eval}

-- ---- the first fault; that NOT NULL comes before checks is our own

-- The first NULL in a NOT NULL column, by column order, from this place on.
-- PostgreSQL manual, 5.4.2 Not-Null Constraints.
abbrev pub null_fault : ℕ → List Column → List Value → Option RowFault
null_fault at (c ∷ cs) (v ∷ vs) = if not c.nullable && is_null v then Some (fault.Null at) else null_fault (at + 1) cs vs
null_fault at _ _ = None

-- what a check at this place comes to. It is met where it is true or NULL: PostgreSQL manual, 5.4.1 Check Constraints.
abbrev pub broken : ℕ → Outcome → Option RowFault
broken at (Ok v) = if is_truth false v then Some (fault.Check at) else None
broken at (Err f) = Some (fault.Eval at f)

-- The first check, by check order, that is false or faults, from this place on.
abbrev pub check_fault : ℕ → List Outcome → Option RowFault
check_fault at [] = None
check_fault at (r ∷ rs) = option_or (broken at r) (check_fault (at + 1) rs)

abbrev pub row_fault : Shape → List Value → Option RowFault
row_fault shape row = option_or (null_fault 0 shape.columns row) (check_fault 0 (map (λ check. eval shape row check.expr) shape.checks))

-- ---- the least clash

-- Each value is like the one at its place; so none where one is NULL. PostgreSQL manual, 5.4.3 Unique Constraints.
abbrev pub all_alike : List Value → List Value → Bool
all_alike [] [] = true
all_alike (x ∷ xs) (y ∷ ys) = alike x y && all_alike xs ys
all_alike _ _ = false

abbrev pub least : List ℤ → Option ℤ
least [] = None
least (k ∷ ks) = Some (elim (least ks) [ None ↦ k | Some l ↦ int_min k l ])

-- Of values by key: the least key, other than this one, whose values are each like these.
abbrev pub least_clash : List Value → List (ℤ × List Value) → ℤ → Option ℤ
least_clash values entries key = least (keys_of (filter (λ entry. not (int_eq entry.0 key) && all_alike values entry.1) entries))

-- a row's values in the columns of a unique constraint
abbrev pub values_of : Unique → List Value → List Value
values_of unique row = map (λ at. slice_index_or row at Null) unique.columns

-- Of rows by key: the least other key whose values in the unique's columns are each like those of this key's row.
abbrev pub clash : Unique → List (ℤ × List Value) → ℤ → Option ℤ
clash unique rows key = elim (lookup (int_eq key) rows) [
  | None ↦ None
  | Some row ↦ least_clash (values_of unique row) (map (λ r. (r.0, values_of unique r.1)) rows) key
]
