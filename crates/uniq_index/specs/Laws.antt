-- An index of the values that rows have in the columns of a unique constraint.
use Rattle.std.specs.Prelude.{◌≡◌, ℤ, true, not, List, [], ◌∷◌, Some, None, map}
use Rattle.std.specs.FinMap as finite
use Rattle.std.specs.List.{filter, list_any}
use Rattle.std.specs.Map.{lookup}
use Rattle.std.specs.Ordering.{int_cmp, int_eq}
use Rattle.sql_base.specs.declared.shapes.Unique.{Unique}
use Rattle.sql_base.specs.declared.values.Value.{Value}
use Rattle.sql_eval.specs.Row.{clash, values_of}
use Rattle.sql_eval.specs.Value.{is_null}
use Rattle.uniq_index.specs.Indexed.{Entries, clash_beside, clash_in}

-- The entries are what rows, by ascending key, have in the columns.
abbrev pub Indexes : Unique → List (ℤ × List Value) → Entries → Type 0
Indexes unique rows entries = finite.entries entries ≡ map (λ row. (row.0, values_of unique row.1)) rows

-- The values of a row clash in the index exactly where its key clashes among the rows.
abbrev pub ClashesAreThoseOfRows : Type 0
ClashesAreThoseOfRows = (unique : Unique) (rows : List (ℤ × List Value)) (entries : Entries) (key : ℤ) (row : List Value) → Indexes unique rows entries → lookup (int_eq key) rows ≡ Some row
    → clash_in entries (values_of unique row) key ≡ clash unique rows key

-- Where a row's values are put under its key, the index is that of the rows with this one in its place.
abbrev pub PutIsIndexed : Type 0
PutIsIndexed = (unique : Unique) (rows : List (ℤ × List Value)) (entries : Entries) (key : ℤ) (row : List Value) → Indexes unique rows entries
    → Indexes unique (finite.put int_cmp key row rows) (finite.insert entries key (values_of unique row))

-- Where a key is removed, it is that of the rows without the key's.
abbrev pub RemovedIsNotIndexed : Type 0
RemovedIsNotIndexed = (unique : Unique) (rows : List (ℤ × List Value)) (entries : Entries) (key : ℤ) → Indexes unique rows entries
    → Indexes unique (filter (λ row. not (int_eq key row.0)) rows) (finite.remove entries key)

-- Values of which one is NULL clash with none.
abbrev pub NullsClashWithNone : Type 0
NullsClashWithNone = (entries : Entries) (values : List Value) (key : ℤ) → list_any is_null values ≡ true → clash_in entries values key ≡ None

-- Beside one key it is the clash of that key.
abbrev pub BesideOneKey : Type 0
BesideOneKey = (entries : Entries) (values : List Value) (key : ℤ) → clash_beside entries values (key ∷ []) ≡ clash_in entries values key

abbrev pub NullsClashBesideNone : Type 0
NullsClashBesideNone = (entries : Entries) (values : List Value) (keys : List ℤ) → list_any is_null values ≡ true → clash_beside entries values keys ≡ None
