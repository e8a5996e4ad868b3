-- Which indexes a side of a table has, and what they are asked for.
--
-- The unique constraints of a side's table have an index each, in their order. It has what the halves of that side have in the constraint's columns, by key. A row whose half of the side is missing isn't in it: such a row has no values there yet.
use Rattle.std.specs.Prelude.{ℤ, List, [], ◌∷◌, Bool, Option, Some, None, is_some, map, nat_eq, if◌then◌else◌, refl}
use Rattle.std.specs.Cmp.Lexicographic.{pointwise}
use Rattle.std.specs.Coded.{Coded, code_by, coded×, coded_list}
use Rattle.sql_base.specs.contracts.shapes.Unique as unique
use Rattle.sql_base.specs.declared.shapes.Unique.{Unique}
use Rattle.sql_base.specs.declared.values.Value.{Value}
use Rattle.sql_eval.specs.Row.{values_of}
use Rattle.uniq_index.specs.Indexed.{Entries, Indexed, clash_beside, indexed_code}
use Rattle.uniq_index.specs.Laws.{Indexes}

-- The unique constraints of a side's table, and the index of each in the same order.
pub record SideIndexed : Type 0 where
  pub uniques : List Unique
  pub indexes : List Indexed

abbrev pub side_code : Coded SideIndexed
side_code =
    code_by (List Unique × List Indexed) (coded× (coded_list unique.the_row.coded) (coded_list indexed_code)) (λ s. (s.uniques, s.indexes)) (λ p. record { uniques = p.0; indexes = p.1 }) (λ _. refl)

-- What each of these indexes has.
abbrev pub entries_of : List Indexed → List Entries
entries_of indexes = map (λ index. index.entries) indexes

-- There is an index for each unique constraint, and it has what rows have in the constraint's columns.
abbrev pub AreIndexed : List Unique → List (ℤ × List Value) → List Entries → Type 0
AreIndexed [] rows [] = Unit {0}
AreIndexed (unique ∷ uniques) rows (entries ∷ more) = Indexes unique rows entries × AreIndexed uniques rows more
AreIndexed [] rows (entries ∷ more) = ⊥
AreIndexed (unique ∷ uniques) rows [] = ⊥

-- The indexes of a side are those of these rows.
abbrev pub IsOver : List (ℤ × List Value) → SideIndexed → Type 0
IsOver rows side = AreIndexed side.uniques rows (entries_of side.indexes)

-- Whether an index has under a key, none of these, the values that a half has in the columns, none of them NULL.
abbrev pub has_beside : Unique → List Value → List ℤ → Entries → Bool
has_beside unique values keys entries = is_some (clash_beside entries (values_of unique values) keys)

-- What the first of these constraints that is of the same columns has, if one is.
abbrev pub entries_for : Unique → List Unique → List Entries → Option Entries
entries_for unique (other ∷ uniques) (entries ∷ more) =
    if pointwise nat_eq other.columns unique.columns then Some entries else entries_for unique uniques more
entries_for unique [] all = None
entries_for unique (other ∷ uniques) [] = None
