-- What holds of the indexes of a side, whatever the rows are.
use Rattle.std.specs.Prelude.{◌≡◌, ◌≤◌, ℕ, ℤ, List, Some, length}
use Rattle.std.specs.List.{AllByRecursion, list_any}
use Rattle.sql_base.specs.declared.shapes.Unique.{Unique}
use Rattle.sql_base.specs.declared.values.Value.{Value}
use Rattle.mig_lens.specs.declared.columns.Side.{Side}
use Rattle.uniq_index.specs.Indexed.{Entries, Indexed}
use Rattle.uniq_index.specs.Laws.{Indexes}
use Rattle.row_rules.specs.Accept.{other_alike, present}
use Rattle.row_rules.specs.Changes.{after_changes}
use Rattle.row_rules.specs.Rows.{Ascends}
use Rattle.row_rules.specs.declared.kinds.Change.{Change}
use Rattle.row_rules.specs.declared.kinds.Kept.{Kept}
use Rattle.row_index.specs.Changes.{HaveRoom, index_changes, prepared, put_all, put_each}
use Rattle.row_index.specs.Indexes.{AreIndexed, entries_for, entries_of, has_beside}

-- The index of one unique constraint is that of the rows after changes, where they were put into it.
abbrev pub ChangesAreInIndex : Type 0
ChangesAreInIndex = (unique : Unique) (side : Side) (changes : List Change) (rows : List Kept) (entries : Entries) → Ascends rows → Indexes unique (present side rows) entries
    → Indexes unique (present side (after_changes changes rows)) (put_all (index_changes side changes unique) entries)

-- So are those of all unique constraints of a side.
abbrev pub ChangesAreIndexed : Type 0
ChangesAreIndexed = (uniques : List Unique) (side : Side) (changes : List Change) (rows : List Kept) (all : List Entries) → Ascends rows → AreIndexed uniques (present side rows) all
    → AreIndexed uniques (present side (after_changes changes rows)) (put_each (prepared uniques side changes) all)

-- Where there is an index of a constraint's columns, it has a half's values under a key that is none of these exactly where a row of another key has them.
abbrev pub OthersAreThoseOfRows : Type 0
OthersAreThoseOfRows = (unique : Unique) (side : Side) (rows : List Kept) (uniques : List Unique) (all : List Entries) (entries : Entries) (values : List Value) (keys : List ℤ)
    → AreIndexed uniques (present side rows) all → entries_for unique uniques all ≡ Some entries
    → has_beside unique values keys entries ≡ list_any (other_alike unique side values keys) rows

-- Room for as many keys as there are changes is room for what the changes come to in each index.
abbrev pub PreparedHaveRoom : Type 0
PreparedHaveRoom = (uniques : List Unique) (side : Side) (changes : List Change) (rows : List (ℤ × List Value)) (indexes : List Indexed) (n : ℕ)
    → AreIndexed uniques rows (entries_of indexes) → AllByRecursion (λ index. n ≤ index.spare) indexes → length changes ≤ n → HaveRoom (prepared uniques side changes) indexes
