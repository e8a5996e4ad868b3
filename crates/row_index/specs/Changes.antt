-- What changes to rows come to in the indexes of a side.
use Rattle.std.specs.Prelude.{◌≤◌, List, [], ◌∷◌, length, map}
use Rattle.std.specs.FinMap as finite
use Rattle.std.specs.Option.{option_map_or}
use Rattle.sql_base.specs.declared.shapes.Unique.{Unique}
use Rattle.sql_eval.specs.Row.{values_of}
use Rattle.mig_lens.specs.declared.columns.Side.{Side}
use Rattle.uniq_index.specs.Indexed.{Entries, Indexed}
use Rattle.row_rules.specs.declared.kinds.Change.{Change}
use Rattle.row_rules.specs.declared.kinds.Change.TheVariants.{Put, Remove}
use Rattle.row_rules.specs.declared.kinds.Kept.{Kept}
use Rattle.row_rules.specs.Site.{half}
use Rattle.row_index.specs.declared.changes.IndexChange.{IndexChange}
use Rattle.row_index.specs.declared.changes.IndexChange.TheVariants as indexed

-- ---- one index

-- What a row that is put comes to: the values that its half of the side has in the columns stand under its key, or nothing where the half is missing.
abbrev pub row_change : Unique → Side → Kept → IndexChange
row_change unique side row =
    option_map_or (λ values. indexed.Put row.key (values_of unique values)) (half side row.halves) (indexed.Remove row.key)

abbrev pub index_change : Unique → Side → Change → IndexChange
index_change unique side (Put row) = row_change unique side row
index_change unique side (Remove key) = indexed.Remove key

abbrev pub index_changes : Side → List Change → Unique → List IndexChange
index_changes side changes unique = map (index_change unique side) changes

abbrev pub put_change : IndexChange → Entries → Entries
put_change (indexed.Put key values) entries = finite.insert entries key values
put_change (indexed.Remove key) entries = finite.remove entries key

-- These changes, one after another.
abbrev pub put_all : List IndexChange → Entries → Entries
put_all [] entries = entries
put_all (change ∷ changes) entries = put_all changes (put_change change entries)

-- ---- all indexes of a side

-- What changes come to in each index.
abbrev pub prepared : List Unique → Side → List Change → List (List IndexChange)
prepared uniques side changes = map (index_changes side changes) uniques

-- To each index its own changes.
abbrev pub put_each : List (List IndexChange) → List Entries → List Entries
put_each (changes ∷ more) (entries ∷ rest) = put_all changes entries ∷ put_each more rest
put_each [] rest = rest
put_each (changes ∷ more) [] = []

-- There are changes for each index, and it has room for as many new keys.
abbrev pub HaveRoom : List (List IndexChange) → List Indexed → Type 0
HaveRoom [] [] = Unit {0}
HaveRoom (changes ∷ more) (index ∷ rest) = (length changes ≤ index.spare) × HaveRoom more rest
HaveRoom [] (index ∷ rest) = ⊥
HaveRoom (changes ∷ more) [] = ⊥
