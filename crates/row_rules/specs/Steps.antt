-- What a migration's start and its completion look at in the rows of one table, and what they leave of each row.
use Rattle.std.specs.Prelude.{ℕ, ℤ, List, Bool, false, Option, None, nat_lt, if◌then◌else◌}
use Rattle.std.specs.List.{list_any}
use Rattle.std.specs.Option.{option_and_then, option_map, option_map_or}
use Rattle.constraint.specs.Valid as valid
use Rattle.row_rules.specs.Accept.{half_cause, present}
use Rattle.row_rules.specs.Causes.{max_weight}
use Rattle.row_rules.specs.Site.{name_of, shape_of}
use Rattle.row_rules.specs.Words.{Cause, Kept, Lens, New, Table, Value, has_mark, unfilled, weight}

-- ---- the start

-- The new half that a row begins with: in a table without a column that has to be made it is what the new version shows; else it is missing.
abbrev pub begun_half : Lens → Option (List Value) → Option (List Value)
begun_half lens old = if has_mark lens then None else option_map (unfilled lens) old

abbrev pub begun_row : Lens → Kept → Kept
begun_row lens row = record row { halves = record row.halves { new = begun_half lens row.halves.old } }

-- A row that the new version would show too heavy.
abbrev pub shows_heavy : Lens → Kept → Bool
shows_heavy lens row = option_map_or (λ old. nat_lt max_weight (weight (unfilled lens old))) row.halves.old false

-- Whether there is one among these.
abbrev pub show_heavy : Lens → List Kept → Bool
show_heavy lens rows = list_any (shows_heavy lens) rows

-- ---- the completion

-- The constraint that the new halves of rows don't meet, with a key: the first fault of one, by the rows' order; else the first unique constraint with the least key that has an equal.
abbrev pub invalid : Table → List Kept → Option (List ℕ × ℤ)
invalid table rows = valid.invalid (name_of table) (shape_of table) (present New rows)

-- What is wrong with a row's new half.
abbrev pub new_half_cause : Table → Kept → Option Cause
new_half_cause table row = option_and_then (half_cause table row.key) row.halves.new
