-- What holds of changes, of what rows show and of rows that may stand alone, whatever the rows are.
use Rattle.std.specs.Prelude.{◌≡◌, List, Some, None}
use Rattle.row_rules.specs.Accept.{clashes_on, keys_of}
use Rattle.row_rules.specs.Changes.{after_changes}
use Rattle.row_rules.specs.Outcome.{first_some}
use Rattle.row_rules.specs.Rows.{Ascends}
use Rattle.row_rules.specs.Site.{Site, shown}
use Rattle.row_rules.specs.Steps.{invalid, new_half_cause}
use Rattle.row_rules.specs.Words.{Change, Halves, Kept, New, Old, Table}

-- Changes keep rows in order.
abbrev pub ChangesKeepOrder : Type 0
ChangesKeepOrder = (changes : List Change) (rows : List Kept) → Ascends rows → Ascends (after_changes changes rows)

-- What a row shows through the old version never depends on its new half.
abbrev pub OldShowsOldHalves : Type 0
OldShowsOldHalves = (site : Site) (halves others : Halves) → site.side ≡ Old → halves.old ≡ others.old → shown site halves ≡ shown site others

-- Where the new halves of rows meet each constraint, none of them has a cause by itself, and none clashes with another one.
abbrev pub ValidRowsHaveNoCause : Type 0
ValidRowsHaveNoCause = (table : Table) (rows : List Kept) → invalid table rows ≡ None → (first_some (new_half_cause table) rows ≡ None) × (clashes_on (Some table) New rows (keys_of rows) ≡ None)
