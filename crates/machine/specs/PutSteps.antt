-- What the steps of the call stand for that tells whether rows from outside may be put. No public contract rests on these words.
use Rattle.std.specs.Prelude.{ℕ, List, Bool, true, false, not, ◌&&◌, ◌||◌, Option, Some, None, is_none, length, if◌then◌else◌}
use Rattle.std.specs.List.{filter}
use Rattle.std.specs.Option.{option_map}
use Rattle.mig_lens.specs.Layout.{has_mark}
use Rattle.row_rules.specs.Accept.{has_key}
use Rattle.row_rules.specs.Changes.{after_changes, key_changed, keys_changed}
use Rattle.row_rules.specs.Site.{Beside, Site}
use Rattle.machine.specs.MayPut.{clash_cause, is_changed, may_hold}
use Rattle.machine.specs.State.{Shared, beside_on, shared, table_on}
use Rattle.machine.specs.Words.{Change, Kept, Old, Put, Remove, State, Table}

-- What the new version has of a table of which a new column has to be made, beside the old one.
abbrev pub made_beside : Option Shared → Option Beside
made_beside None = None
made_beside (Some pair) = if has_mark pair.lens then Some (beside_on Old pair) else None

-- The site through which rows are looked at and not changed: the old version's, beside the new one where a new column has to be made.
abbrev pub looking_at : State → ℕ → Table → Site
looking_at s number old = record { side = Old; here = old; there = made_beside (shared s number); lost = 0 }

abbrev pub looking_site : State → ℕ → Option Site
looking_site s number = option_map (looking_at s number) (table_on s Old number)

-- Whether the row that a change puts may be one of the table, where it puts one.
abbrev pub put_holds : State → ℕ → Change → Bool
put_holds s number (Put row) = may_hold s number row
put_holds s number (Remove key) = true

-- The same, where no later change is of its key.
abbrev pub left_holds : State → ℕ → Change → List Change → Bool
left_holds s number change later = put_holds s number change || is_changed (key_changed change) later

abbrev pub stand_apart : State → ℕ → List Kept → List Change → Bool
stand_apart s number older all = is_none (clash_cause s number (after_changes all older) (keys_changed all))

abbrev pub is_put : Change → Bool
is_put (Put row) = true
is_put (Remove key) = false

-- Whether a change replaces or removes one of these older rows, where no later change is of its key.
abbrev pub takes : List Kept → Change → List Change → Bool
takes older change later = has_key (key_changed change) older && not (is_changed (key_changed change) later)

-- Whether a change puts a row of a key that no older row has; and how many do.
abbrev pub is_fresh : List Kept → Change → Bool
is_fresh older change = is_put change && not (has_key (key_changed change) older)

abbrev pub fresh_rows : List Kept → List Change → ℕ
fresh_rows older changes = length (filter (is_fresh older) changes)
