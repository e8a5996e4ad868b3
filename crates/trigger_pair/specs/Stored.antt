-- What a stored row holds of a table that both versions have, while both stand.
--
-- A row is stored once, place by place by its table's layout: the old columns, then a shadow place for each new column that isn't carried, and the mark last where a new column is made by an expression. Each version's view selects some of these places. The mark says that the row is still to be filled: what the new view selects of it isn't its new half then. That new values stand in columns of their own beside the old ones, and that triggers keep the two in step, is pgroll's (its documentation, How pgroll works); the shadow places and the mark are named after pgroll's, and the rest is our own.
use Rattle.std.specs.Prelude.{ℕ, ◌+◌, ◌-◌, List, [], ◌∷◌, ◌++◌, Bool, true, false, ◌&&◌, Option, Some, None, Result, Ok, length, map, take, slice_get, slice_index_or, if◌then◌else◌}
use Rattle.std.specs.Option.{option_map, option_and_then}
use Rattle.sql_base.specs.Outcome.{and_then}
use Rattle.sql_base.specs.declared.faults.EvalFault.{EvalFault}
use Rattle.sql_base.specs.declared.values.Value.{Value}
use Rattle.sql_base.specs.declared.values.Value.TheVariants.{Null, Bool as Truth}
use Rattle.mig_lens.specs.declared.columns.Cell.{Cell}
use Rattle.mig_lens.specs.declared.columns.Cell.TheVariants.{Carry, Make, Still}
use Rattle.mig_lens.specs.declared.columns.Side.{Side}
use Rattle.mig_lens.specs.declared.columns.Side.TheVariants.{Old, New}
use Rattle.mig_lens.specs.Lens.{backward, forward, unfilled}
use Rattle.trigger_pair.specs.declared.pairs.Pair.{Pair}

-- ---- what the views select

-- The stored place of each new column: a carried one stands where the old column does, and each other one in the next place behind the old columns.
abbrev pub places : ℕ → List Cell → List ℕ
places next [] = []
places next (Carry at ∷ cells) = at ∷ places next cells
places next (Make expr ∷ cells) = next ∷ places (next + 1) cells
places next (Still value ∷ cells) = next ∷ places (next + 1) cells

abbrev pub new_places : Pair → List ℕ
new_places pair = places (length pair.old.columns) pair.lens.new_cols

-- What the old version's view selects of a stored row.
abbrev pub old_view : Pair → List Value → List Value
old_view pair stored = take (length pair.old.columns) stored

-- What the new version's view selects of it.
abbrev pub new_view : Pair → List Value → List Value
new_view pair stored = map (λ at. slice_index_or stored at Null) (new_places pair)

-- ---- the mark

abbrev pub last_value : List Value → Option Value
last_value stored = slice_get stored (length stored - 1)

abbrev pub is_true : Option Value → Bool
is_true (Some (Truth value)) = value
is_true _ = false

-- Whether the row is still to be filled: its table has a mark, and that is true. (It is meant for rows that have a value for each place of the layout.)
abbrev pub is_marked : Pair → List Value → Bool
is_marked pair stored = pair.layout.mark && is_true (last_value stored)

-- The row's new half: what the new view selects, missing exactly where the row is marked. (It is meant for the same rows.)
abbrev pub new_half : Pair → List Value → Option (List Value)
new_half pair stored = if is_marked pair stored then None else Some (new_view pair stored)

-- ---- the stored row of two halves

-- A value of a new half has a place of its own where its column isn't carried.
abbrev pub shadow_of : Cell → Value → List Value
shadow_of (Carry at) value = []
shadow_of (Make expr) value = value ∷ []
shadow_of (Still constant) value = value ∷ []

-- those of a new half, in new order
abbrev pub shadow_values : List Cell → List Value → List Value
shadow_values (cell ∷ cells) (value ∷ values) = shadow_of cell value ++ shadow_values cells values
shadow_values _ _ = []

-- The mark, where there is one.
abbrev pub mark_value : Bool → Bool → List Value
mark_value true marked = Truth marked ∷ []
mark_value false marked = []

abbrev pub stored_row : Pair → List Value → List Value → Bool → List Value
stored_row pair old new marked = old ++ shadow_values pair.lens.new_cols new ++ mark_value pair.layout.mark marked

-- ---- what the triggers store

-- Of an old half that is written: the new one is made of it.
abbrev pub from_old : Pair → List Value → Option (List Value) → Result (List Value) EvalFault
from_old pair old previous = and_then (forward pair.lens pair.old old previous) (λ new. Ok (stored_row pair old new false))

-- Of a new half that is written: the old one is made of it.
abbrev pub from_new : Pair → List Value → Option (List Value) → Result (List Value) EvalFault
from_new pair new previous = and_then (backward pair.lens pair.new new previous) (λ old. Ok (stored_row pair old new false))

-- The row after a write of a half through a side, over what was stored, if anything was. The other half is made with the one that was there before, and the row isn't marked.
abbrev pub fired : Pair → Side → List Value → Option (List Value) → Result (List Value) EvalFault
fired pair Old half stored = from_old pair half (option_and_then (new_half pair) stored)
fired pair New half stored = from_new pair half (option_map (old_view pair) stored)

-- The row after it was filled: its old half stays, its new one is made without one before, and it isn't marked.
abbrev pub filled : Pair → List Value → Result (List Value) EvalFault
filled pair stored = from_old pair (old_view pair stored) None

-- ---- what a migration begins with

-- The row that START leaves of a row with these values: what the new version shows of it is what it shows of a row that is still to be filled, and it is marked, where the table has a mark.
abbrev pub begun : Pair → List Value → List Value
begun pair old = stored_row pair old (unfilled pair.lens old) true
