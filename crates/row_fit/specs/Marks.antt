-- What a row's mark says. All of it is our own.
use Rattle.std.specs.Prelude.{◌≡◌, Bool, true, false, List, Option, Some, None, if◌then◌else◌}
use Rattle.sql_base.specs.declared.values.Value.{Value}
use Rattle.sql_base.specs.declared.values.Value.TheVariants.{Null, Int, Text, Bool as Truth}
use Rattle.trigger_pair.specs.declared.pairs.Pair.{Pair}
use Rattle.trigger_pair.specs.Stored.{begun, last_value, old_view}

-- the truth that a value is, if it is one
abbrev pub truth_of : Option Value → Option Bool
truth_of None = None
truth_of (Some Null) = None
truth_of (Some (Int n)) = None
truth_of (Some (Text t)) = None
truth_of (Some (Truth b)) = Some b

-- A row's mark: false where the table has none, and nothing where it is NULL. (It is meant for rows that have a value for each place of the layout.)
abbrev pub mark_of : Pair → List Value → Option Bool
mark_of pair stored = if pair.layout.mark then truth_of (last_value stored) else Some false

-- A mark isn't NULL, and a row whose mark is true is what START leaves of its old half.
abbrev pub FitsMark : Pair → List Value → Option Bool → Type 0
FitsMark pair stored None = ⊥
FitsMark pair stored (Some false) = Unit {0}
FitsMark pair stored (Some true) = stored ≡ begun pair (old_view pair stored)
