-- For the code: a script as far as it is read.
use Rattle.std.specs.Prelude.{◌≡◌, List, [], ◌∷◌, ◌++◌, ℕ, Bool, true, not, ◌&&◌, nat_lt, length}
use Rattle.std.specs.List.{filter_map, list_any}
use Rattle.std.specs.Str.{bytes_eq}
use Rattle.script_text.specs.declared.blocks.Blocks.{Blocks}
use Rattle.script_text.specs.declared.lines.LaneText.{LaneText}
use Rattle.script_text.specs.declared.lines.Script.{Script}
use Rattle.script_text.specs.declared.pieces.Piece.{Piece}
use Rattle.script_text.specs.Blocks.{added, command_in, fits, is_control, lanes_of, max_lanes, open_block, takes}

-- the last lane has one more text
abbrev pub with_text : List LaneText → List ℕ → List LaneText
with_text [] text = []
with_text (lane ∷ []) text = record lane { lines = lane.lines ++ text ∷ [] } ∷ []
with_text (lane ∷ next ∷ lanes) text = lane ∷ with_text (next ∷ lanes) text

-- No lane of this name has begun, and not too many.
abbrev pub has_room : List LaneText → List ℕ → Bool
has_room lanes name =
    not (list_any (λ lane. bytes_eq name lane.name) lanes) && nat_lt (length lanes) max_lanes

-- This is what these pieces make.
pub record Stands (blocks : Blocks) (before : List Piece) : Type 0 where
  pub lanes : blocks.lanes.items ≡ lanes_of before
  pub control : blocks.control ≡ filter_map command_in before
  pub block : blocks.block ≡ open_block before
  pub has_control : blocks.has_control ≡ list_any is_control before

-- One more piece is taken exactly where it may stand.
abbrev pub Takes : Blocks → Blocks → Piece → Bool → Type 0
Takes old new piece taken =
    (before : List Piece) → Stands old before →
    (taken ≡ fits before piece) × (taken ≡ true → Stands new (before ++ piece ∷ []))

-- So is one more line.
abbrev pub TakesLine : Blocks → Blocks → List ℕ → Bool → Type 0
TakesLine old new line taken =
    (before : List Piece) → Stands old before →
    (taken ≡ takes before line) × (taken ≡ true → Stands new (before ++ added line))

abbrev pub script_so_far : Blocks → Script
script_so_far blocks = record { lanes = blocks.lanes.items; control = blocks.control }
