-- Which lanes and which control block a script has. How scripts are written is our own.
use Rattle.std.specs.Prelude.{ℕ, List, [], ◌∷◌, ◌++◌, Bool, true, false, not, ◌&&◌, ◌||◌, ◌+◌, Option, None, Some, Result, Ok, Err, nat_lt, length, filter, if◌then◌else◌}
use Rattle.std.specs.List.{filter_map, list_any}
use Rattle.std.specs.Option.{option_map_or, option_to_list}
use Rattle.std.specs.Str.{bytes_eq}
use Rattle.sql_base.specs.declared.faults.ScriptFault.{ScriptFault}
use Rattle.sql_base.specs.declared.faults.ScriptFault.TheVariants.{Line as BadLine}
use Rattle.script_text.specs.declared.blocks.Block.{Block}
use Rattle.script_text.specs.declared.blocks.Block.TheVariants as block
use Rattle.script_text.specs.declared.lines.AnyCommand.{AnyCommand}
use Rattle.script_text.specs.declared.lines.LaneText.{LaneText}
use Rattle.script_text.specs.declared.lines.Script.{Script}
use Rattle.script_text.specs.declared.pieces.Piece.{Piece}
use Rattle.script_text.specs.declared.pieces.Piece.TheVariants.{Lane, Control, Text, Command}
use Rattle.script_text.specs.Input.{is_passed, split_lines}
use Rattle.script_text.specs.Pieces.{piece_of}

-- ---- where a line may stand

-- the most lanes of a script
abbrev pub max_lanes : ℕ
max_lanes = 64

abbrev pub name_in : Piece → Option (List ℕ)
name_in (Lane name version) = Some name
name_in _ = None

-- the names of the lanes that begin among these
abbrev pub lane_names : List Piece → List (List ℕ)
lane_names pieces = filter_map name_in pieces

-- the block that a piece begins
abbrev pub block_in : Piece → Option Block
block_in (Lane name version) = Some block.Lane
block_in Control = Some block.Control
block_in _ = None

abbrev pub is_control : Piece → Bool
is_control Control = true
is_control _ = false

abbrev pub last_or : {T : Type 0} → T → List T → T
last_or first [] = first
last_or first (x ∷ xs) = last_or x xs

-- The block that the next line belongs to: the last one that began, or none.
abbrev pub open_block : List Piece → Block
open_block before = last_or block.Front (filter_map block_in before)

abbrev pub is_in_lane : Block → Bool
is_in_lane block.Lane = true
is_in_lane _ = false

abbrev pub is_in_control : Block → Bool
is_in_control block.Control = true
is_in_control _ = false

-- Whether a piece may follow these: a lane has a name of its own, and at most 64 begin; the control block begins once;
-- texts stand in lanes, and commands in the control block.
abbrev pub fits : List Piece → Piece → Bool
fits before (Lane name version) =
    not (list_any (bytes_eq name) (lane_names before)) && nat_lt (length (lane_names before)) max_lanes
fits before Control = not (list_any is_control before)
fits before (Text text) = is_in_lane (open_block before)
fits before (Command command) = is_in_control (open_block before)

-- Whether a line may follow these.
abbrev pub takes : List Piece → List ℕ → Bool
takes before line = is_passed line || option_map_or (fits before) (piece_of line) false

-- what a line adds to them
abbrev pub added : List ℕ → List Piece
added line = if is_passed line then [] else option_to_list (piece_of line)

-- The number of the first line, of those from this number on, that may not follow the lines before it.
abbrev pub first_misfit : List Piece → ℕ → List (List ℕ) → Option ℕ
first_misfit before number [] = None
first_misfit before number (line ∷ lines) =
    if takes before line then first_misfit (before ++ added line) (number + 1) lines else Some number

-- ---- what a script is

abbrev pub command_in : Piece → Option AnyCommand
command_in (Command command) = Some command
command_in _ = None

-- the texts up to the beginning of the next block
abbrev pub block_texts : List Piece → List (List ℕ)
block_texts [] = []
block_texts (Text text ∷ pieces) = text ∷ block_texts pieces
block_texts (Command command ∷ pieces) = block_texts pieces
block_texts (_ ∷ pieces) = []

-- Each lane has the texts that follow its beginning.
abbrev pub lanes_of : List Piece → List LaneText
lanes_of [] = []
lanes_of (Lane name version ∷ pieces) =
    record { name = name; version = version; lines = block_texts pieces } ∷ lanes_of pieces
lanes_of (_ ∷ pieces) = lanes_of pieces

-- all lines that aren't passed by
abbrev pub pieces_of : List (List ℕ) → List Piece
pieces_of lines = filter_map piece_of (filter (λ line. not (is_passed line)) lines)

-- The lanes in order, and the commands in order, which all stand in the control block.
abbrev pub script_in : List Piece → Script
script_in pieces = record { lanes = lanes_of pieces; control = filter_map command_in pieces }

-- What a text reads as: the fault of its first line that may not stand where it stands, or else its script.
abbrev pub blocks_of : List ℕ → Result Script ScriptFault
blocks_of text =
    option_map_or (λ number. Err (BadLine number))
    (first_misfit [] 1 (split_lines text))
    (Ok (script_in (pieces_of (split_lines text))))
