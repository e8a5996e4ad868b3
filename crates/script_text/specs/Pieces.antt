-- What a line of a script is, wherever it stands.
use Rattle.std.specs.Prelude.{ℕ, List, Bool, ◌==◌, Option, None, Some, codes, if◌then◌else◌}
use Rattle.std.specs.List.{after_first, before_first}
use Rattle.std.specs.Option.{option_map, option_map_or}
use Rattle.std.specs.Str.{byte, bytes_eq}
use Rattle.sql_text.specs.Identifier.{plain_name}
use Rattle.script_text.specs.declared.pieces.Piece.{Piece}
use Rattle.script_text.specs.declared.pieces.Piece.TheVariants.{Lane, Control, Text, Command}
use Rattle.script_text.specs.Names.{is_lane_name}
use Rattle.script_text.specs.Script.{behind, command_of, said_of}

abbrev pub is_space : ℕ → Bool
is_space b = b == byte " "

-- What stands behind `lane` and a space: a name, one space and a version, which is a plain identifier.
abbrev pub lane_of : List ℕ → Option Piece
lane_of rest =
    let name = before_first is_space rest in
    if is_lane_name name then option_map (Lane name) (plain_name (after_first is_space rest)) else None

-- the control block's beginning, a text or a command
abbrev pub other_piece : List ℕ → Option Piece
other_piece line =
    if bytes_eq line (codes "control") then Some Control else said_of Text Command command_of line

-- A line that begins with `lane` and a space is to begin a lane.
unfoldable pub piece_of : List ℕ → Option Piece
piece_of line = option_map_or lane_of (behind (codes "lane ") line) (other_piece line)
