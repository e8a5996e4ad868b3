-- The beginnings of lanes, and other pieces.
use Rattle.std.proofs.Common.{◌≡◌, ℕ, Bool, true, false, List, [], ◌∷◌, Option, None, Some, length, cond, refl, arith, ap, ◌∙◌, ◌+◌}
use Rattle.std.proofs.lemmas.Bool.{eqb-true}
use Rattle.std.proofs.lemmas.List.{drop_all}
use Rattle.std.specs.List.{after_first, before_first, position_or_len}
use Rattle.std.specs.Option.{option_map}
use Rattle.std.specs.Str.{byte}
use Rattle.sql_text.specs.Identifier.{is_plain, plain_name}
use Rattle.sql_text.specs.Lexing.{is_word_byte}
use Rattle.script_text.specs.declared.lines.AnyCommand.{AnyCommand}
use Rattle.script_text.specs.declared.lines.AnyLine.TheVariants as any
use Rattle.script_text.specs.declared.pieces.Piece.TheVariants.{Lane, Text, Command}
use Rattle.script_text.specs.Input.{begins_with}
use Rattle.script_text.specs.Names.{is_lane_name}
use Rattle.script_text.specs.Pieces.{is_space, lane_of}
use Rattle.script_text.specs.Script.{any_line_of, command_of, said_of}

-- a quoted word is no plain identifier
quote_no_plain : (rest : List ℕ) → plain_name (34 ∷ rest) ≡ None
unfolding plain_name is_plain is_word_byte
quote_no_plain rest = refl

pub quoted_no_plain : (text : List ℕ) → begins_with (byte "\"") text ≡ true → plain_name text ≡ None
quoted_no_plain [] h = cc
quoted_no_plain (b ∷ rest) h = let e : b ≡ 34 = eqb-true b 34 h in rw e (quote_no_plain rest)

-- neither is nothing
pub nothing_no_plain : plain_name [] ≡ None
unfolding plain_name is_plain
nothing_no_plain = refl

chosen : {T : Type 0} (b : Bool) (o : Option T) → o ≡ None → cond b o None ≡ None
chosen true o h = h
chosen false o h = refl

-- no space stands there
pub no_lane : (rest : List ℕ) → position_or_len is_space rest ≡ length rest → lane_of rest ≡ None
no_lane rest h =
    let nothing : after_first is_space rest ≡ [] = drop_all (position_or_len is_space rest + 1) rest (omega (arith, h)) in
    chosen (is_lane_name (before_first is_space rest)) _ (ap (λ v. option_map (Lane (before_first is_space rest)) (plain_name v)) nothing ∙ ap (option_map (Lane (before_first is_space rest))) nothing_no_plain)

-- a line that is a command
command_or : (backslash : Bool) (found : Option AnyCommand) (line : List ℕ) (command : AnyCommand) → cond backslash (option_map any.Command found) (Some (any.Text line)) ≡ Some (any.Command command) → cond backslash (option_map Command found) (Some (Text line)) ≡ Some (Command command)
command_or true None line command h = cc
command_or true (Some found) line command h = cc
command_or false found line command h = cc

pub command_said : (line : List ℕ) (command : AnyCommand) → any_line_of line ≡ Some (any.Command command) → said_of Text Command command_of line ≡ Some (Command command)
command_said line command h = command_or (begins_with (byte "\\") line) (command_of line) line command h
