-- What an input says: its texts and its commands, in order. How commands are written is our own.
use Rattle.std.specs.Prelude.{◌≡◌, ◌≢◌, ℕ, List, [], ◌∷◌, ◌==◌, Bool, not, ◌&&◌, Option, None, Some, Result, Ok, Err, MatchResult, codes, is_none, length, nat_le, filter, if◌then◌else◌}
use Rattle.std.specs.Char.{is_ascii_digit}
use Rattle.std.specs.List.{filter_map, list_all, position_from}
use Rattle.std.specs.Option.{option_map, option_map_or}
use Rattle.std.specs.Str.{byte, bytes_eq}
use Rattle.std.specs.Str.Parse.{digits_value}
use Rattle.sql_base.specs.declared.faults.ScriptFault.{ScriptFault}
use Rattle.sql_base.specs.declared.faults.ScriptFault.TheVariants.{Line as BadLine, NoMemory}
use Rattle.script_text.specs.declared.lines.Line.{Line}
use Rattle.script_text.specs.declared.lines.Line.TheVariants.{Text, Command}
use Rattle.script_text.specs.declared.lines.Order.{Order}
use Rattle.script_text.specs.declared.lines.Order.TheVariants.{Start, Batch, Fill, Complete, Rollback}
use Rattle.script_text.specs.declared.lines.AnyCommand.{AnyCommand}
use Rattle.script_text.specs.declared.lines.AnyCommand.TheVariants as command
use Rattle.script_text.specs.declared.lines.AnyLine.{AnyLine}
use Rattle.script_text.specs.declared.lines.AnyLine.TheVariants as any
use Rattle.script_text.specs.Input.{begins_with, is_passed, split_lines}

-- ---- commands

-- What stands behind this front, in a line that begins with it.
abbrev pub behind : List ℕ → List ℕ → Option (List ℕ)
behind [] line = Some line
behind (c ∷ front) [] = None
behind (c ∷ front) (b ∷ line) = if b == c then behind front line else None

-- 1 to 9 digits
abbrev pub is_count : List ℕ → Bool
is_count digits =
    list_all is_ascii_digit digits && nat_le 1 (length digits) && nat_le (length digits) 9

-- the number of rows of a batch; leading zeros don't matter
abbrev pub batch_of : List ℕ → Option Order
batch_of digits = if is_count digits then Some (Batch (digits_value 10 digits)) else None

-- the commands of one word
abbrev pub word_of : List ℕ → Option Order
word_of line =
    if bytes_eq line (codes "\\fill") then Some Fill
    else (if bytes_eq line (codes "\\complete") then Some Complete
    else (if bytes_eq line (codes "\\rollback") then Some Rollback else None))

-- The command that a line is, of those that run. One blank, a space, stands behind `\start` and `\batch`.
abbrev pub order_of : List ℕ → Option Order
order_of line =
    option_map_or (λ text. Some (Start text))
    (behind (codes "\\start ") line)
    (option_map_or batch_of (behind (codes "\\batch ") line)
    (word_of line))

-- the command that `exec` doesn't run yet
abbrev pub further_of : List ℕ → Option AnyCommand
further_of line = if bytes_eq line (codes "\\status") then Some command.Status else None

-- The command that a line is, of all.
abbrev pub command_of : List ℕ → Option AnyCommand
command_of line =
    option_map_or (λ order. Some (command.Order order)) (order_of line) (further_of line)

-- ---- lines

-- A line that begins with a backslash is to be a command. Every other line is a text.
abbrev pub said_of : {C L : Type 0} → (List ℕ → L) → (C → L) → (List ℕ → Option C) → List ℕ → Option L
said_of text command reads line =
    if begins_with (byte "\\") line then option_map command (reads line) else Some (text line)

-- What a line says where the commands that run are known.
abbrev pub line_of : List ℕ → Option Line
line_of = said_of Text Command order_of

-- What a line says where all commands are known.
abbrev pub any_line_of : List ℕ → Option AnyLine
any_line_of = said_of any.Text any.Command command_of

-- ---- texts

-- a line that is neither passed by nor read
abbrev pub is_bad : {L : Type 0} → (List ℕ → Option L) → List ℕ → Bool
is_bad reads line = not (is_passed line) && is_none (reads line)

-- The number of the first bad line. Lines are counted from 1, and those that are passed by count.
abbrev pub first_bad : {L : Type 0} → (List ℕ → Option L) → List ℕ → Option ℕ
first_bad reads text = position_from (is_bad reads) 1 (split_lines text)

-- The lines that aren't passed by.
abbrev pub kept_lines : List ℕ → List (List ℕ)
kept_lines text = filter (λ line. not (is_passed line)) (split_lines text)

-- What a text reads as: the fault of its first bad line; or, where none is, all lines that aren't passed by, in order.
abbrev pub lines_of : {L : Type 0} → (List ℕ → Option L) → List ℕ → Result (List L) ScriptFault
lines_of reads text =
    option_map_or (λ number. Err (BadLine number))
    (first_bad reads text)
    (Ok (filter_map reads (kept_lines text)))

-- What a text reads as where the commands that run are known.
abbrev pub script_of : List ℕ → Result (List Line) ScriptFault
script_of = lines_of line_of

-- The call answers what is wanted, or want of memory in its place.
abbrev pub Answers : {T : Type 0} → Result T ScriptFault → Result T ScriptFault → Type 0
Answers wanted result =
    MatchResult result (λ value. wanted ≡ Ok value) (λ fault. fault ≢ NoMemory → wanted ≡ Err fault)
