-- The lines that tell a history.
use Rattle.std.specs.Prelude.{ℕ, List, [], ◌∷◌, ◌++◌, codes, decimal, length, map, slice_index_or, unwrap_or}
use Rattle.std.specs.Fmt.{signed_decimal}
use Rattle.std.specs.List.{flat_map, join_with_byte}
use Rattle.std.specs.Option.{option_map_or}
use Rattle.std.specs.Str.{byte}
use Rattle.sql_base.specs.declared.codes.Code.{Code}
use Rattle.sql_base.specs.declared.codes.Code.TheVariants.{C22003, C22012, C22P02, C23502, C23505, C23514, C0A000, C42601, C42701, C42703, C42804, C42P01, C53200, C54000}
use Rattle.sql_base.specs.declared.values.Value.{Value}
use Rattle.sql_text.specs.Printing.{value_text}
use Rattle.mig_lens.specs.declared.faults.Kind.{Kind}
use Rattle.mig_lens.specs.declared.faults.Kind.TheVariants as kind_of
use Rattle.mig_lens.specs.declared.faults.Member.{Member}
use Rattle.mig_lens.specs.declared.faults.Member.TheVariants.{Up, Down, Check, Default, TypeName}
use Rattle.mig_lens.specs.declared.faults.Place.{Place}
use Rattle.mig_lens.specs.declared.faults.Refusal.{Refusal}
use Rattle.mig_lens.specs.declared.faults.Refusal.TheVariants.{AlreadyActive, NoActive, Unfinished, NotFilled, NotValid, NameTaken, NoSuchTable, NoSuchColumn, Exists, KeyColumn, ColumnTwice, UpNeeded, DownNeeded, BadExpr, BadType, BadJson, NotInit, AlreadyInit, BackfillRefused, Limit, BadScript}
use Rattle.machine.specs.declared.events.Entry.{Entry}
use Rattle.machine.specs.declared.events.Reply.{Reply}
use Rattle.machine.specs.declared.events.Reply.TheVariants.{Delete, Insert, Select, Update, Set, Error, Start, Fill, Filled, Complete, Rollback, Refused}
use Rattle.machine.specs.State.{path_name}

-- A code, without the letter that its name begins with.
abbrev pub code_text : Code → List ℕ
code_text C22003 = codes "22003"
code_text C22012 = codes "22012"
code_text C22P02 = codes "22P02"
code_text C23502 = codes "23502"
code_text C23505 = codes "23505"
code_text C23514 = codes "23514"
code_text C0A000 = codes "0A000"
code_text C42601 = codes "42601"
code_text C42701 = codes "42701"
code_text C42703 = codes "42703"
code_text C42804 = codes "42804"
code_text C42P01 = codes "42P01"
code_text C53200 = codes "53200"
code_text C54000 = codes "54000"

-- A row of a reply: two spaces, its values with a bar between them, and a newline.
abbrev pub row_text : List Value → List ℕ
row_text row = codes "  " ++ (join_with_byte (byte "|") (map value_text row) ++ codes "\n")

-- ---- refused commands

-- Which steps of tidying are left. (Where none are no command is refused for them; it has a dash.)
abbrev pub kind_text : Kind → List ℕ
kind_text kind_of.Nothing = codes "-"
kind_text kind_of.Complete = codes "complete"
kind_text kind_of.Rollback = codes "rollback"

abbrev pub member_text : Member → List ℕ
member_text Up = codes "up"
member_text Down = codes "down"
member_text Check = codes "check"
member_text Default = codes "default"
member_text TypeName = codes "type"

-- A place in a migration: the operation, counted from 0, and its member.
abbrev pub place_text : Place → List ℕ
place_text place = codes "operations[" ++ (decimal place.operation ++ (codes "]." ++ member_text place.member))

-- Words with a space between them.
abbrev pub two_words : List ℕ → List ℕ → List ℕ
two_words one two = one ++ (codes " " ++ two)

abbrev pub three_words : List ℕ → List ℕ → List ℕ → List ℕ
three_words one two three = one ++ (codes " " ++ (two ++ (codes " " ++ three)))

abbrev pub four_words : List ℕ → List ℕ → List ℕ → List ℕ → List ℕ
four_words one two three four = one ++ (codes " " ++ (two ++ (codes " " ++ (three ++ (codes " " ++ four)))))

-- A refusal: its number, and what is told of it.
abbrev pub refusal_text : Refusal → List ℕ
refusal_text (AlreadyActive name) = two_words (codes "P1") name
refusal_text NoActive = codes "P2"
refusal_text (Unfinished kind) = two_words (codes "P3") (kind_text kind)
refusal_text (NotFilled table key) = three_words (codes "P4") table (signed_decimal key)
refusal_text (NotValid name key) = three_words (codes "P5") name (signed_decimal key)
refusal_text (NameTaken name) = two_words (codes "P6") name
refusal_text (NoSuchTable name) = two_words (codes "P7") name
refusal_text (NoSuchColumn table name) = three_words (codes "P8") table name
refusal_text (Exists name) = two_words (codes "P9") name
refusal_text (KeyColumn table) = two_words (codes "P10") table
refusal_text (ColumnTwice table column) = three_words (codes "P11") table column
refusal_text (UpNeeded table column) = three_words (codes "P12") table column
refusal_text (DownNeeded table column) = three_words (codes "P13") table column
refusal_text (BadExpr place) = two_words (codes "P14") (place_text place)
refusal_text (BadType place) = two_words (codes "P15") (place_text place)
refusal_text (BadJson path) = two_words (codes "P16") path
refusal_text NotInit = codes "P17"
refusal_text AlreadyInit = codes "P18"
refusal_text (BackfillRefused table key code) = four_words (codes "P19") table (signed_decimal key) (code_text code)
refusal_text (Limit quantity) = two_words (codes "P20") quantity
refusal_text (BadScript line) = two_words (codes "P21") (decimal line)

-- ---- replies

-- What stands behind the number and the actor. A refused statement names what there is to name, and the row's key where it is known; for what isn't there it has a dash. A started migration is told by the name by which a path names its version. A batch tells the table's new name, the number of rows, and the least and the greatest of their keys.
abbrev pub reply_text : Reply → List ℕ
reply_text (Insert n) = codes "INSERT 0 " ++ (decimal n ++ codes "\n")
reply_text (Update n) = codes "UPDATE " ++ (decimal n ++ codes "\n")
reply_text (Delete n) = codes "DELETE " ++ (decimal n ++ codes "\n")
reply_text (Select rows) = codes "SELECT " ++ (decimal (length rows) ++ (codes "\n" ++ flat_map row_text rows))
reply_text Set = codes "SET\n"
reply_text (Error code name key) =
    codes "ERROR " ++ (code_text code ++ (codes " " ++ (unwrap_or name (codes "-") ++ (codes " " ++ (option_map_or signed_decimal key (codes "-") ++ codes "\n")))))
reply_text (Start name) = codes "START " ++ (path_name name ++ codes "\n")
reply_text (Fill table count first last) = codes "FILL " ++ (four_words table (decimal count) (signed_decimal first) (signed_decimal last) ++ codes "\n")
reply_text Filled = codes "FILLED\n"
reply_text (Complete step) = codes "COMPLETE " ++ (decimal step ++ codes "\n")
reply_text (Rollback step) = codes "ROLLBACK " ++ (decimal step ++ codes "\n")
reply_text (Refused refusal) = codes "REFUSED " ++ (refusal_text refusal ++ codes "\n")

-- The line of a reply with its number and the name of its actor, and the lines of its rows.
abbrev pub numbered : ℕ → List ℕ → Reply → List ℕ
numbered number name reply = decimal number ++ (codes " " ++ (name ++ (codes " " ++ reply_text reply)))

-- The line of an entry and those of its rows. The name of actor i is the i-th of these names, from 0, and nothing where there is none.
abbrev pub line_of : List (List ℕ) → Entry → List ℕ
line_of names entry = numbered entry.number (slice_index_or names entry.actor []) entry.reply

-- The lines of a history, in its order.
abbrev pub lines_of : List (List ℕ) → List Entry → List ℕ
lines_of names history = flat_map (line_of names) history
