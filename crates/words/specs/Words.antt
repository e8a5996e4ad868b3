-- The words behind the journal's: how they are parted into a command, its values and options.
use Rattle.std.specs.Prelude.{ℕ, List, [], true, Option, Some, None, codes, length, option_and_then, unwrap_or, ◌==◌, if◌then◌else◌}
use Rattle.std.specs.List.{list_all}
use Rattle.std.specs.Str.{is_utf8}
use Rattle.clap.specs.Words.{App, Row, Rule, Text, Kinds, all_of, first_of, fault_of, matches_of, new_app, new_rule, with_rule}
use Rattle.clap.specs.Simple.{on_top}
use Rattle.words.specs.declared.forms.Command.{Command}
use Rattle.words.specs.declared.forms.Form.{Form}
use Rattle.words.specs.Forms.{batch_of, command_with, form_of, pause_of}

-- ---- the command line, in the words of the crate that reads it

-- one word, which must be there
abbrev pub command_rule : Rule
command_rule = record (new_rule (codes "command")) { required = true }

-- up to four values behind it
abbrev pub values_rule : Rule
values_rule =
    record (new_rule (codes "values")) { range = Some (record { start_inclusive = 0; end_inclusive = 4 }) }

-- an option with one value
abbrev pub option_rule : Text → Rule
option_rule name = record (new_rule name) { long = Some name }

-- no name of the program stands before the words, and no flag asks for help or a version
abbrev pub settings : App
settings =
    on_top (λ s. record s { no_binary_name = true; disable_help_flag = true; disable_version_flag = true })
    (new_app (codes "words"))

abbrev pub app : App
app =
    with_rule (with_rule (with_rule (with_rule settings command_rule) values_rule)
    (option_rule (codes "batch"))) (option_rule (codes "pause-at"))

-- why the words are refused: nothing where they are taken
unfoldable pub refusals : List Text → Kinds
refusals words = fault_of app words

-- what the command, its values and each option hold
unfoldable pub rows : List Text → List Row
rows words = matches_of app words

-- ---- what they ask for

abbrev pub form_in : List Row → Option Form
form_in found =
    form_of (unwrap_or (first_of (codes "command") found) [])
    (unwrap_or (all_of (codes "values") found) [])

abbrev pub command_in : List Row → Option Command
command_in found =
    command_with (form_in found)
    (batch_of (first_of (codes "batch") found))
    (pause_of (first_of (codes "pause-at") found))

-- what texts ask for, where they are taken and have a form
abbrev pub form_with : List Text → Option Command
form_with texts = if length (refusals texts) == 0 then command_in (rows texts) else None

-- ---- UTF-8

abbrev pub text_of : List ℕ → Option Text
text_of word = if is_utf8 word then Some word else None

-- the words, where all are UTF-8
abbrev pub texts_of : List (List ℕ) → Option (List Text)
texts_of words = if list_all is_utf8 words then Some words else None

-- What the words ask for, where they are UTF-8, are taken and have a form.
abbrev pub command_of : List (List ℕ) → Option Command
command_of words = option_and_then form_with (texts_of words)
