-- Which words ask for what, and with which values. The words are our own.
use Rattle.std.specs.Prelude.{ℕ, ◌-◌, ◌^◌, List, [], ◌∷◌, ◌==◌, Bool, false, Option, None, Some, codes, option_map, option_and_then, if◌then◌else◌}
use Rattle.std.specs.Str.{byte, bytes_eq}
use Rattle.sql_text.specs.Identifier.{plain_name}
use Rattle.words.specs.declared.forms.Command.{Command}
use Rattle.words.specs.declared.forms.Form.{Form}
use Rattle.words.specs.declared.forms.Form.TheVariants as form
use Rattle.words.specs.declared.forms.Part.{Part}
use Rattle.words.specs.declared.forms.Part.TheVariants as part
use Rattle.words.specs.Numbers.{number_between, number_of}

-- the forms of one word
abbrev pub plain_form : List ℕ → Option Form
plain_form word =
    if bytes_eq word (codes "init") then Some form.Init
    else if bytes_eq word (codes "exec") then Some form.Exec
    else if bytes_eq word (codes "start") then Some form.Start
    else if bytes_eq word (codes "fill") then Some form.Fill
    else if bytes_eq word (codes "complete") then Some form.Complete
    else if bytes_eq word (codes "rollback") then Some form.Rollback
    else if bytes_eq word (codes "status") then Some form.Status
    else if bytes_eq word (codes "run") then Some form.Run
    else None

abbrev pub is_quoted : List ℕ → Bool
is_quoted [] = false
is_quoted (b ∷ bytes) = b == byte "\""

-- `load TABLE VERSION`: both are plain identifiers.
abbrev pub load_of : List ℕ → List ℕ → List ℕ → Option Form
load_of word table version =
    if bytes_eq word (codes "load") then
    option_and_then (λ t. option_map (form.Load t) (plain_name version)) (plain_name table)
    else None

abbrev pub part_of : List ℕ → Option Part
part_of word =
    if bytes_eq word (codes "setup") then Some part.Setup
    else if bytes_eq word (codes "lanes") then Some part.Lanes
    else None

-- NUMBER is 0 to 2,147,483,647, ROWS 1 to 100,000 and LANES 1 to 63.
abbrev pub workload_of : List ℕ → List ℕ → List ℕ → Option (ℕ × ℕ × ℕ)
workload_of number rows lanes =
    option_and_then (λ n. option_and_then (λ r. option_map (λ l. (n, r, l))
    (number_between lanes 1 63))
    (number_between rows 1 100000))
    (number_between number 0 2147483647)

-- `gen PART NUMBER ROWS LANES`
abbrev pub gen_of : List ℕ → List ℕ → List ℕ → List ℕ → List ℕ → Option Form
gen_of word part number rows lanes =
    if bytes_eq word (codes "gen") then
    option_and_then (λ p. option_map (λ w. form.Gen p w.0 w.1 w.2)
    (workload_of number rows lanes)) (part_of part)
    else None

-- `trial NUMBER ROWS LANES`
abbrev pub trial_of : List ℕ → List ℕ → List ℕ → List ℕ → Option Form
trial_of word number rows lanes =
    if bytes_eq word (codes "trial") then
    option_map (λ w. form.Trial w.0 w.1 w.2) (workload_of number rows lanes)
    else None

-- What a word asks for with these values.
abbrev pub form_of : List ℕ → List (List ℕ) → Option Form
form_of word [] = plain_form word
form_of word (table ∷ version ∷ []) = load_of word table version
form_of word (number ∷ rows ∷ lanes ∷ []) = trial_of word number rows lanes
form_of word (part ∷ number ∷ rows ∷ lanes ∷ []) = gen_of word part number rows lanes
form_of word _ = None

-- `--batch N`: 1 to 10,000, and 1,000 where it isn't given
abbrev pub batch_of : Option (List ℕ) → Option ℕ
batch_of None = Some 1000
batch_of (Some text) = number_between text 1 10000

-- `--pause-at N`: any number, and 18,446,744,073,709,551,615 where it isn't given
abbrev pub pause_of : Option (List ℕ) → Option ℕ
pause_of None = Some (2 ^ 64 - 1)
pause_of (Some text) = number_of text

-- A command line asks for a form, with both options.
abbrev pub command_with : Option Form → Option ℕ → Option ℕ → Option Command
command_with asked batch pause =
    option_and_then (λ f. option_and_then (λ b. option_map
    (λ p. record { form = f; batch = b; pause_at = p }) pause) batch) asked
