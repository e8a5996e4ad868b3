-- The lines of an input.
use Rattle.std.specs.Prelude.{ℕ, List, [], ◌∷◌, ◌==◌, Bool, false, ◌&&◌, ◌||◌, if◌then◌else◌}
use Rattle.std.specs.List.{list_all, onto_first}
use Rattle.std.specs.Str.{byte}

-- The bytes begin with this one.
abbrev pub begins_with : ℕ → List ℕ → Bool
begins_with first [] = false
begins_with first (b ∷ bytes) = b == first

-- Each line ends with a newline, which the last one may lack; a newline at the end of the input begins no further line. A carriage return directly before a newline belongs to the line's end, and only that one.
abbrev pub split_lines : List ℕ → List (List ℕ)
split_lines [] = []
split_lines (b ∷ bytes) =
    if b == byte "\n" then [] ∷ split_lines bytes
    else (if b == byte "\r" && begins_with (byte "\n") bytes then split_lines bytes
    else onto_first b (split_lines bytes))

-- two dashes in front
abbrev pub is_comment : List ℕ → Bool
is_comment [] = false
is_comment (b ∷ bytes) = b == byte "-" && begins_with (byte "-") bytes

-- Empty lines, lines of spaces alone and lines that begin with two dashes are passed by.
abbrev pub is_passed : List ℕ → Bool
is_passed line = list_all (λ b. b == byte " ") line || is_comment line
