-- For the code.
use Rattle.std.specs.Prelude.{ℕ, List, [], ◌∷◌, ◌==◌, Option, Result, Ok, Err, if◌then◌else◌}
use Rattle.std.specs.Option.{option_map_or}
use Rattle.std.specs.Str.{byte}
use Rattle.sql_base.specs.declared.faults.ScriptFault.{ScriptFault}
use Rattle.sql_base.specs.declared.faults.ScriptFault.TheVariants.{Line as BadLine}

-- without a carriage return at the end
abbrev pub trimmed : List ℕ → List ℕ
trimmed [] = []
trimmed (b ∷ []) = if b == byte "\r" then [] else b ∷ []
trimmed (b ∷ c ∷ bytes) = b ∷ trimmed (c ∷ bytes)

-- One line, of this number.
abbrev pub line_at : {L : Type 0} → (List ℕ → Option L) → ℕ → List ℕ → Result L ScriptFault
line_at reads number line = option_map_or (λ read. Ok read) (reads line) (Err (BadLine number))
