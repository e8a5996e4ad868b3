-- The texts that values hold.
use Rattle.std.specs.Prelude.{ℕ, Bool, false, List, ◌==◌, ◌≡◌}
use Rattle.std.specs.List.{list_any}
use Rattle.std.specs.Str.{IsUtf8}

abbrev pub has_zero : List ℕ → Bool
has_zero = list_any (λ b. b == 0)

-- UTF-8 without the byte 0
abbrev pub IsText : List ℕ → Type 0
IsText bytes = IsUtf8 bytes × (has_zero bytes ≡ false)
