-- Numbers that stay at the largest: saturating on the way changes nothing.
use Rattle.std.proofs.Common.{◌≡◌, ℕ, ◌^◌, ◌-◌, ◌+◌, ◌*◌, min, List, [], ◌∷◌, arith}
use Rattle.std.specs.Char.{digit_value}
use Rattle.std.specs.Str.Parse.{digits_value_after}

abbrev pub saturated : ℕ → ℕ
saturated n = min n (2 ^ 64 - 1)

pub digits_saturated : (m n : ℕ) (ds : List ℕ) → saturated m ≡ saturated n → saturated (digits_value_after 10 m ds) ≡ saturated (digits_value_after 10 n ds)
digits_saturated m n [] h = h
digits_saturated m n (d ∷ ds) h = digits_saturated (m * 10 + digit_value d) (n * 10 + digit_value d) ds (omega arith)
