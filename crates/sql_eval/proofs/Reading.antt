-- Saturating on the way changes nothing.
use Rattle.std.proofs.Common.{◌≡◌, ℕ, ◌^◌, ◌-◌, ◌+◌, ◌*◌, min, List, [], ◌∷◌, true, false, ap, refl, arith, if◌then◌else◌}
use Rattle.std.specs.Prelude.{Some, None}
use Rattle.std.specs.Option.{option_map}
use Rattle.std.specs.Char.{is_ascii_digit}
use Rattle.sql_eval.specs.Cast.{read_digits}

abbrev pub saturated : ℕ → ℕ
saturated n = min n (2 ^ 64 - 1)

pub read_digits-saturated : (m n : ℕ) (bs : List ℕ) → saturated m ≡ saturated n → option_map saturated (read_digits m bs) ≡ option_map saturated (read_digits n bs)
read_digits-saturated m n [] h = ap Some h
read_digits-saturated m n (b ∷ bs) h =
    let next : saturated (10 * m + (b - 48)) ≡ saturated (10 * n + (b - 48)) = omega arith in
    let more = read_digits-saturated (10 * m + (b - 48)) (10 * n + (b - 48)) bs next in
    elim (is_ascii_digit b) as (λ d. option_map saturated (if d then read_digits (10 * m + (b - 48)) bs else None) ≡ option_map saturated (if d then read_digits (10 * n + (b - 48)) bs else None)) [
      | true ↦ more
      | false ↦ refl
    ]
