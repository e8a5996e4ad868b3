-- Bytes with U+FFFD for what isn't UTF-8 are UTF-8.
use lib.Utf8.{encode}
use Rattle.std.proofs.Common.{◌≡◌, ℕ, zero, suc, ◌≤◌, List, [], ◌∷◌, length, take, take_all, Bool, true, false, if◌then◌else◌, IsUtf8, inl, inr, refl, sym, subst, arith}
use Rattle.std.proofs.lemmas.Bool.{cases_lt}
use Rattle.std.proofs.lemmas.Str.{IsUtf8-append, IsUtf8-nil, IsUtf8-from_is_utf8, utf8_lossy-IsUtf8, utf8_lossy_step, utf8_lossy_empty}
use Rattle.std.specs.Str.{is_utf8}
use Rattle.std.specs.Str.Lossy.{valid_len_up_to, utf8_valid_len, after_first_chunk, replacement_bytes, utf8_lossy}
use Rattle.std.proofs.str.Lossy.{length-after_first_chunk}

front_utf8 : (bytes : List ℕ) (n : ℕ) → IsUtf8 (take (valid_len_up_to bytes n) bytes)
front_utf8 bytes zero = IsUtf8-nil
front_utf8 bytes (suc n) = by_test (is_utf8 (take (suc n) bytes)) refl (front_utf8 bytes n)
  where
    by_test : (b : Bool) → is_utf8 (take (suc n) bytes) ≡ b → IsUtf8 (take (valid_len_up_to bytes n) bytes) → IsUtf8 (take (if b then suc n else valid_len_up_to bytes n) bytes)
    by_test true is less = IsUtf8-from_is_utf8 _ is
    by_test false is less = less

replacement_utf8 : IsUtf8 replacement_bytes
unfolding encode
replacement_utf8 = (0xFFFD ∷ [], (refl, refl))

lossy_up_to : (k : ℕ) (bytes : List ℕ) → length bytes ≤ k → IsUtf8 (utf8_lossy bytes)
unfolding utf8_valid_len
lossy_up_to zero bytes short = subst IsUtf8 (sym (utf8_lossy_empty bytes (omega arith))) IsUtf8-nil
lossy_up_to (suc k) bytes short =
    let n = utf8_valid_len bytes in
    let front : IsUtf8 (take n bytes) = front_utf8 bytes (length bytes) in
    elim (cases_lt n (length bytes)) [
      | inl less ↦
          let faulty : ¬ (n ≡ length bytes) = omega (arith, less) in
          let rest : IsUtf8 (utf8_lossy (after_first_chunk bytes)) = lossy_up_to k (after_first_chunk bytes) (omega (arith, length-after_first_chunk bytes faulty)) in
          subst IsUtf8 (sym (utf8_lossy_step bytes faulty)) (IsUtf8-append _ _ front (IsUtf8-append _ _ replacement_utf8 rest))
      | inr whole ↦
          let same : IsUtf8 bytes = subst IsUtf8 (take_all n bytes whole) front in subst IsUtf8 (sym (utf8_lossy-IsUtf8 bytes same)) same
    ]

pub lossy_utf8 : (bytes : List ℕ) → IsUtf8 (utf8_lossy bytes)
lossy_utf8 bytes = lossy_up_to (length bytes) bytes (omega arith)
