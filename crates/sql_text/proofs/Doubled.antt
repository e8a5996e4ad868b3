-- A text literal is read exactly where its value stands with each quote written twice.
use Rattle.std.proofs.Common.{◌≡◌, ℕ, ◌+◌, List, [], ◌∷◌, ◌++◌, Bool, true, false, ◌==◌, if◌then◌else◌, Option, Some, None, refl, sym, ap, arith}
use Rattle.std.proofs.lemmas.Bool.{eqb-true}
use Rattle.sql_text.specs.Lexing.{literal, one_more}
use Rattle.sql_text.specs.Printing.{doubled}
use Rattle.sql_text.specs.Laws.{IsLiteralOf, LiteralsAreDoubled}
use Rattle.sql_text.proofs.Words.{literal_read}

-- what was read before one more byte
record Before (bytes : List ℕ) (found : Option (List ℕ × ℕ)) (value : List ℕ) (len : ℕ) : Type 0 where
  inner : List ℕ
  count : ℕ
  was : found ≡ Some (inner, count)
  value_is : value ≡ bytes ++ inner
  len_is : len ≡ count + 1

same_pair : (p q : List ℕ × ℕ) → Some p ≡ Some q → p ≡ q
same_pair p q e = cc

before : (bytes : List ℕ) (found : Option (List ℕ × ℕ)) (value : List ℕ) (len : ℕ) → one_more bytes found ≡ Some (value, len) → Before bytes found value len
before bytes None value len e = absurd cc
before bytes (Some (inner, count)) value len e = record { inner = inner; count = count; was = refl; value_is = sym (ap (λ x. x.0) (same_pair (bytes ++ inner, count + 1) (value, len) e)); len_is = sym (ap (λ x. x.1) (same_pair (bytes ++ inner, count + 1) (value, len) e)) }

single_byte : (b : ℕ) → (b == 39) ≡ false → doubled b ≡ b ∷ []
single_byte b e = rw e refl

by_quote : (b : ℕ) (bs inner value : List ℕ) (count len : ℕ) → b ≡ 39 → IsLiteralOf (39 ∷ bs) inner count → value ≡ inner → len ≡ count → IsLiteralOf (b ∷ bs) value len
by_quote b bs inner value count len q so v n = rw (q, v, n) so

by_byte : (b : ℕ) (bs inner value : List ℕ) (count len : ℕ) → (b == 39) ≡ false → IsLiteralOf bs inner count → value ≡ b ∷ inner → len ≡ count + 1 → IsLiteralOf (b ∷ bs) value len
by_byte b bs inner value count len q so v n =
    rw (v, n) (record { rest = so.rest; parts = rw (single_byte b q) (ap (λ cs. b ∷ cs) so.parts); closed = so.closed; count = rw (single_byte b q) (omega (arith, so.count)) })

by_double : (b : ℕ) (bs inner value : List ℕ) (count len : ℕ) → b ≡ 39 → IsLiteralOf bs inner count → value ≡ b ∷ inner → len ≡ count + 1 → IsLiteralOf (39 ∷ b ∷ bs) value (len + 1)
by_double b bs inner value count len q so v n =
    rw (v, n, q) (record { rest = so.rest; parts = ap (λ cs. 39 ∷ 39 ∷ cs) so.parts; closed = so.closed; count = omega (arith, so.count) })

mutual
  read_literal : (bs value : List ℕ) (len : ℕ) → literal false bs ≡ Some (value, len) → IsLiteralOf bs value len
  read_literal [] value len e = absurd cc
  read_literal (b ∷ bs) value len e = by_test (b == 39) refl e (read_closing bs) (read_literal bs)
    where
      by_test : (q : Bool) → (b == 39) ≡ q → (if q then one_more [] (literal true bs) else one_more (b ∷ []) (literal false bs)) ≡ Some (value, len) →
          ((value : List ℕ) (len : ℕ) → literal true bs ≡ Some (value, len) → IsLiteralOf (39 ∷ bs) value (len + 1)) →
          ((value : List ℕ) (len : ℕ) → literal false bs ≡ Some (value, len) → IsLiteralOf bs value len) → IsLiteralOf (b ∷ bs) value len
      by_test true q e closing more =
          let r = before [] (literal true bs) value len e in
          let so = closing r.inner r.count r.was in
          by_quote b bs r.inner value (r.count + 1) len (eqb-true b 39 q) so r.value_is r.len_is
      by_test false q e closing more =
          let r = before (b ∷ []) (literal false bs) value len e in
          let so = more r.inner r.count r.was in
          by_byte b bs r.inner value r.count len q so r.value_is r.len_is

  -- a quote was passed
  read_closing : (bs value : List ℕ) (len : ℕ) → literal true bs ≡ Some (value, len) → IsLiteralOf (39 ∷ bs) value (len + 1)
  read_closing [] value len e = let v : [] ≡ value = ap (λ x. x.0) (same_pair ([], 0) (value, len) e) in let n : 0 ≡ len = ap (λ x. x.1) (same_pair ([], 0) (value, len) e) in rw (← v, ← n) (record { rest = []; parts = refl; closed = refl; count = refl })
  read_closing (b ∷ bs) value len e = by_test (b == 39) refl e (read_literal bs)
    where
      by_test : (q : Bool) → (b == 39) ≡ q → (if q then one_more (b ∷ []) (literal false bs) else Some ([], 0)) ≡ Some (value, len) →
          ((value : List ℕ) (len : ℕ) → literal false bs ≡ Some (value, len) → IsLiteralOf bs value len) → IsLiteralOf (39 ∷ b ∷ bs) value (len + 1)
      by_test true q e more =
          let r = before (b ∷ []) (literal false bs) value len e in
          let so = more r.inner r.count r.was in
          by_double b bs r.inner value r.count len (eqb-true b 39 q) so r.value_is r.len_is
      by_test false q e more = let v : [] ≡ value = ap (λ x. x.0) (same_pair ([], 0) (value, len) e) in let n : 0 ≡ len = ap (λ x. x.1) (same_pair ([], 0) (value, len) e) in rw (← v, ← n) (record { rest = b ∷ bs; parts = refl; closed = q; count = refl })

pub literals_are_doubled : LiteralsAreDoubled
literals_are_doubled text value len = (read_literal text value len, λ is. rw (is.parts, is.count) (literal_read value is.rest is.closed))
