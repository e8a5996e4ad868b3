-- A record's fields by their places, and texts.
use Rattle.std.proofs.Common.{◌≡◌, ◌≢◌, ℕ, zero, suc, ◌+◌, ◌<◌, ◌≤◌, List, [], ◌∷◌, length, drop, get_or, Bool, true, false, not, ◌&&◌, Some, None, refl, sym, ap, ◌∙◌, length-append, arith}
use Rattle.std.specs.List.{join_with_byte}
use Rattle.std.specs.Str.{is_utf8}
use Rattle.std.proofs.lemmas.Str.{IsUtf8-from_is_utf8, is_utf8-from_IsUtf8}
use Rattle.std.proofs.lemmas.Bool.Decides.{nat_tests}
use Rattle.std.proofs.lemmas.List.{drop_more}
use Rattle.csv.specs.Records.{field_at}
use Rattle.sql_base.specs.Text.{IsText, has_zero}
use Rattle.csv_load.specs.Load.{fits, is_text}

-- ---- places

pub field_within : (fs : List (List ℕ)) (i : ℕ) → i < length fs → field_at fs i ≢ None
unfolding field_at
field_within [] i h e = absurd (omega arith)
field_within (f ∷ fs) zero h e = cc
field_within (f ∷ fs) (suc i) h e = field_within fs i (omega arith) e

pub field_is : (fs : List (List ℕ)) (i : ℕ) (f : List ℕ) → field_at fs i ≡ Some f → f ≡ get_or fs i []
unfolding field_at
field_is [] i f h = cc
field_is (g ∷ fs) zero f h = cc
field_is (g ∷ fs) (suc i) f h = field_is fs i f h

-- ---- bytes

-- the bytes of the fields, with a byte behind each
abbrev pub taken : List (List ℕ) → ℕ
taken [] = 0
taken (f ∷ fs) = (length f + 1) + taken fs

pub taken_is : (f : List ℕ) (fs : List (List ℕ)) → taken (f ∷ fs) ≡ length (join_with_byte 44 (f ∷ fs)) + 1
taken_is f [] = omega arith
taken_is f (g ∷ fs) = let more = taken_is g fs in omega (arith, more, length-append f (44 ∷ join_with_byte 44 (g ∷ fs)))

pub few_taken : (fs : List (List ℕ)) → taken fs ≤ 4097 → fits fs ≡ true
few_taken [] h = refl
few_taken (f ∷ fs) h = let is = taken_is f fs in grind (arith, nat_tests, is)

pub many_taken : (fs : List (List ℕ)) → 4097 < taken fs → fits fs ≡ false
many_taken [] h = absurd (omega arith)
many_taken (f ∷ fs) h = let is = taken_is f fs in grind (arith, nat_tests, is)

pub next_taken : (fs : List (List ℕ)) (i : ℕ) (f : List ℕ) → i < length fs → f ≡ get_or fs i [] →
    taken (drop i fs) ≡ (length f + 1) + taken (drop (i + 1) fs)
next_taken fs i f h e = ap taken (drop_more fs i [] h) ∙ ap (λ g. (length g + 1) + taken (drop (i + 1) fs)) (sym e)

pub none_taken : (fs : List (List ℕ)) → taken (drop (length fs) fs) ≡ 0
none_taken [] = refl
none_taken (f ∷ fs) = none_taken fs

-- ---- texts

pub is_text-true : (bytes : List ℕ) → IsText bytes → is_text bytes ≡ true
is_text-true bytes h = rw (is_utf8-from_IsUtf8 bytes h.0, h.1) refl

by_test : (u z : Bool) → (u ≡ true → z ≡ false → ⊥) → (u && not z) ≡ false
by_test true true h = refl
by_test true false h = absurd (h refl refl)
by_test false z h = refl

pub is_text-false : (bytes : List ℕ) → ¬ IsText bytes → is_text bytes ≡ false
is_text-false bytes never = by_test (is_utf8 bytes) (has_zero bytes) (λ u z. never (IsUtf8-from_is_utf8 bytes u, z))
