-- Fields. What stands at the front is read as it was written, and what was written is read again.
use Rattle.std.proofs.Common.{◌≡◌, ℕ, zero, suc, ◌+◌, ◌^◌, ◌<◌, ◌≤◌, ◌⊎◌, inl, inr, Bool, true, false, cond, ltb, List, [], ◌∷◌, ◌++◌, length, get_or, take, drop, Option, Some, None, refl, sym, ap, subst, ◌∙◌, append_assoc, arith, to_z-of_z}
use Rattle.std.specs.Prelude.{ℤ}
use Rattle.std.specs.Int.{Width, w16, w32, w64, byte_len, from_be_bytes, to_be_bytes, cast_unsigned, cast_signed}
use Rattle.std.specs.Int.RustNames.{FitsSigned}
use Rattle.std.specs.List.{All, flat_map}
use Rattle.std.proofs.Math.Facts.{Fits-of_z, sfits_to_z, Fits-of_lt}
use Rattle.std.proofs.lemmas.Bool.{cases_lt, ltb-false, le-ltb}
use Rattle.std.proofs.lemmas.Int.{of_z-to_z}
use Rattle.std.proofs.lemmas.List.{take_at, drop_at, take-append-drop, length-append, length-take, get_or-drop, get_or-take, get_or_past}
use Rattle.std.proofs.lemmas.List.Elements.{All-nil, All-cons, All-head, All-tail}
use Rattle.std.proofs.lemmas.Nat.{be_bytes_2, be_bytes_4, be_bytes_8, from_be_bytes-to_be_bytes_2, from_be_bytes-to_be_bytes_4, from_be_bytes-to_be_bytes_8}
use Rattle.std.proofs.lemmas.Option.{same_Some, none-some}
use Rattle.journal_rec.specs.Body.{counted_bytes, counted, int_bytes}
use Rattle.journal_rec.specs.Reading.{◌>>=◌, Read, front_at, number_at, int_at, bytes_at, times, counted_at}

-- ---- steps that read something

pub bind_some : {A B : Type 0} (r : Option A) (next : A → Option B) (y : B) → (r >>= next) ≡ Some y → (x : A) × (r ≡ Some x) × (next x ≡ Some y)
bind_some (Some x) next y e = (x, refl, e)
bind_some None next y e = absurd (none-some y e)

pub guard_some : {A : Type 0} (test : Bool) (x y : A) → cond test None (Some x) ≡ Some y → (test ≡ false) × (x ≡ y)
guard_some true x y e = absurd (none-some y e)
guard_some false x y e = (refl, same_Some x y e)

pub chosen : {A : Type 0} (test : Bool) (x y z : A) → cond test x y ≡ z → ((test ≡ true) × (x ≡ z)) ⊎ ((test ≡ false) × (y ≡ z))
chosen true x y z e = inl (refl, e)
chosen false x y z e = inr (refl, e)

-- ---- bytes

abbrev pub IsBytes : List ℕ → Type 0
IsBytes bytes = (i : ℕ) → get_or bytes i 0 < 256

bytes_drop : (n : ℕ) (bytes : List ℕ) → IsBytes bytes → IsBytes (drop n bytes)
bytes_drop n bytes all i = rw get_or-drop (all (n + i))

bytes_take : (n : ℕ) (bytes : List ℕ) → IsBytes bytes → IsBytes (take n bytes)
bytes_take n bytes all i =
    elim (cases_lt i n) [
      | inl lt ↦ rw (get_or-take n bytes i 0 lt) (all i)
      | inr le ↦ rw (get_or_past (take n bytes) i 0 (omega (arith, length-take n bytes))) (omega arith)
    ]

pub bytes_behind : (bytes text rest : List ℕ) → bytes ≡ text ++ rest → IsBytes bytes → IsBytes rest
bytes_behind bytes text rest is all =
    subst IsBytes (ap (λ (l : List ℕ). drop (length text) l) is ∙ drop_at text rest (length text) refl) (bytes_drop (length text) bytes all)

-- ---- forms

-- x was read at the front as it is written, and the rest stands behind it
pub record Took {X : Type 0} (form : X → List ℕ) (Has : X → Type 0) (bytes : List ℕ) (x : X) (rest : List ℕ) : Type 0 where
  pub parts : bytes ≡ form x ++ rest
  pub has : Has x

-- Each x that has it is written as form says, and read so.
pub record IsForm {X : Type 0} (form : X → List ℕ) (Has : X → Type 0) (read : List ℕ → Read X) : Type 0 where
  pub takes : (bytes : List ℕ) (x : X) (rest : List ℕ) → IsBytes bytes → read bytes ≡ Some (x, rest) → Took form Has bytes x rest
  pub again : (x : X) (rest : List ℕ) → Has x → read (form x ++ rest) ≡ Some (x, rest)

-- ---- numbers

pub record IsWide (w : Width) (limit : ℕ) : Type 0 where
  pub len : (n : ℕ) → length (to_be_bytes w n) ≡ byte_len w
  pub back : (bytes : List ℕ) → length bytes ≡ byte_len w → IsBytes bytes → to_be_bytes w (from_be_bytes w bytes) ≡ bytes
  pub again : (n : ℕ) → n < limit → from_be_bytes w (to_be_bytes w n) ≡ n
  pub below : (bytes : List ℕ) → IsBytes bytes → from_be_bytes w bytes < limit

pub wide16 : IsWide w16 (2 ^ 16)
wide16 = record {
  len = λ n. refl;
  back = λ bytes len all. be_bytes_2 bytes _ len all refl;
  again = λ n lt. from_be_bytes-to_be_bytes_2 n lt;
  below = λ bytes all. omega (arith, all 0, all 1);
}

pub wide32 : IsWide w32 (2 ^ 32)
wide32 = record {
  len = λ n. refl;
  back = λ bytes len all. be_bytes_4 bytes _ len all refl;
  again = λ n lt. from_be_bytes-to_be_bytes_4 n lt;
  below = λ bytes all. omega (arith, all 0, all 1, all 2, all 3);
}

wide64 : IsWide w64 (2 ^ 64)
wide64 = record {
  len = λ n. refl;
  back = λ bytes len all. be_bytes_8 bytes _ len all refl;
  again = λ n lt. from_be_bytes-to_be_bytes_8 n lt;
  below = λ bytes all. omega (arith, all 0, all 1, all 2, all 3, all 4, all 5, all 6, all 7);
}

module _ (w : Width) (limit : ℕ) (wide : IsWide w limit) where
  number_takes : (bytes : List ℕ) (n : ℕ) (rest : List ℕ) → IsBytes bytes → number_at w bytes ≡ Some (n, rest) → Took (to_be_bytes w) (λ m. m < limit) bytes n rest
  number_takes bytes n rest all e =
      let g = guard_some (ltb (length bytes) (byte_len w)) (from_be_bytes w (take (byte_len w) bytes), drop (byte_len w) bytes) (n, rest) e in
      let long : byte_len w ≤ length bytes = ltb-false _ _ g.0 in
      let n_is : from_be_bytes w (take (byte_len w) bytes) ≡ n = ap (λ (p : ℕ × List ℕ). p.0) g.1 in
      let rest_is : drop (byte_len w) bytes ≡ rest = ap (λ (p : ℕ × List ℕ). p.1) g.1 in
      let front : to_be_bytes w n ≡ take (byte_len w) bytes = rw (← n_is) (wide.back (take (byte_len w) bytes) (omega (arith, length-take (byte_len w) bytes)) (bytes_take (byte_len w) bytes all)) in
      record { parts = rw (front, ← rest_is) (sym (take-append-drop (byte_len w) bytes)); has = rw (← n_is) (wide.below (take (byte_len w) bytes) (bytes_take (byte_len w) bytes all)) }

  number_again : (n : ℕ) (rest : List ℕ) → n < limit → number_at w (to_be_bytes w n ++ rest) ≡ Some (n, rest)
  number_again n rest lt =
      let len = wide.len n in
      let long : ltb (length (to_be_bytes w n ++ rest)) (byte_len w) ≡ false = le-ltb _ _ (omega (arith, length-append (to_be_bytes w n) rest)) in
      rw (long, take_at (to_be_bytes w n) rest (byte_len w) len, drop_at (to_be_bytes w n) rest (byte_len w) len, wide.again n lt) refl

  pub number_form : IsForm (to_be_bytes w) (λ n. n < limit) (number_at w)
  number_form = record { takes = number_takes; again = number_again }

  -- bytes behind their number
  bytes_takes : (bytes text rest : List ℕ) → IsBytes bytes → bytes_at w bytes ≡ Some (text, rest) → Took (counted_bytes w) (λ t. length t < limit) bytes text rest
  unfolding bytes_at
  bytes_takes bytes text rest all e =
      let b = bind_some (number_at w bytes) (λ n. front_at n.0 n.1) (text, rest) e in
      let n = b.0 in
      let t = number_takes bytes n.0 n.1 all b.1 in
      let g = guard_some (ltb (length n.1) n.0) (take n.0 n.1, drop n.0 n.1) (text, rest) b.2 in
      let long : n.0 ≤ length n.1 = ltb-false _ _ g.0 in
      let len : length (take n.0 n.1) ≡ n.0 = omega (arith, length-take n.0 n.1) in
      let both : bytes ≡ (to_be_bytes w n.0 ++ take n.0 n.1) ++ drop n.0 n.1 = t.parts ∙ ap (λ (l : List ℕ). to_be_bytes w n.0 ++ l) (sym (take-append-drop n.0 n.1)) ∙ sym (append_assoc (to_be_bytes w n.0) (take n.0 n.1) (drop n.0 n.1)) in
      let whole : bytes ≡ counted_bytes w (take n.0 n.1) ++ drop n.0 n.1 = both ∙ ap (λ (k : ℕ). (to_be_bytes w k ++ take n.0 n.1) ++ drop n.0 n.1) (sym len) in
      subst (λ (p : List ℕ × List ℕ). Took (counted_bytes w) (λ t. length t < limit) bytes p.0 p.1) g.1 (record { parts = whole; has = omega (arith, t.has, len) })

  bytes_again : (text rest : List ℕ) → length text < limit → bytes_at w (counted_bytes w text ++ rest) ≡ Some (text, rest)
  unfolding bytes_at
  bytes_again text rest lt =
      let long : ltb (length (text ++ rest)) (length text) ≡ false = le-ltb _ _ (omega (arith, length-append text rest)) in
      ap (λ (l : List ℕ). number_at w l >>= λ n. front_at n.0 n.1) (append_assoc (to_be_bytes w (length text)) text rest)
      ∙ rw (number_again (length text) (text ++ rest) lt, long, take_at text rest (length text) refl, drop_at text rest (length text) refl) refl

  pub bytes_form : IsForm (counted_bytes w) (λ text. length text < limit) (bytes_at w)
  bytes_form = record { takes = bytes_takes; again = bytes_again }

-- ---- numbers with a sign

int_takes : (bytes : List ℕ) (n : ℤ) (rest : List ℕ) → IsBytes bytes → int_at bytes ≡ Some (n, rest) → Took int_bytes (FitsSigned w64) bytes n rest
unfolding int_at
int_takes bytes n rest all e =
    let b = bind_some (number_at w64 bytes) (λ m. Some (cast_signed w64 m.0, m.1)) (n, rest) e in
    let t = (number_form w64 (2 ^ 64) wide64).takes bytes b.0.0 b.0.1 all b.1 in
    let back : cast_unsigned w64 (cast_signed w64 b.0.0) ≡ b.0.0 = of_z-to_z w64 b.0.0 t.has in
    subst (λ (p : ℤ × List ℕ). Took int_bytes (FitsSigned w64) bytes p.0 p.1) (same_Some (cast_signed w64 b.0.0, b.0.1) (n, rest) b.2)
    (record { parts = t.parts ∙ ap (λ (m : ℕ). to_be_bytes w64 m ++ b.0.1) (sym back); has = sfits_to_z (Fits-of_lt t.has) })

int_again : (n : ℤ) (rest : List ℕ) → FitsSigned w64 n → int_at (int_bytes n ++ rest) ≡ Some (n, rest)
unfolding int_at
int_again n rest has =
    let below : cast_unsigned w64 n < 2 ^ 64 = (Fits-of_z has).fits in
    rw ((number_form w64 (2 ^ 64) wide64).again (cast_unsigned w64 n) rest below, to_z-of_z has) refl

pub int_form : IsForm int_bytes (FitsSigned w64) int_at
int_form = record { takes = int_takes; again = int_again }

-- ---- so many, one after another

module _ {X : Type 0} (form : X → List ℕ) (P Q : X → Type 0) (one : List ℕ → Read X) (is : IsForm form (λ x. P x × Q x) one) where
  times_take : (n : ℕ) (bytes : List ℕ) (xs : List X) (rest : List ℕ) → IsBytes bytes → times one n bytes ≡ Some (xs, rest)
      → (bytes ≡ flat_map form xs ++ rest) × (length xs ≡ n) × All P xs × All Q xs
  unfolding times
  times_take zero bytes xs rest all e =
      subst (λ (p : List X × List ℕ). (bytes ≡ flat_map form p.0 ++ p.1) × (length p.0 ≡ 0) × All P p.0 × All Q p.0) (same_Some ([], bytes) (xs, rest) e)
      (refl, refl, All-nil P, All-nil Q)
  times_take (suc n) bytes xs rest all e =
      let a = bind_some (one bytes) (λ first. times one n first.1 >>= λ others. Some (first.0 ∷ others.0, others.1)) (xs, rest) e in
      let b = bind_some (times one n a.0.1) (λ others. Some (a.0.0 ∷ others.0, others.1)) (xs, rest) a.2 in
      let first = is.takes bytes a.0.0 a.0.1 all a.1 in
      let others = times_take n a.0.1 b.0.0 b.0.1 (bytes_behind bytes (form a.0.0) a.0.1 first.parts all) b.1 in
      let parts : bytes ≡ flat_map form (a.0.0 ∷ b.0.0) ++ b.0.1 = first.parts ∙ ap (λ (l : List ℕ). form a.0.0 ++ l) others.0 ∙ sym (append_assoc (form a.0.0) (flat_map form b.0.0) b.0.1) in
      subst (λ (p : List X × List ℕ). (bytes ≡ flat_map form p.0 ++ p.1) × (length p.0 ≡ suc n) × All P p.0 × All Q p.0) (same_Some (a.0.0 ∷ b.0.0, b.0.1) (xs, rest) b.2)
      (parts, ap suc others.1, All-cons P a.0.0 b.0.0 first.has.0 others.2, All-cons Q a.0.0 b.0.0 first.has.1 others.3)

  times_again : (xs : List X) (rest : List ℕ) → All P xs → All Q xs → times one (length xs) (flat_map form xs ++ rest) ≡ Some (xs, rest)
  unfolding times
  times_again [] rest p q = refl
  times_again (x ∷ xs) rest p q =
      let regrouped : flat_map form (x ∷ xs) ++ rest ≡ form x ++ (flat_map form xs ++ rest) = append_assoc (form x) (flat_map form xs) rest in
      ap (times one (suc (length xs))) regrouped
      ∙ rw (is.again x (flat_map form xs ++ rest) (All-head P x xs p, All-head Q x xs q), times_again xs rest (All-tail P x xs p) (All-tail Q x xs q)) refl

  module _ (w : Width) (limit : ℕ) (wide : IsWide w limit) where
    counted_takes : (bytes : List ℕ) (xs : List X) (rest : List ℕ) → IsBytes bytes → counted_at w one bytes ≡ Some (xs, rest)
        → Took (counted w form) (λ ys. ((length ys < limit) × All P ys) × All Q ys) bytes xs rest
    unfolding counted_at
    counted_takes bytes xs rest all e =
        let a = bind_some (number_at w bytes) (λ n. times one n.0 n.1) (xs, rest) e in
        let n = (number_form w limit wide).takes bytes a.0.0 a.0.1 all a.1 in
        let t = times_take a.0.0 a.0.1 xs rest (bytes_behind bytes (to_be_bytes w a.0.0) a.0.1 n.parts all) a.2 in
        record {
          parts = n.parts ∙ ap (λ (l : List ℕ). to_be_bytes w a.0.0 ++ l) t.0 ∙ sym (append_assoc (to_be_bytes w a.0.0) (flat_map form xs) rest)
              ∙ ap (λ (k : ℕ). (to_be_bytes w k ++ flat_map form xs) ++ rest) (sym t.1);
          has = ((omega (arith, t.1, n.has), t.2), t.3);
        }

    counted_again : (xs : List X) (rest : List ℕ) → ((length xs < limit) × All P xs) × All Q xs → counted_at w one (counted w form xs ++ rest) ≡ Some (xs, rest)
    unfolding counted_at
    counted_again xs rest has =
        ap (λ (l : List ℕ). number_at w l >>= λ n. times one n.0 n.1) (append_assoc (to_be_bytes w (length xs)) (flat_map form xs) rest)
        ∙ rw ((number_form w limit wide).again (length xs) (flat_map form xs ++ rest) has.0.0) (times_again xs rest has.0.1 has.1)

    pub counted_form : IsForm (counted w form) (λ xs. ((length xs < limit) × All P xs) × All Q xs) (counted_at w one)
    counted_form = record { takes = counted_takes; again = counted_again }
