-- Reading so many, one after another.
use Rattle.std.proofs.Common.{◌≡◌, ℕ, suc, ◌+◌, ◌-◌, ◌≤◌, ◌<◌, List, [], ◌∷◌, ◌++◌, Some, None, refl, sym, ap, ◌∙◌, append_assoc, arith}
use Rattle.std.proofs.lemmas.List.{append-nil}
use Rattle.journal_rec.specs.declared.faults.RecordFault.{RecordFault}
use Rattle.journal_rec.specs.declared.faults.RecordFault.TheVariants as fault
use Rattle.journal_rec.specs.Reading.{◌>>=◌, Read, Fails, times}

-- what is read behind these
abbrev pub behind : {X : Type 0} → List X → Read (List X) → Read (List X)
behind front read = read >>= λ x. Some (front ++ x.0, x.1)

module _ {X : Type 0} (one : List ℕ → Read X) where
  one_behind : (front : List X) (x : X) (read : Read (List X)) → behind front (read >>= λ others. Some (x ∷ others.0, others.1)) ≡ behind (front ++ x ∷ []) read
  one_behind front x None = refl
  one_behind front x (Some others) = ap (λ (xs : List X). Some (xs, others.1)) (sym (append_assoc front (x ∷ []) others.0))

  one_less : (count i : ℕ) → i < count → count - i ≡ suc (count - (i + 1))
  one_less count i lt = omega arith

  pub goes_on : (front : List X) (count i : ℕ) (bytes rest : List ℕ) (x : X) (total : Read (List X)) → i < count → one bytes ≡ Some (x, rest)
      → behind front (times one (count - i) bytes) ≡ total → behind (front ++ x ∷ []) (times one (count - (i + 1)) rest) ≡ total
  unfolding times
  goes_on front count i bytes rest x total lt is so_far =
      let all : times one (count - i) bytes ≡ (times one (count - (i + 1)) rest >>= λ others. Some (x ∷ others.0, others.1)) = rw (one_less count i lt, is) refl in
      sym (ap (behind front) all ∙ one_behind front x (times one (count - (i + 1)) rest)) ∙ so_far

  pub stops : (front : List X) (count i : ℕ) (bytes : List ℕ) (total : Read (List X)) → i < count → one bytes ≡ None
      → behind front (times one (count - i) bytes) ≡ total → total ≡ None
  unfolding times
  stops front count i bytes total lt is so_far =
      let all : times one (count - i) bytes ≡ None = rw (one_less count i lt, is) refl in
      sym so_far ∙ ap (behind front) all

  pub fails : (e : RecordFault) (front : List X) (count i : ℕ) (bytes : List ℕ) (total : Read (List X)) → i < count
      → Fails e (one bytes) → behind front (times one (count - i) bytes) ≡ total → Fails e total
  fails fault.Bad front count i bytes total lt is so_far = stops front count i bytes total lt is so_far
  fails fault.NoMemory front count i bytes total lt is so_far = tt

  pub ends : (front : List X) (count i : ℕ) (bytes : List ℕ) (total : Read (List X)) → count ≤ i
      → behind front (times one (count - i) bytes) ≡ total → total ≡ Some (front, bytes)
  unfolding times
  ends front count i bytes total le so_far =
      let none : count - i ≡ 0 = omega arith in
      sym so_far ∙ ap (λ (n : ℕ). behind front (times one n bytes)) none ∙ ap (λ (xs : List X). Some (xs, bytes)) (append-nil front)
