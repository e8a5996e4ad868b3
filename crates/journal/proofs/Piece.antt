-- What was read at a gate.
use Rattle.std.proofs.Common.{◌≡◌, ◌≢◌, ◌⊎◌, inl, inr, ⊎_elim, Result, Ok, Err, IsErrOf, ℕ, ◌+◌, ◌-◌, ◌^◌, ◌≤◌, ◌<◌, length-append, length-drop, List, [], ◌∷◌, ◌++◌, length, get_or, take, drop, refl, sym, ◌∙◌, ap, arith, take-append-drop}
use Rattle.std.specs.Int.{w32, to_be_bytes, from_be_bytes}
use Rattle.std.proofs.lemmas.List.{drop_more, drop-drop}
use Rattle.std.proofs.lemmas.Nat.{from_be_bytes-to_be_bytes_4}
use Rattle.journal.specs.declared.pieces.JournalFault.{JournalFault}
use Rattle.journal.specs.declared.pieces.JournalFault.TheVariants.{Failed, BadRecord, NoMemory}
use Rattle.journal.specs.Records.{IsRecord, lead, lead_of, IsPieceAt, IsShutAt, IsBadAt}

first_of : (file buf : List ℕ) (at : ℕ) → at < length file → buf ≡ take 1 (drop at file) → buf ≡ get_or file at 0 ∷ []
first_of file buf at lt is = is ∙ ap (λ (l : List ℕ). take 1 l) (drop_more file at 0 lt)

pub shut_at : (file buf : List ℕ) (at : ℕ) → at < length file → buf ≡ take 1 (drop at file) → get_or buf 0 0 ≢ 1 → IsShutAt file at
shut_at file buf at lt is shut = (get_or file at 0, drop (at + 1) file, (λ one. shut (ap (λ (l : List ℕ). get_or l 0 0) (first_of file buf at lt is) ∙ one)), drop_more file at 0 lt)

pub piece_at : (file buf four body : List ℕ) (at n : ℕ) → at < length file → buf ≡ take 1 (drop at file) → get_or buf 0 0 ≡ 1
    → four ≡ take 4 (drop (at + 1) file) → to_be_bytes w32 n ≡ four
    → body ≡ take n (drop (at + 5) file) → length body ≡ n → IsPieceAt file at body
piece_at file buf four body at n lt is open_gate four_is n_is body_is len =
    let gate : get_or file at 0 ≡ 1 = ap (λ (l : List ℕ). get_or l 0 0) (sym (first_of file buf at lt is)) ∙ open_gate in
    let rest = drop n (drop (at + 5) file) in
    let later : drop 4 (drop (at + 1) file) ≡ drop (at + 5) file = drop-drop 4 (at + 1) file ∙ (let five : at + 1 + 4 ≡ at + 5 = omega arith in ap (λ (k : ℕ). drop k file) five) in
    let tail : drop (at + 1) file ≡ four ++ (body ++ rest) =
    sym (take-append-drop 4 (drop (at + 1) file)) ∙ (λ i. sym four_is i ++ later i) ∙ ap (λ (l : List ℕ). four ++ l) (sym (take-append-drop n (drop (at + 5) file)) ∙ ap (λ (l : List ℕ). l ++ rest) (sym body_is)) in
    let lead_is : to_be_bytes w32 (length body) ≡ four = ap (λ (k : ℕ). to_be_bytes w32 k) len ∙ n_is in
    (rest, drop_more file at 0 lt ∙ (λ i. gate i ∷ tail i) ∙ ap (λ (l : List ℕ). 1 ∷ (l ++ (body ++ rest))) (sym lead_is))

-- the place that an answer tells
abbrev place_of : {T : Type 0} → Result T JournalFault → ℕ
place_of (Ok value) = 0
place_of (Err Failed) = 0
place_of (Err (BadRecord at)) = at
place_of (Err NoMemory) = 0

pub same_place : {T : Type 0} (at place : ℕ) → ◌≡◌ {A = Result T JournalFault} (Err (BadRecord at)) (Err (BadRecord place)) → place ≡ at
same_place at place is = sym (ap place_of is)

-- the same fault in another answer
pub same_fault : {T U : Type 0} (f other : JournalFault) → ◌≡◌ {A = Result T JournalFault} (Err f) (Err other) → ◌≡◌ {A = Result U JournalFault} (Err f) (Err other)
same_fault f other is = let same : f ≡ other = cc in ap (λ (e : JournalFault). Err e) same

-- ---- where no record stands

open_at : (file buf : List ℕ) (at : ℕ) → at < length file → buf ≡ take 1 (drop at file) → get_or buf 0 0 ≡ 1 → drop at file ≡ 1 ∷ drop (at + 1) file
open_at file buf at lt is open_gate =
    let gate : get_or file at 0 ≡ 1 = ap (λ (l : List ℕ). get_or l 0 0) (sym (first_of file buf at lt is)) ∙ open_gate in
    drop_more file at 0 lt ∙ ap (λ (k : ℕ). k ∷ drop (at + 1) file) gate

-- the length behind the gate
lead_is : (behind four : List ℕ) (n : ℕ) → four ≡ take 4 behind → to_be_bytes w32 n ≡ four → n < 2 ^ 32 → lead_of behind ≡ n
lead_is behind four n four_is n_is small = ap (λ (l : List ℕ). from_be_bytes w32 l) (sym four_is ∙ sym n_is) ∙ from_be_bytes-to_be_bytes_4 n small

pub bad_end : (file : List ℕ) (at : ℕ) → length file ≤ at → IsBadAt file at
bad_end file at past = inl (none (drop at file) (omega (arith, length-drop at file)))
  where
    none : (l : List ℕ) → length l ≡ 0 → l ≡ []
    none [] e = refl
    none (x ∷ l) e = absurd (omega arith)

pub bad_short : (file buf : List ℕ) (at : ℕ) → at < length file → buf ≡ take 1 (drop at file) → get_or buf 0 0 ≡ 1 → length file - at < 5 → IsBadAt file at
bad_short file buf at lt is open_gate short = inr (drop (at + 1) file, open_at file buf at lt is open_gate, inl (omega (arith, length-drop (at + 1) file)))

module _ (file buf four : List ℕ) (at n : ℕ) (lt : at < length file) (is : buf ≡ take 1 (drop at file)) (open_gate : get_or buf 0 0 ≡ 1)
    (long : 5 ≤ length file - at) (four_is : four ≡ take 4 (drop (at + 1) file)) (n_is : to_be_bytes w32 n ≡ four) (small : n < 2 ^ 32) where
  lead_n : lead_of (drop (at + 1) file) ≡ n
  lead_n = lead_is (drop (at + 1) file) four n four_is n_is small

  pub bad_length : (n ≡ 0) ⊎ ((134217728 < n) ⊎ (length file - at - 5 < n)) → IsBadAt file at
  bad_length why =
      inr (
        drop (at + 1) file,
        open_at file buf at lt is open_gate,
        inr (⊎_elim (λ none. inl (lead_n ∙ none)) (λ more. inr (⊎_elim
            (λ above. inl (omega (arith, lead_n, above)))
            (λ past. inr (omega (arith, lead_n, past, length-drop (at + 1) file)))
            more)) why),
      )

  pub not_bad : (1 ≤ n) × (n ≤ 134217728) × (n ≤ length file - at - 5) → IsBadAt file at → ⊥
  not_bad fits (inl none) = absurd (omega (arith, ap length none, length-drop at file))
  not_bad fits (inr (rest, is_open, lacks)) =
      let same : rest ≡ drop (at + 1) file = sym (ap (λ (l : List ℕ). drop 1 l) is_open) ∙ drop-drop 1 at file in
      let lead_r : lead_of rest ≡ n = ap lead_of same ∙ lead_n in
      let size : length rest ≡ length file - (at + 1) = ap length same ∙ length-drop (at + 1) file in
      ⊎_elim (λ cut. absurd (omega (arith, cut, size))) (λ l. ⊎_elim (λ none. absurd (omega (arith, none, lead_r, fits.0))) (λ m. ⊎_elim
      (λ above. absurd (omega (arith, above, lead_r, fits.1)))
      (λ past. absurd (omega (arith, past, lead_r, size, fits.2)))
      m) l) lacks

-- a closed gate isn't bad, nor is a record
pub shut_not_bad : (file : List ℕ) (at : ℕ) → IsShutAt file at → IsBadAt file at → ⊥
shut_not_bad file at (gate, behind, shut, is) (inl none) = absurd (omega (arith, ap length (sym is ∙ none)))
shut_not_bad file at (gate, behind, shut, is) (inr (rest, is_open, lacks)) = shut (ap (λ (l : List ℕ). get_or l 0 0) (sym is ∙ is_open))

pub piece_not_bad : (file : List ℕ) (at : ℕ) (r : List ℕ) → IsRecord r → IsPieceAt file at r → IsBadAt file at → ⊥
piece_not_bad file at r record_is (more, is) (inl none) = absurd (omega (arith, ap length (sym is ∙ none)))
piece_not_bad file at r record_is (more, is) (inr (rest, is_open, lacks)) =
    let same : rest ≡ lead r ++ (r ++ more) = sym (ap (λ (l : List ℕ). drop 1 l) is_open) ∙ ap (λ (l : List ℕ). drop 1 l) is in
    let lead_r : lead_of rest ≡ length r = ap lead_of same ∙ from_be_bytes-to_be_bytes_4 (length r) (omega (arith, record_is.1)) in
    let size : length rest ≡ 4 + (length r + length more) = omega (arith, ap length same, length-append (lead r) (r ++ more), length-append r more) in
    ⊎_elim (λ cut. absurd (omega (arith, cut, size))) (λ l. ⊎_elim (λ none. absurd (omega (arith, none, lead_r, record_is.0))) (λ m. ⊎_elim
    (λ above. absurd (omega (arith, above, lead_r, record_is.1)))
    (λ past. absurd (omega (arith, past, lead_r, size)))
    m) l) lacks

-- where no record stands, and the disk didn't fail, that is told
pub bad_is_told : {T U X B R : Type 0} (fault : JournalFault) (at : ℕ)
    → ((place : ℕ) → ◌≡◌ {A = Result T JournalFault} (Err fault) (Err (BadRecord place)) → (place ≡ at) × X)
    → (IsErrOf {T = T} (Err fault) NoMemory → ¬ B) → (IsErrOf {T = T} (Err fault) Failed → R)
    → B → ¬ R → ◌≡◌ {A = Result U JournalFault} (Err fault) (Err (BadRecord at))
bad_is_told Failed at bad sound failed is never = absurd (never (failed refl))
bad_is_told (BadRecord place) at bad sound failed is never = ap (λ (n : ℕ). Err (BadRecord n)) (bad place refl).0
bad_is_told NoMemory at bad sound failed is never = absurd (sound refl is)
