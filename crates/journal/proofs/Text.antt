-- What the text of records stands for, and what writes make of it.
use Rattle.std.proofs.Common.{◌≡◌, ◌≢◌, ℕ, zero, suc, ◌+◌, ◌-◌, ◌≤◌, List, [], ◌∷◌, ◌++◌, length, get_or, take, drop, refl, sym, ◌∙◌, ap, arith, append_assoc, length-append, take-append-drop}
use Rattle.std.proofs.lemmas.Bool.Decides.{nat_tests}
use Rattle.std.proofs.lemmas.List.{append-nil, take_at, drop_at, drop_more}
use Rattle.std.proofs.lemmas.Nat.{from_be_bytes-to_be_bytes_4}
use Rattle.pg_io.specs.Disk.{Holds, Torn}
use Rattle.journal.specs.Records.{head, IsRecord, AreRecords, lead, pieces, front, Reads, records_in, records_of, behind_text}

-- ---- what it stands for

one : (r : List ℕ) (n : ℕ) (more : List ℕ) → IsRecord r → records_in (suc n) (1 ∷ (lead r ++ (r ++ more))) ≡ r ∷ records_in n more
one r n more is =
    let size = from_be_bytes-to_be_bytes_4 (length r) (omega (arith, is.1)) in
    (λ i. take (size i) (r ++ more) ∷ records_in n (drop (size i) (r ++ more))) ∙ (λ i. take_at r more (length r) refl i ∷ records_in n (drop_at r more (length r) refl i))

pub records_pieces : (rs : List (List ℕ)) (n m : ℕ) (rest : List ℕ) → AreRecords rs → n ≡ length rs + m → records_in n (pieces rs ++ rest) ≡ rs ++ records_in m rest
records_pieces [] n m rest are is = let same : n ≡ m = omega (arith, is) in ap (λ (k : ℕ). records_in k rest) same
records_pieces (r ∷ rs) zero m rest are is = absurd (omega arith)
records_pieces (r ∷ rs) (suc n) m rest are is =
    ap (λ (l : List ℕ). records_in (suc n) (1 ∷ l)) (append_assoc (lead r) (r ++ pieces rs) rest ∙ ap (λ (l : List ℕ). lead r ++ l) (append_assoc r (pieces rs) rest))
    ∙ one r n (pieces rs ++ rest) are.0
    ∙ ap (λ (l : List (List ℕ)). r ∷ l) (records_pieces rs n m rest are.1 (omega arith))

pub fewer : (rs : List (List ℕ)) → length rs ≤ length (pieces rs)
fewer [] = omega arith
fewer (r ∷ rs) = omega (arith, fewer rs, length-append (lead r) (r ++ pieces rs), length-append r (pieces rs))

none_in : (n : ℕ) → records_in n [] ≡ []
none_in zero = refl
none_in (suc n) = refl

shut_in : (n gate : ℕ) (rest : List ℕ) → gate ≢ 1 → records_in n (gate ∷ rest) ≡ []
shut_in zero gate rest shut = refl
shut_in (suc n) gate rest shut = grind (arith, nat_tests)

-- a text that ends before its gate
pub records_of_front : (rs : List (List ℕ)) → AreRecords rs → records_of (front rs) ≡ rs
records_of_front rs are =
    let n = length (front rs) in
    ap (λ (l : List ℕ). records_in n l) (sym (append-nil (pieces rs)))
    ∙ records_pieces rs n (8 + length (pieces rs) - length rs) [] are (omega (arith, fewer rs))
    ∙ ap (λ (l : List (List ℕ)). rs ++ l) (none_in (8 + length (pieces rs) - length rs)) ∙ append-nil rs

-- what is read is determined
pub records_of_file : (rs : List (List ℕ)) (file : List ℕ) → Reads rs file → records_of file ≡ rs
records_of_file rs file reads =
    let end = reads.gate ∷ reads.behind in
    let n = length (front rs ++ end) in
    let m = n - length rs in
    ap records_of reads.text
    ∙ records_pieces rs n m end reads.records (omega (arith, fewer rs, length-append (pieces rs) end))
    ∙ ap (λ (l : List (List ℕ)). rs ++ l) (shut_in m reads.gate reads.behind reads.closed) ∙ append-nil rs

-- ---- what writes make of it

module _ (p : List ℕ) (g : ℕ) (b : List ℕ) (n : ℕ) (size : length p ≡ n) where
  front_take : take n (p ++ g ∷ b) ≡ p
  front_take = take_at p (g ∷ b) n size

  up_to_gate : take (n + 1) (p ++ g ∷ b) ≡ p ++ g ∷ []
  up_to_gate = ap (λ (l : List ℕ). take (n + 1) l) (sym (append_assoc p (g ∷ []) b)) ∙ take_at (p ++ g ∷ []) b (n + 1) (omega (arith, length-append p (g ∷ []), size))

  pub behind_gate : drop (n + 1) (p ++ g ∷ b) ≡ b
  behind_gate = ap (λ (l : List ℕ). drop (n + 1) l) (sym (append_assoc p (g ∷ []) b)) ∙ drop_at (p ++ g ∷ []) b (n + 1) (omega (arith, length-append p (g ∷ []), size))

  -- a write behind the gate that is cut short leaves what stands up to the gate
  pub torn_behind : (m : ℕ) (c : List ℕ) → Torn (n + 1) m (p ++ g ∷ b) c → c ≡ p ++ g ∷ drop (n + 1) c
  torn_behind m c torn = sym (take-append-drop (n + 1) c) ∙ ap (λ (l : List ℕ). l ++ drop (n + 1) c) (torn.before ∙ up_to_gate) ∙ append_assoc p (g ∷ []) (drop (n + 1) c)

  pub written_behind : (text c : List ℕ) → Holds (p ++ g ∷ b) (n + 1) text c → c ≡ p ++ g ∷ (text ++ drop (n + 1 + length text) (p ++ g ∷ b))
  written_behind text c holds =
      let rest = drop (n + 1 + length text) (p ++ g ∷ b) in
      holds ∙ ap (λ (l : List ℕ). l ++ text ++ rest) up_to_gate ∙ append_assoc (p ++ g ∷ []) text rest ∙ append_assoc p (g ∷ []) (text ++ rest)

  -- a write of the gate that is cut short leaves some gate
  pub torn_gate : (c : List ℕ) → Torn n 1 (p ++ g ∷ b) c → c ≡ p ++ get_or c n 0 ∷ b
  torn_gate c torn =
      let long = length-append p (g ∷ b) in
      let rest : drop n c ≡ get_or c n 0 ∷ b = drop_more c n 0 (omega (arith, torn.no_shorter, long, size)) ∙ ap (λ (l : List ℕ). get_or c n 0 ∷ l) (torn.after ∙ behind_gate) in
      sym (take-append-drop n c) ∙ ap (λ (l : List ℕ). l ++ drop n c) (torn.before ∙ front_take) ∙ ap (λ (l : List ℕ). p ++ l) rest

  pub written_gate : (c : List ℕ) → Holds (p ++ g ∷ b) n (1 ∷ []) c → c ≡ p ++ 1 ∷ b
  written_gate c holds = holds ∙ append_assoc (take n (p ++ g ∷ b)) (1 ∷ []) (drop (n + 1) (p ++ g ∷ b)) ∙ ap (λ (l : List ℕ). l ++ 1 ∷ drop (n + 1) (p ++ g ∷ b)) front_take ∙ ap (λ (l : List ℕ). p ++ 1 ∷ l) behind_gate

-- ---- one record more

pub pieces-push : (rs : List (List ℕ)) (r rest : List ℕ) → pieces (rs ++ r ∷ []) ++ rest ≡ pieces rs ++ 1 ∷ (lead r ++ (r ++ rest))
pieces-push [] r rest =
    ap (λ (l : List ℕ). 1 ∷ l) (append_assoc (lead r) (r ++ []) rest ∙ ap (λ (l : List ℕ). lead r ++ (l ++ rest)) (append-nil r))
pieces-push (q ∷ rs) r rest =
    let more = 1 ∷ (lead r ++ (r ++ rest)) in
    ap (λ (l : List ℕ). 1 ∷ l) (append_assoc (lead q) (q ++ pieces (rs ++ r ∷ [])) rest
    ∙ ap (λ (l : List ℕ). lead q ++ l) (append_assoc q (pieces (rs ++ r ∷ [])) rest ∙ ap (λ (l : List ℕ). q ++ l) (pieces-push rs r rest) ∙ sym (append_assoc q (pieces rs) more))
    ∙ sym (append_assoc (lead q) (q ++ pieces rs) more))

pub are-push : (rs : List (List ℕ)) (r : List ℕ) → AreRecords rs → IsRecord r → AreRecords (rs ++ r ∷ [])
are-push [] r are is = (is, tt)
are-push (q ∷ rs) r are is = (are.0, are-push rs r are.1 is)

-- with its gate open, the record counts
pub opened_text : (rs : List (List ℕ)) (r rest : List ℕ) → front rs ++ 1 ∷ (behind_text r ++ rest) ≡ front (rs ++ r ∷ []) ++ 0 ∷ rest
opened_text rs r rest =
    let inner : behind_text r ++ rest ≡ lead r ++ (r ++ (0 ∷ rest)) = append_assoc (lead r) (r ++ 0 ∷ []) rest ∙ ap (λ (l : List ℕ). lead r ++ l) (append_assoc r (0 ∷ []) rest) in
    ap (λ (l : List ℕ). front rs ++ 1 ∷ l) inner ∙ ap (λ (l : List ℕ). head ++ l) (sym (pieces-push rs r (0 ∷ rest)))

pub reads_more : (rs : List (List ℕ)) (r rest : List ℕ) → AreRecords (rs ++ r ∷ []) → Reads (rs ++ r ∷ []) (front rs ++ 1 ∷ (behind_text r ++ rest))
reads_more rs r rest are = record { records = are; gate = 0; behind = rest; closed = omega arith; text = opened_text rs r rest }
