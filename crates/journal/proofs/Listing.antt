-- What a file has as a journal.
use Rattle.std.proofs.Common.{◌≡◌, ◌≢◌, ◌⊎◌, inl, inr, ℕ, zero, suc, ◌+◌, ◌-◌, ◌≤◌, Bool, true, false, cond, leb, List, [], ◌∷◌, ◌++◌, length, take, drop, Option, Some, None, refl, ◌∙◌, ap, arith, append_assoc, length-append}
use Rattle.std.specs.Prelude.{◌&&◌}
use Rattle.std.specs.Option.{option_map}
use Rattle.std.specs.Str.{bytes_eq}
use Rattle.std.proofs.lemmas.Bool.{leb-true, le-leb}
use Rattle.std.proofs.lemmas.Bool.Decides.{nat_tests}
use Rattle.std.proofs.lemmas.List.{append-nil, take_at, drop_at}
use Rattle.std.proofs.lemmas.Nat.{from_be_bytes-to_be_bytes_4}
use Rattle.std.proofs.lemmas.Slice.Eq.{bytes_eq-Decides}
use Rattle.journal.specs.Records.{head, record_limit, IsRecord, AreRecords, lead, lead_of, pieces, front, Reads, has_record, listed, journal_in, LacksRecord}
use Rattle.journal.proofs.Text.{fewer}

all_of : (a b c d : Bool) → a ≡ true → b ≡ true → c ≡ true → d ≡ true → (a && (b && (c && d))) ≡ true
all_of true true true d p q r s = s
all_of true true false d p q r s = absurd cc
all_of true false c d p q r s = absurd cc
all_of false b c d p q r s = absurd cc

record_there : (r more : List ℕ) → IsRecord r → has_record (lead r ++ (r ++ more)) ≡ true
record_there r more is =
    let size : lead_of (lead r ++ (r ++ more)) ≡ length r = from_be_bytes-to_be_bytes_4 (length r) (omega (arith, is.1)) in
    let long : length (lead r ++ (r ++ more)) ≡ 4 + (length r + length more) = omega (arith, length-append (lead r) (r ++ more), length-append r more) in
    let behind_lead = lead r ++ (r ++ more) in
    all_of (leb 4 (length behind_lead)) (leb 1 (lead_of behind_lead)) (leb (lead_of behind_lead) record_limit) (leb (4 + lead_of behind_lead) (length behind_lead))
    (le-leb _ _ (omega (arith, long))) (le-leb _ _ (omega (arith, size, is.0))) (le-leb _ _ (omega (arith, size, is.1))) (le-leb _ _ (omega (arith, size, long)))

one : (r : List ℕ) (n : ℕ) (more : List ℕ) → IsRecord r → listed (suc n) (1 ∷ (lead r ++ (r ++ more))) ≡ option_map (λ rs. r ∷ rs) (listed n more)
one r n more is =
    let size = from_be_bytes-to_be_bytes_4 (length r) (omega (arith, is.1)) in
    ap (λ (b : Bool). cond b (option_map (λ rs. take (lead_of (lead r ++ (r ++ more))) (r ++ more) ∷ rs) (listed n (drop (lead_of (lead r ++ (r ++ more))) (r ++ more)))) None) (record_there r more is)
    ∙ (λ i. option_map (λ rs. take (size i) (r ++ more) ∷ rs) (listed n (drop (size i) (r ++ more))))
    ∙ (λ i. option_map (λ rs. take_at r more (length r) refl i ∷ rs) (listed n (drop_at r more (length r) refl i)))

-- these records, and then what stands behind them
behind : List (List ℕ) → Option (List (List ℕ)) → Option (List (List ℕ))
behind rs more = option_map (λ others. rs ++ others) more

none_behind : (more : Option (List (List ℕ))) → more ≡ behind [] more
unfolding behind
none_behind None = refl
none_behind (Some others) = refl

one_behind : (r : List ℕ) (rs : List (List ℕ)) (more : Option (List (List ℕ))) → option_map (λ others. r ∷ others) (behind rs more) ≡ behind (r ∷ rs) more
unfolding behind
one_behind r rs None = refl
one_behind r rs (Some others) = refl

listed_pieces : (rs : List (List ℕ)) (n m : ℕ) (rest : List ℕ) → AreRecords rs → n ≡ length rs + m → listed n (pieces rs ++ rest) ≡ behind rs (listed m rest)
listed_pieces [] n m rest are is = let same : n ≡ m = omega (arith, is) in ap (λ (k : ℕ). listed k rest) same ∙ none_behind (listed m rest)
listed_pieces (r ∷ rs) zero m rest are is = absurd (omega arith)
listed_pieces (r ∷ rs) (suc n) m rest are is =
    ap (λ (l : List ℕ). listed (suc n) (1 ∷ l)) (append_assoc (lead r) (r ++ pieces rs) rest ∙ ap (λ (l : List ℕ). lead r ++ l) (append_assoc r (pieces rs) rest))
    ∙ one r n (pieces rs ++ rest) are.0
    ∙ ap (λ (l : Option (List (List ℕ))). option_map (λ others. r ∷ others) l) (listed_pieces rs n m rest are.1 (omega arith))
    ∙ one_behind r rs (listed m rest)

in_front : (rs : List (List ℕ)) (rest : List ℕ) → AreRecords rs → journal_in (front rs ++ rest) ≡ behind rs (listed (8 + length (pieces rs) + length rest - length rs) rest)
in_front rs rest are =
    listed_pieces rs (length (front rs ++ rest)) (8 + length (pieces rs) + length rest - length rs) rest are (omega (arith, fewer rs, length-append (pieces rs) rest))

shut_listed : (m gate : ℕ) (rest : List ℕ) → 1 ≤ m → gate ≢ 1 → listed m (gate ∷ rest) ≡ Some []
shut_listed zero gate rest some shut = absurd (omega arith)
shut_listed (suc m) gate rest some shut = grind (arith, nat_tests)

pub one_list : (rs : List (List ℕ)) (file : List ℕ) → Reads rs file → journal_in file ≡ Some rs
unfolding behind
one_list rs file reads =
    let end = reads.gate ∷ reads.behind in
    ap journal_in reads.text ∙ in_front rs end reads.records
    ∙ ap (behind rs) (shut_listed (8 + length (pieces rs) + length end - length rs) reads.gate reads.behind (omega (arith, fewer rs)) reads.closed)
    ∙ ap (λ (l : List (List ℕ)). Some l) (append-nil rs)

-- ---- where there is none

lacking : (rest : List ℕ) → LacksRecord rest → has_record rest ≡ false
lacking rest lacks = cases (has_record rest) refl
  where
    fits : has_record rest ≡ true → (4 ≤ length rest) × (1 ≤ lead_of rest) × (lead_of rest ≤ 134217728) × (4 + lead_of rest ≤ length rest)
    fits h = parts (leb 4 (length rest)) (leb 1 (lead_of rest)) (leb (lead_of rest) record_limit) (leb (4 + lead_of rest) (length rest)) refl refl refl refl h
      where
        parts : (a b c d : Bool) → leb 4 (length rest) ≡ a → leb 1 (lead_of rest) ≡ b → leb (lead_of rest) record_limit ≡ c → leb (4 + lead_of rest) (length rest) ≡ d
            → (a && (b && (c && d))) ≡ true → (4 ≤ length rest) × (1 ≤ lead_of rest) × (lead_of rest ≤ 134217728) × (4 + lead_of rest ≤ length rest)
        parts true true true true p q r s h = (leb-true _ _ p, leb-true _ _ q, leb-true _ _ r, leb-true _ _ s)
        parts true true true false p q r s h = absurd cc
        parts true true false d p q r s h = absurd cc
        parts true false c d p q r s h = absurd cc
        parts false b c d p q r s h = absurd cc

    clash : LacksRecord rest → (4 ≤ length rest) × (1 ≤ lead_of rest) × (lead_of rest ≤ 134217728) × (4 + lead_of rest ≤ length rest) → ⊥
    clash (inl cut) f = absurd (omega (arith, cut, f.0))
    clash (inr (inl none)) f = absurd (omega (arith, none, f.1))
    clash (inr (inr (inl above))) f = absurd (omega (arith, above, f.2))
    clash (inr (inr (inr past))) f = absurd (omega (arith, past, f.3))

    cases : (b : Bool) → has_record rest ≡ b → has_record rest ≡ false
    cases false h = h
    cases true h = absurd (clash lacks (fits h))

none_listed : (m : ℕ) (rest : List ℕ) → (rest ≡ []) ⊎ ((more : List ℕ) × (rest ≡ 1 ∷ more) × LacksRecord more) → listed m rest ≡ None
none_listed zero rest why = refl
none_listed (suc m) rest (inl none) = ap (λ (l : List ℕ). listed (suc m) l) none
none_listed (suc m) rest (inr (more, is, lacks)) =
    ap (λ (l : List ℕ). listed (suc m) l) is
    ∙ ap (λ (b : Bool). cond b (option_map (λ rs. take (lead_of more) (drop 4 more) ∷ rs) (listed m (drop (lead_of more) (drop 4 more)))) None) (lacking more lacks)

-- behind some records no gate stands, or no record behind an open one
pub none_behind_front : (rs : List (List ℕ)) (rest file : List ℕ) → AreRecords rs → file ≡ front rs ++ rest
    → (rest ≡ []) ⊎ ((more : List ℕ) × (rest ≡ 1 ∷ more) × LacksRecord more) → journal_in file ≡ None
unfolding behind
none_behind_front rs rest file are is why =
    ap journal_in is ∙ in_front rs rest are ∙ ap (behind rs) (none_listed (8 + length (pieces rs) + length rest - length rs) rest why)

pub no_beginning : (file : List ℕ) → take 8 file ≢ head → journal_in file ≡ None
no_beginning file other = cases (bytes_eq (take 8 file) head) refl
  where
    cases : (b : Bool) → bytes_eq (take 8 file) head ≡ b → journal_in file ≡ None
    cases true h = absurd (other ((bytes_eq-Decides (take 8 file) head).0 h))
    cases false h = ap (λ (b : Bool). cond b (listed (length file) (drop 8 file)) None) h
