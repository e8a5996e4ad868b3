-- What an append makes of a journal that stands.
use Rattle.std.proofs.Common.{◌≡◌, inl, inr, ⊎_elim, ℕ, zero, suc, ◌+◌, ◌≤◌, List, [], ◌∷◌, ◌++◌, length, get_or, take, drop, refl, sym, ◌∙◌, ap, subst, arith, append_assoc, length-append}
use Rattle.std.proofs.lemmas.Bool.{cases_eq}
use Rattle.std.proofs.lemmas.List.{append-nil, take_at, drop_at, take_all}
use Rattle.pg_io.specs.Disk.{Holds, Torn, Only, Within, LeavesOnly}
use Rattle.journal.specs.Records.{IsRecord, AreRecords, lead, pieces, front, Reads, records_of, behind_text, BeginsAsJournal}
use Rattle.journal.specs.Story.{story_of, pending_of, IsAllBut, IsFrontOf, IsKept}
use Rattle.journal.specs.declared.stage.Phase.{Phase}
use Rattle.journal.specs.declared.stage.Phase.TheVariants.{Standing, Fallen, Undecided}
use Rattle.journal.proofs.Moments.{started, weaker, joined}
use Rattle.journal.proofs.Text.{records_of_front, records_of_file, behind_gate, torn_behind, written_behind, torn_gate, written_gate, pieces-push, are-push, opened_text, reads_more}

-- ---- fronts of the list

take_within : (n : ℕ) (xs ys : List (List ℕ)) → n ≤ length xs → take n (xs ++ ys) ≡ take n xs
take_within zero xs ys le = refl
take_within (suc n) [] ys le = absurd (omega arith)
take_within (suc n) (x ∷ xs) ys le = ap (λ (l : List (List ℕ)). x ∷ l) (take_within n xs ys (omega arith))

front_more : (base added more : List (List ℕ)) (c : List ℕ) → IsFrontOf base (added ++ []) c → IsFrontOf base (added ++ more) c
front_more base added more c (n, le, reads) =
    let short : n ≤ length added = omega (arith, length-append added []) in
    let same : take n (added ++ []) ≡ take n (added ++ more) = take_within n added [] short ∙ sym (take_within n added more short) in
    (n, omega (arith, length-append added more), subst (λ (l : List (List ℕ)). Reads (base ++ l) c) same reads)

front_all : (base added more : List (List ℕ)) (c : List ℕ) → Reads (base ++ added) c → IsFrontOf base (added ++ more) c
front_all base added more c reads =
    (length added, omega (arith, length-append added more), subst (λ (l : List (List ℕ)). Reads (base ++ l) c) (sym (take_at added more (length added) refl)) reads)

front_last : (base added : List (List ℕ)) (r c : List ℕ) → Reads ((base ++ added) ++ r ∷ []) c → IsFrontOf base (added ++ r ∷ []) c
front_last base added r c reads =
    let n = length (added ++ r ∷ []) in
    let same : (base ++ added) ++ r ∷ [] ≡ base ++ take n (added ++ r ∷ []) = append_assoc base added (r ∷ []) ∙ ap (λ (l : List (List ℕ)). base ++ l) (sym (take_all n (added ++ r ∷ []) (omega arith))) in
    (n, omega arith, subst (λ (l : List (List ℕ)). Reads l c) same reads)

pub front-size : (rs : List (List ℕ)) (r : List ℕ) → length (front (rs ++ r ∷ [])) ≡ length (front rs) + (5 + length r)
front-size rs r =
    omega (arith, ap length (pieces-push rs r []), length-append (pieces (rs ++ r ∷ [])) [], length-append (pieces rs) (1 ∷ (lead r ++ (r ++ []))), length-append (lead r) (r ++ []), length-append r [])

module _ {D : Type 0} (moment : D → ℕ) (seen : D → List ℕ) (may_leave : D → List ℕ → Type 0) (left_since : D → ℕ → List ℕ → Type 0)
    (reads_now : (disk : D) → may_leave disk (seen disk))
    (counts_now : (disk : D) (t : ℕ) (c : List ℕ) → t ≤ moment disk → may_leave disk c → left_since disk t c)
    (only_now : (disk : D) (c : List ℕ) → left_since disk (moment disk) c → may_leave disk c) (start d0 : D) (first n : ℕ)
    (kept : IsKept moment seen may_leave left_since (story_of seen d0 start first n Standing)) where
  abbrev base : List (List ℕ)
  base = records_of (take first (seen start))

  abbrev added : List (List ℕ)
  added = drop (length base) (records_of (take n (seen d0)))

  abbrev rs : List (List ℕ)
  rs = base ++ added

  abbrev g : ℕ
  g = kept.by_phase.reads.gate

  abbrev b : List ℕ
  b = kept.by_phase.reads.behind

  size : length (front rs) ≡ n
  size = sym kept.place

  text : seen d0 ≡ front rs ++ g ∷ b
  text = kept.by_phase.reads.text

  abbrev Kept : D → ℕ → Phase → Type 0
  Kept d m phase = IsKept moment seen may_leave left_since (story_of seen d start first m phase)

  added_is : (d : D) (xs : List (List ℕ)) (rest : List ℕ) (m : ℕ) → AreRecords (base ++ xs) → m ≡ length (front (base ++ xs)) → seen d ≡ front (base ++ xs) ++ rest
      → drop (length base) (records_of (take m (seen d))) ≡ xs
  added_is d xs rest m are place is =
      let front_is : take m (seen d) ≡ front (base ++ xs) = ap (λ (l : List ℕ). take m l) is ∙ take_at (front (base ++ xs)) rest m (sym place) in
      ap (λ (l : List ℕ). drop (length base) (records_of l)) front_is ∙ ap (λ (l : List (List ℕ)). drop (length base) l) (records_of_front (base ++ xs) are) ∙ drop_at base xs (length base) refl

  rebuilt : (d : D) (m : ℕ) (phase : Phase) (xs ps : List (List ℕ)) → drop (length base) (records_of (take m (seen d))) ≡ xs → pending_of (seen d) m phase ≡ ps
      → IsKept moment seen may_leave left_since (record { disk = d; start = start; base = base; added = xs; pending = ps; gate = m; phase = phase }) → Kept d m phase
  rebuilt d m phase xs ps added_eq pending_eq it =
      subst (λ (l : List (List ℕ)). IsKept moment seen may_leave left_since (record { disk = d; start = start; base = base; added = l; pending = pending_of (seen d) m phase; gate = m; phase = phase })) (sym added_eq)
      (subst (λ (l : List (List ℕ)). IsKept moment seen may_leave left_since (record { disk = d; start = start; base = base; added = xs; pending = l; gate = m; phase = phase })) (sym pending_eq) it)

  pub still_moments : (r : List ℕ) → LeavesOnly moment left_since d0 d0 (IsAllBut rs (r ∷ []))
  still_moments r =
      started moment seen may_leave left_since counts_now only_now d0 (IsAllBut rs (r ∷ [])) (λ c now. inl (subst (Reads rs) (sym (kept.by_phase.durable c now)) kept.by_phase.reads))

  -- ---- the write behind the gate

  torn_1 : (m : ℕ) (c : List ℕ) → Torn (n + 1) m (seen d0) c → Reads rs c
  torn_1 m c torn =
      record { records = kept.records; gate = g; behind = drop (n + 1) c; closed = kept.by_phase.reads.closed; text = torn_behind (front rs) g b n size m c (subst (λ f. Torn (n + 1) m f c) text torn) }

  module _ (d1 : D) (m : ℕ) (moments_1 : LeavesOnly moment left_since d0 d1 (Torn (n + 1) m (seen d0))) (now_1 : Within (may_leave d1) (Torn (n + 1) m (seen d0))) where
    later_1 : moment start ≤ moment d1
    later_1 = omega (arith, kept.later, moments_1.later)

    since_1 : Within (left_since d1 (moment start)) (IsFrontOf base (added ++ []))
    since_1 c left = ⊎_elim (kept.by_phase.promises.since c) (λ torn. front_all base added [] c (torn_1 m c torn)) (moments_1.before (moment start) c kept.later left)

    pub fallen_added : drop (length base) (records_of (take n (seen d1))) ≡ added
    fallen_added = let reads = torn_1 m (seen d1) (now_1 (seen d1) (reads_now d1)) in added_is d1 added (reads.gate ∷ reads.behind) n kept.records kept.place reads.text

    pub fallen : Kept d1 n Fallen
    fallen = rebuilt d1 n Fallen added [] fallen_added refl (record {
      place = kept.place;
      records = kept.records;
      later = later_1;
      by_phase = record { begins = kept.by_phase.promises.begins; now = λ c left. inl (torn_1 m c (now_1 c left)); since = since_1 };
    })

    pub fallen_moments : (r : List ℕ) → LeavesOnly moment left_since d0 d1 (IsAllBut rs (r ∷ []))
    fallen_moments r =
        weaker moment seen may_leave left_since counts_now only_now d0 d1 (Torn (n + 1) m (seen d0)) (IsAllBut rs (r ∷ [])) moments_1 (λ c torn. inl (torn_1 m c torn))

    -- ---- the write of the gate

    module _ (r : List ℕ) (is : IsRecord r) (written_1 : Holds (seen d0) (n + 1) (behind_text r) (seen d1)) where
      abbrev rest : List ℕ
      rest = drop (n + 1 + length (behind_text r)) (front rs ++ g ∷ b)

      staged : seen d1 ≡ front rs ++ g ∷ (behind_text r ++ rest)
      staged = written_behind (front rs) g b n size (behind_text r) (seen d1) (subst (λ f. Holds f (n + 1) (behind_text r) (seen d1)) text written_1)

      more : AreRecords (rs ++ r ∷ [])
      more = are-push rs r kept.records is

      some_gate : (c : List ℕ) → Torn n 1 (seen d1) c → c ≡ front rs ++ get_or c n 0 ∷ (behind_text r ++ rest)
      some_gate c torn = torn_gate (front rs) g (behind_text r ++ rest) n size c (subst (λ f. Torn n 1 f c) staged torn)

      torn_2 : (c : List ℕ) → Torn n 1 (seen d1) c → IsAllBut rs (r ∷ []) c
      torn_2 c torn = elim (cases_eq (get_or c n 0) 1) [
        | inl is_open ↦ inr (subst (Reads (rs ++ r ∷ [])) (sym (some_gate c torn ∙ ap (λ (k : ℕ). front rs ++ k ∷ (behind_text r ++ rest)) is_open)) (reads_more rs r rest more))
        | inr shut ↦ inl (record { records = kept.records; gate = get_or c n 0; behind = behind_text r ++ rest; closed = shut; text = some_gate c torn })
      ]

      module _ (d2 : D) (moments_2 : LeavesOnly moment left_since d1 d2 (Torn n 1 (seen d1))) (now_2 : Within (may_leave d2) (Torn n 1 (seen d1))) where
        pub both_moments : LeavesOnly moment left_since d0 d2 (IsAllBut rs (r ∷ []))
        both_moments =
            joined moment seen may_leave left_since counts_now only_now d0 d1 d2 (Torn (n + 1) m (seen d0)) (Torn n 1 (seen d1)) (IsAllBut rs (r ∷ [])) moments_1 moments_2
            (λ c torn. inl (torn_1 m c torn)) torn_2

        later_2 : moment start ≤ moment d2
        later_2 = omega (arith, later_1, moments_2.later)

        seen_2 : seen d2 ≡ front rs ++ get_or (seen d2) n 0 ∷ (behind_text r ++ rest)
        seen_2 = some_gate (seen d2) (now_2 (seen d2) (reads_now d2))

        since_2 : Within (left_since d2 (moment start)) (IsFrontOf base (added ++ r ∷ []))
        since_2 c left =
            ⊎_elim (λ earlier. front_more base added (r ∷ []) c (since_1 c earlier)) (λ torn. ⊎_elim (front_all base added (r ∷ []) c) (front_last base added r c) (torn_2 c torn)) (moments_2.before (moment start) c later_1 left)

        pub undecided_added : drop (length base) (records_of (take n (seen d2))) ≡ added
        undecided_added = added_is d2 added (get_or (seen d2) n 0 ∷ (behind_text r ++ rest)) n kept.records kept.place seen_2

        pub undecided_pending : pending_of (seen d2) n Undecided ≡ r ∷ []
        undecided_pending =
            let f : take n (seen d2) ≡ front rs = ap (λ (l : List ℕ). take n l) seen_2 ∙ take_at (front rs) (get_or (seen d2) n 0 ∷ (behind_text r ++ rest)) n size in
            let e : drop (n + 1) (seen d2) ≡ behind_text r ++ rest = ap (λ (l : List ℕ). drop (n + 1) l) seen_2 ∙ behind_gate (front rs) (get_or (seen d2) n 0) (behind_text r ++ rest) n size in
            (λ i. drop (length (records_of (f i))) (records_of (f i ++ 1 ∷ e i)))
            ∙ (λ i. drop (length (records_of_front rs kept.records i)) (records_of_file (rs ++ r ∷ []) (front rs ++ 1 ∷ (behind_text r ++ rest)) (reads_more rs r rest more) i))
            ∙ drop_at rs (r ∷ []) (length rs) refl

        pub undecided : Kept d2 n Undecided
        undecided = rebuilt d2 n Undecided added (r ∷ []) undecided_added undecided_pending (record {
          place = kept.place;
          records = kept.records;
          later = later_2;
          by_phase = record { begins = kept.by_phase.promises.begins; now = λ c left. torn_2 c (now_2 c left); since = since_2 };
        })

        -- ---- and it is on the disk

        module _ (written_2 : Holds (seen d1) n (1 ∷ []) (seen d2)) (durable_2 : Only (seen d2) (may_leave d2)) where
          abbrev m2 : ℕ
          m2 = n + (5 + length r)

          same : rs ++ r ∷ [] ≡ base ++ (added ++ r ∷ [])
          same = append_assoc base added (r ∷ [])

          opened : seen d2 ≡ front rs ++ 1 ∷ (behind_text r ++ rest)
          opened = written_gate (front rs) g (behind_text r ++ rest) n size (seen d2) (subst (λ f. Holds f n (1 ∷ []) (seen d2)) staged written_2)

          reads_2 : Reads (base ++ (added ++ r ∷ [])) (seen d2)
          reads_2 = subst (λ (l : List (List ℕ)). Reads l (seen d2)) same (subst (Reads (rs ++ r ∷ [])) (sym opened) (reads_more rs r rest more))

          -- it has the journal's text
          pub grown_text : BeginsAsJournal (base ++ (added ++ r ∷ [])) (seen d2)
          grown_text = (rest, opened ∙ opened_text rs r rest ∙ ap (λ (l : List (List ℕ)). front l ++ 0 ∷ rest) same)

          -- each image has all records
          pub grown_now : Within (may_leave d2) (Reads (base ++ (added ++ r ∷ [])))
          grown_now c left = subst (Reads (base ++ (added ++ r ∷ []))) (sym (durable_2 c left)) reads_2

          records_2 : AreRecords (base ++ (added ++ r ∷ []))
          records_2 = subst AreRecords same more

          place_2 : m2 ≡ length (front (base ++ (added ++ r ∷ [])))
          place_2 = omega (arith, front-size rs r, size) ∙ ap (λ (l : List (List ℕ)). length (front l)) same

          pub grown_added : drop (length base) (records_of (take m2 (seen d2))) ≡ added ++ r ∷ []
          grown_added = added_is d2 (added ++ r ∷ []) (reads_2.gate ∷ reads_2.behind) m2 records_2 place_2 reads_2.text

          pub grown : Kept d2 m2 Standing
          grown = rebuilt d2 m2 Standing (added ++ r ∷ []) [] grown_added refl (record {
            place = place_2;
            records = records_2;
            later = later_2;
            by_phase = record {
              promises = record {
                begins = kept.by_phase.promises.begins;
                now = λ c left. inl (subst (Reads (base ++ (added ++ r ∷ []))) (sym (durable_2 c left)) reads_2);
                since = λ c left. subst (λ (l : List (List ℕ)). IsFrontOf base l c) (sym (append-nil (added ++ r ∷ []))) (since_2 c left);
              };
              reads = reads_2;
              durable = durable_2;
            };
          })
