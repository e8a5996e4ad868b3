-- What a journal keeps while its records are read.
use Rattle.std.proofs.Common.{◌≡◌, inl, inr, None, ℕ, ◌+◌, ◌≤◌, List, [], ◌∷◌, ◌++◌, length, take, drop, refl, sym, ◌∙◌, ap, subst, arith, take-append-drop}
use Rattle.std.proofs.lemmas.List.{append-nil, take_at, drop_at, drop_all}
use Rattle.pg_io.specs.Disk.{Only, Still}
use Rattle.journal.specs.Records.{IsRecord, AreRecords, head, front, Reads, records_of, IsPieceAt, IsShutAt, IsBadAt, journal_in}
use Rattle.journal.specs.Story.{story_of, pending_of, IsKept}
use Rattle.journal.specs.declared.stage.Phase.{Phase}
use Rattle.journal.specs.declared.stage.Phase.TheVariants.{Reading, Standing}
use Rattle.journal.proofs.Text.{records_of_front, pieces-push, are-push}
use Rattle.journal.proofs.Appending.{front-size}
use Rattle.journal.proofs.Listing.{none_behind_front}

module _ {D : Type 0} (moment : D → ℕ) (seen : D → List ℕ) (may_leave : D → List ℕ → Type 0) (left_since : D → ℕ → List ℕ → Type 0) where
  made : (d start : D) (first m : ℕ) (phase : Phase) (base xs ps : List (List ℕ)) → records_of (take first (seen start)) ≡ base
      → drop (length (records_of (take first (seen start)))) (records_of (take m (seen d))) ≡ xs → pending_of (seen d) m phase ≡ ps
      → IsKept moment seen may_leave left_since (record { disk = d; start = start; base = base; added = xs; pending = ps; gate = m; phase = phase })
      → IsKept moment seen may_leave left_since (story_of seen d start first m phase)
  made d start first m phase base xs ps base_eq added_eq pending_eq it =
      let same : record { disk = d; start = start; base = base; added = xs; pending = ps; gate = m; phase = phase } ≡ story_of seen d start first m phase =
      λ i. record { disk = d; start = start; base = (sym base_eq) i; added = (sym added_eq) i; pending = (sym pending_eq) i; gate = m; phase = phase } in
      subst (IsKept moment seen may_leave left_since) same it

  -- a journal whose first records are these, on a disk that reads as it did at the start
  read_so_far : (d start : D) (m : ℕ) (base : List (List ℕ)) (behind : List ℕ) → AreRecords base → m ≡ length (front base) → seen d ≡ front base ++ behind → seen d ≡ seen start
      → moment start ≤ moment d → Only (seen d) (left_since d (moment start)) → IsKept moment seen may_leave left_since (story_of seen d start m m Reading)
  read_so_far d start m base behind are place text same later images =
      let base_d : records_of (take m (seen d)) ≡ base = ap (λ (l : List ℕ). records_of (take m l)) text ∙ ap records_of (take_at (front base) behind m (sym place)) ∙ records_of_front base are in
      let base_eq : records_of (take m (seen start)) ≡ base = ap (λ (l : List ℕ). records_of (take m l)) (sym same) ∙ base_d in
      let added_eq : drop (length (records_of (take m (seen start)))) (records_of (take m (seen d))) ≡ [] = (λ i. drop (length (base_eq i)) (base_d i)) ∙ drop_all (length base) base (omega arith) in
      made d start m m Reading base [] [] base_eq added_eq refl (record {
        place = place ∙ ap (λ (l : List (List ℕ)). length (front l)) (sym (append-nil base));
        records = subst AreRecords (sym (append-nil base)) are;
        later = later;
        by_phase = record { none = refl; same = same; images = images; behind = behind; text = text };
      })

  -- after a sync
  pub attached : (only_now : (disk : D) (c : List ℕ) → left_since disk (moment disk) c → may_leave disk c) (start d : D) → Only (seen start) (may_leave start)
      → Still moment seen may_leave left_since start d → take 8 (seen start) ≡ head → IsKept moment seen may_leave left_since (story_of seen d start 8 8 Reading)
  attached only_now start d only still begins =
      let text : seen d ≡ head ++ drop 8 (seen start) = still.same ∙ sym (take-append-drop 8 (seen start)) ∙ ap (λ (l : List ℕ). l ++ drop 8 (seen start)) begins in
      read_so_far d start 8 [] (drop 8 (seen start)) tt refl text still.same (omega (arith, still.clock))
      (λ c left. only c (only_now start c (still.since (moment start) c left)) ∙ sym still.same)

  module _ (start d : D) (first n : ℕ) (kept : IsKept moment seen may_leave left_since (story_of seen d start first n Reading)) (e : D) (still : Still moment seen may_leave left_since d e) where
    abbrev base : List (List ℕ)
    base = records_of (take first (seen start))

    are : AreRecords base
    are = subst AreRecords (ap (λ (l : List (List ℕ)). base ++ l) kept.by_phase.none ∙ append-nil base) kept.records

    place : n ≡ length (front base)
    place = kept.place ∙ ap (λ (l : List (List ℕ)). length (front (base ++ l))) kept.by_phase.none ∙ ap (λ (l : List (List ℕ)). length (front l)) (append-nil base)

    text : seen e ≡ front base ++ kept.by_phase.behind
    text = still.same ∙ kept.by_phase.text

    same : seen e ≡ seen start
    same = still.same ∙ kept.by_phase.same

    later : moment start ≤ moment e
    later = omega (arith, kept.later, still.clock)

    images : Only (seen e) (left_since e (moment start))
    images c left = kept.by_phase.images c (still.since (moment start) c left) ∙ sym still.same

    behind_is : drop n (seen d) ≡ kept.by_phase.behind
    behind_is = ap (λ (l : List ℕ). drop n l) kept.by_phase.text ∙ drop_at (front base) kept.by_phase.behind n (sym place)

    pub base_now : records_of (take n (seen start)) ≡ base
    base_now = ap (λ (l : List ℕ). records_of (take n l)) (sym same ∙ text) ∙ ap records_of (take_at (front base) kept.by_phase.behind n (sym place)) ∙ records_of_front base are

    -- nothing was read
    pub still_reading : IsKept moment seen may_leave left_since (story_of seen e start n n Reading)
    still_reading = read_so_far e start n base kept.by_phase.behind are place text same later images

    -- no gate or no record is there
    pub none_there : IsBadAt (seen d) n → journal_in (seen d) ≡ None
    none_there (inl none) = none_behind_front base kept.by_phase.behind (seen d) are kept.by_phase.text (inl (sym behind_is ∙ none))
    none_there (inr (more, is, lacks)) = none_behind_front base kept.by_phase.behind (seen d) are kept.by_phase.text (inr (more, sym behind_is ∙ is, lacks))

    -- a record was read
    module _ (r : List ℕ) (is : IsRecord r) (piece : IsPieceAt (seen d) n r) where
      abbrev m : ℕ
      m = n + (5 + length r)

      text_r : seen e ≡ front (base ++ r ∷ []) ++ piece.0
      text_r = text ∙ ap (λ (l : List ℕ). front base ++ l) (sym behind_is ∙ piece.1) ∙ ap (λ (l : List ℕ). head ++ l) (sym (pieces-push base r piece.0))

      place_r : m ≡ length (front (base ++ r ∷ []))
      place_r = omega (arith, front-size base r, place)

      pub base_more : records_of (take m (seen start)) ≡ base ++ r ∷ []
      base_more = ap (λ (l : List ℕ). records_of (take m l)) (sym same ∙ text_r) ∙ ap records_of (take_at (front (base ++ r ∷ [])) piece.0 m (sym place_r)) ∙ records_of_front (base ++ r ∷ []) (are-push base r are is)

      pub one_more : IsKept moment seen may_leave left_since (story_of seen e start m m Reading)
      one_more = read_so_far e start m (base ++ r ∷ []) piece.0 (are-push base r are is) place_r text_r same later images

    -- a closed gate was read
    module _ (counts_now : (disk : D) (t : ℕ) (c : List ℕ) → t ≤ moment disk → may_leave disk c → left_since disk t c) (shut : IsShutAt (seen d) n) where
      pub reads : Reads base (seen e)
      reads = record { records = are; gate = shut.0; behind = shut.1; closed = shut.2; text = text ∙ ap (λ (l : List ℕ). front base ++ l) (sym behind_is ∙ shut.3) }

      reads_nil : Reads (base ++ []) (seen e)
      reads_nil = subst (λ (l : List (List ℕ)). Reads l (seen e)) (sym (append-nil base)) reads

      pub base_same : records_of (take n (seen start)) ≡ base
      base_same = base_now

      base_e : records_of (take n (seen e)) ≡ base
      base_e = ap (λ (l : List ℕ). records_of (take n l)) same ∙ base_now

      pub none_added : drop (length (records_of (take n (seen start)))) (records_of (take n (seen e))) ≡ []
      none_added = (λ i. drop (length (base_now i)) (base_e i)) ∙ drop_all (length base) base (omega arith)

      pub all_read : IsKept moment seen may_leave left_since (story_of seen e start n n Standing)
      all_read =
          made e start n n Standing base [] [] base_now none_added refl (record {
            place = place ∙ ap (λ (l : List (List ℕ)). length (front l)) (sym (append-nil base));
            records = subst AreRecords (sym (append-nil base)) are;
            later = later;
            by_phase = record {
              promises = record {
                begins = subst (Reads base) same reads;
                now = λ c left. inl (subst (Reads (base ++ [])) (sym (images c (counts_now e (moment start) c later left))) reads_nil);
                since = λ c left. (0, omega arith, subst (Reads (base ++ [])) (sym (images c left)) reads_nil);
              };
              reads = reads_nil;
              durable = λ c left. images c (counts_now e (moment start) c later left);
            };
          })
