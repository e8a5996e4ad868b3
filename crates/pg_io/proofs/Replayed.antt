-- One more call of a disk in memory.
use Rattle.std.proofs.Common.{◌≡◌, ◌⊎◌, inl, inr, ⊎_elim, ℕ, zero, suc, ◌+◌, ◌-◌, ◌≤◌, List, [], ◌∷◌, ◌++◌, length, take, drop, refl, sym, ◌∙◌, ap, subst, arith, append_assoc, length-append, length-take, length-drop, Result, Ok, Err, OnOk, OnErr}
use Rattle.std.proofs.lemmas.Bool.{cases_lt}
use Rattle.std.proofs.lemmas.List.{take_at, take_all, drop_at, drop-drop}
use Rattle.pg_io.specs.Disk.{Holds, Torn, Shortened, Follows, Only, Within, Ticks, Still}
use Rattle.pg_io.specs.Replay.{DiskInMemory, done, left, replay, leaves, image, image_since, seen_of, images_of, moment_of, since_of, reads_image, only_image, Same, Made, MayMake, Writes, MayWrite, Puts}
use Rattle.pg_io.specs.declared.recorded.Call.{Call}
use Rattle.pg_io.specs.declared.recorded.Call.TheVariants.{Wrote, Cut, Synced}

-- ---- lists of calls

pub replay_push : (f : List ℕ) (xs : List Call) (x : Call) → replay f (xs ++ x ∷ []) ≡ done (replay f xs) x
replay_push f [] x = refl
replay_push f (y ∷ xs) x = replay_push (done f y) xs x

leaves_push : (I : List ℕ → Type 0) (f : List ℕ) (xs : List Call) (x : Call) (c : List ℕ) → leaves I f (xs ++ x ∷ []) c → left (leaves I f xs) (replay f xs) x c
leaves_push I f [] x c is = is
leaves_push I f (y ∷ xs) x c is = leaves_push (left I f y) (done f y) xs x c is

take_front : (k : ℕ) (xs ys : List Call) → k ≤ length xs → take k (xs ++ ys) ≡ take k xs
take_front zero xs ys le = refl
take_front (suc k) [] ys le = absurd (omega arith)
take_front (suc k) (x ∷ xs) ys le = ap (λ (l : List Call). x ∷ l) (take_front k xs ys (omega arith))

module _ (first : List ℕ) (calls : List Call) (x : Call) where
  abbrev more : List Call
  more = calls ++ x ∷ []

  longer : length more ≡ length calls + 1
  longer = length-append calls (x ∷ [])

  -- a moment of the longer run is one of the shorter, or its last
  split : (t : ℕ) (c : List ℕ) → image_since first more t c → image_since first calls t c ⊎ left (image first calls) (replay first calls) x c
  split t c (k, from, to, now) = elim (cases_lt (length calls) k) [
    | inr le ↦ inl (k, from, le, subst (λ (l : List Call). image first l c) (take_front k calls (x ∷ []) le) now)
    | inl lt ↦ inr (leaves_push (λ d. d ≡ first) first calls x c (subst (λ (l : List Call). image first l c) (take_all k more (omega (arith, lt, longer))) now))
  ]

  kept_since : (t : ℕ) (c : List ℕ) → image_since first calls t c → image_since first more t c
  kept_since t c (k, from, to, now) = (k, from, omega (arith, to, longer), subst (λ (l : List Call). image first l c) (sym (take_front k calls (x ∷ []) to)) now)

  -- the last moment of the longer run is one since the end of the shorter
  last_since : (t : ℕ) (c : List ℕ) → t ≤ length calls → image_since first more t c → image_since first calls t c ⊎ image_since first more (length calls) c
  last_since t c le (k, from, to, now) = elim (cases_lt (length calls) k) [
    | inr short ↦ inl (k, from, short, subst (λ (l : List Call). image first l c) (take_front k calls (x ∷ []) short) now)
    | inl long ↦ inr (k, omega (arith, long), to, now)
  ]

-- ---- what a write does to a file

put_torn : (file : List ℕ) (at : ℕ) (v : List ℕ) → at ≤ length file → Torn at (length v) file (take at file ++ v ++ drop (at + length v) file)
put_torn file at v le =
    let front : length (take at file) ≡ at = omega (arith, length-take at file, le) in
    let long = length-append (take at file ++ v) (drop (at + length v) file) in
    let two = length-append (take at file) v in
    record {
      before = ap (λ (l : List ℕ). take at l) (append_assoc (take at file) v (drop (at + length v) file)) ∙ take_at (take at file) (v ++ drop (at + length v) file) at front;
      after = drop_at (take at file ++ v) (drop (at + length v) file) (at + length v) (omega (arith, two, front));
      no_shorter = omega (arith, long, two, front, length-drop (at + length v) file);
      no_longer = omega (arith, long, two, front, length-drop (at + length v) file);
    }

same_torn : (at n : ℕ) (c : List ℕ) → Torn at n c c
same_torn at n c = record { before = refl; after = refl; no_shorter = omega arith; no_longer = omega arith }

-- a shorter range lies in a longer one
wider : (at m n : ℕ) (old new : List ℕ) → m ≤ n → Torn at m old new → Torn at n old new
wider at m n old new le torn =
    let rest : at + n ≡ at + m + (n - m) = omega (arith, le) in
    record {
      before = torn.before;
      after = ap (λ (k : ℕ). drop k new) rest ∙ sym (drop-drop (n - m) (at + m) new) ∙ ap (λ (l : List ℕ). drop (n - m) l) torn.after ∙ drop-drop (n - m) (at + m) old ∙ ap (λ (k : ℕ). drop k old) (sym rest);
      no_shorter = torn.no_shorter;
      no_longer = omega (arith, torn.no_longer, le);
    }

same_cut : (n : ℕ) (c : List ℕ) → Shortened n c c
same_cut n c = record { no_shorter = omega arith; front = take_all (length c) c (omega arith) }

cut_now : (n : ℕ) (old : List ℕ) → Shortened n old (take n old)
cut_now n old = record {
  no_shorter = omega (arith, length-take n old);
  front = elim (cases_lt (length old) n) [
    | inl long ↦ (let whole = take_all n old (omega (arith, long)) in ap (λ (l : List ℕ). take (length l) old) whole ∙ take_all (length old) old (omega arith) ∙ sym whole)
    | inr short ↦ (let size : length (take n old) ≡ n = omega (arith, length-take n old, short) in ap (λ (k : ℕ). take k old) size)
  ];
}

-- ---- the clauses of a disk, where nothing was changed

module _ (old new : DiskInMemory) (same : Same old new) where
  same_seen : seen_of new ≡ seen_of old
  same_seen = λ i. replay (same.0 i) (same.1 i)

  same_moment : moment_of new ≡ moment_of old
  same_moment = ap length same.1

  same_back : (t : ℕ) (c : List ℕ) → since_of new t c → since_of old t c
  same_back t c is = subst (λ (l : List ℕ). image_since l old.calls t c) same.0 (subst (λ (l : List Call). image_since new.first l t c) same.1 is)

  same_forth : (t : ℕ) (c : List ℕ) → since_of old t c → since_of new t c
  same_forth t c is = subst (λ (l : List Call). image_since new.first l t c) (sym same.1) (subst (λ (l : List ℕ). image_since l old.calls t c) (sym same.0) is)

  same_now : (c : List ℕ) → images_of new c → images_of old c
  same_now c is = subst (λ (l : List ℕ). image l old.calls c) same.0 (subst (λ (l : List Call). image new.first l c) same.1 is)

  same_then : (c : List ℕ) → images_of old c → images_of new c
  same_then c is = subst (λ (l : List Call). image new.first l c) (sym same.1) (subst (λ (l : List ℕ). image l old.calls c) (sym same.0) is)

  pub same_still : Still moment_of seen_of images_of since_of old new
  same_still = record { clock = same_moment; same = same_seen; now = same_now; since = same_back; keeps = same_forth }

  same_ticks : Ticks moment_of seen_of images_of since_of old new
  same_ticks = record {
    later = omega (arith, same_moment);
    by_one = omega (arith, same_moment);
    unless_same = λ _. (same_seen, same_then, same_now);
    nothing_else = λ t c le is. inl (same_back t c is);
    keeps = λ t c le is. same_forth t c is;
  }

  -- an image since now is one from before
  same_since : (c : List ℕ) → since_of new (moment_of old) c → images_of old c
  same_since c is = only_image old.first old.calls c (same_back (moment_of old) c is)

-- ---- and where a call was made

module _ (x : Call) (old new : DiskInMemory) (is_made : Made x old new) where
  back : (t : ℕ) (c : List ℕ) → since_of new t c → image_since old.first (old.calls ++ x ∷ []) t c
  back t c is = subst (λ (l : List ℕ). image_since l (old.calls ++ x ∷ []) t c) is_made.0 (subst (λ (l : List Call). image_since new.first l t c) is_made.1 is)

  forth : (t : ℕ) (c : List ℕ) → image_since old.first (old.calls ++ x ∷ []) t c → since_of new t c
  forth t c is = subst (λ (l : List Call). image_since new.first l t c) (sym is_made.1) (subst (λ (l : List ℕ). image_since l (old.calls ++ x ∷ []) t c) (sym is_made.0) is)

  one_longer : moment_of new ≡ moment_of old + 1
  one_longer = ap length is_made.1 ∙ longer old.first old.calls x

  pub made_seen : seen_of new ≡ done (seen_of old) x
  made_seen = (λ i. replay (is_made.0 i) (is_made.1 i)) ∙ replay_push old.first old.calls x

  made_since : (c : List ℕ) → since_of new (moment_of old) c → images_of old c ⊎ left (images_of old) (seen_of old) x c
  made_since c is = ⊎_elim (λ l. inl (only_image old.first old.calls c l)) inr (split old.first old.calls x (moment_of old) c (back (moment_of old) c is))

  made_ticks : Ticks moment_of seen_of images_of since_of old new
  made_ticks = record {
    later = omega (arith, one_longer);
    by_one = omega (arith, one_longer);
    unless_same = λ same. absurd (omega (arith, one_longer, same));
    nothing_else = λ t c le is. ⊎_elim inl (λ l. inr (forth (moment_of old) c l)) (last_since old.first old.calls x t c le (back t c is));
    keeps = λ t c le is. forth t c (kept_since old.first old.calls x t c is);
  }

-- ---- a write

module _ (at : ℕ) (bytes : List ℕ) (old new : DiskInMemory) (writes : Writes at bytes old new) where
  pub writes_holds : Holds (seen_of old) at bytes (seen_of new)
  writes_holds = let old_bytes = seen_of old in made_seen (Wrote at writes.0) old new writes.2 ∙ (λ i. take at old_bytes ++ writes.1 i ++ drop (at + length (writes.1 i)) old_bytes)

  writes_torn : at ≤ length (seen_of old) → Torn at (length bytes) (seen_of old) (seen_of new)
  writes_torn le = subst (λ (l : List ℕ). Torn at (length bytes) (seen_of old) l) (sym writes_holds) (put_torn (seen_of old) at bytes le)

  writes_crash : at ≤ length (seen_of old) → Follows (Torn at (length bytes)) (images_of old) (since_of new (moment_of old))
  writes_crash le c is = elim (made_since (Wrote at writes.0) old new writes.2 c is) [
    | inl was ↦ (c, was, same_torn at (length bytes) c)
    | inr (inl now) ↦ (seen_of old, reads_image old.first old.calls, subst (λ (l : List ℕ). Torn at (length bytes) (seen_of old) l) (sym (now ∙ sym (made_seen (Wrote at writes.0) old new writes.2))) (writes_torn le))
    | inr (inr torn) ↦ (torn.0, torn.1, subst (λ (l : List ℕ). Torn at (length l) torn.0 c) writes.1 torn.2)
  ]

module _ (at n : ℕ) (old new : DiskInMemory) where
  pub may_write_ticks : MayWrite at n old new → Ticks moment_of seen_of images_of since_of old new
  may_write_ticks (inl same) = same_ticks old new same
  may_write_ticks (inr (front, short, writes)) = made_ticks (Wrote at writes.0) old new writes.2

  pub may_write_torn : at ≤ length (seen_of old) → MayWrite at n old new → Torn at n (seen_of old) (seen_of new)
  may_write_torn le (inl same) = subst (λ (l : List ℕ). Torn at n (seen_of old) l) (sym (same_seen old new same)) (same_torn at n (seen_of old))
  may_write_torn le (inr (front, short, writes)) = wider at (length front) n (seen_of old) (seen_of new) short (writes_torn at front old new writes le)

  pub may_write_crash : at ≤ length (seen_of old) → MayWrite at n old new → Follows (Torn at n) (images_of old) (since_of new (moment_of old))
  may_write_crash le (inl same) c is = (c, same_since old new same c is, same_torn at n c)
  may_write_crash le (inr (front, short, writes)) c is =
      let from = writes_crash at front old new writes le c is in (from.0, from.1, wider at (length front) n from.0 c short from.2)

-- ---- a cut

module _ (n : ℕ) (old new : DiskInMemory) where
  pub may_cut_ticks : MayMake (Cut n) old new → Ticks moment_of seen_of images_of since_of old new
  may_cut_ticks (inl same) = same_ticks old new same
  may_cut_ticks (inr made) = made_ticks (Cut n) old new made

  pub may_cut_seen : MayMake (Cut n) old new → (seen_of new ≡ seen_of old) ⊎ (seen_of new ≡ take n (seen_of old))
  may_cut_seen (inl same) = inl (same_seen old new same)
  may_cut_seen (inr made) = inr (made_seen (Cut n) old new made)

  cut_crash : Made (Cut n) old new → Follows (Shortened n) (images_of old) (since_of new (moment_of old))
  cut_crash made c is = elim (made_since (Cut n) old new made c is) [
    | inl was ↦ (c, was, same_cut n c)
    | inr (inl now) ↦ (seen_of old, reads_image old.first old.calls, subst (λ (l : List ℕ). Shortened n (seen_of old) l) (sym now) (cut_now n (seen_of old)))
    | inr (inr before) ↦ before
  ]

  pub may_cut_crash : MayMake (Cut n) old new → Follows (Shortened n) (images_of old) (since_of new (moment_of old))
  may_cut_crash (inl same) c is = (c, same_since old new same c is, same_cut n c)
  may_cut_crash (inr made) c is = cut_crash made c is

-- ---- a sync

module _ (old new : DiskInMemory) where
  pub may_sync_ticks : MayMake Synced old new → Ticks moment_of seen_of images_of since_of old new
  may_sync_ticks (inl same) = same_ticks old new same
  may_sync_ticks (inr made) = made_ticks Synced old new made

  pub may_sync_seen : MayMake Synced old new → seen_of new ≡ seen_of old
  may_sync_seen (inl same) = same_seen old new same
  may_sync_seen (inr made) = made_seen Synced old new made

  sync_crash : Made Synced old new → Within (since_of new (moment_of old)) (images_of old)
  sync_crash made c is = elim (made_since Synced old new made c is) [
    | inl was ↦ was
    | inr now ↦ subst (λ (l : List ℕ). images_of old l) (sym now) (reads_image old.first old.calls)
  ]

  pub may_sync_crash : MayMake Synced old new → Within (since_of new (moment_of old)) (images_of old)
  may_sync_crash (inl same) c is = same_since old new same c is
  may_sync_crash (inr made) c is = sync_crash made c is

  pub sync_only : Made Synced old new → Only (seen_of old) (images_of new)
  sync_only made c is =
      leaves_push (λ d. d ≡ old.first) old.first old.calls Synced c (subst (λ (l : List ℕ). image l (old.calls ++ Synced ∷ []) c) made.0 (subst (λ (l : List Call). image new.first l c) made.1 is))

-- ---- from the uncounted steps

module _ (at : ℕ) (bytes : List ℕ) (old mid new : DiskInMemory) (f : mid.first ≡ old.first) (e : mid.calls ≡ old.calls) where
  pub writes_of : Puts at bytes mid new → Writes at bytes old new
  writes_of (v, is, put) = (v, is, (ap (λ (m : DiskInMemory). m.first) put ∙ f, ap (λ (m : DiskInMemory). m.calls) put ∙ ap (λ (l : List Call). l ++ Wrote at v ∷ []) e))

  pub may_write_of : {E : Type 0} (n : ℕ) (result : Result (Unit {0}) E) → length bytes ≤ n → OnOk result (Puts at bytes mid new) → OnErr result (new ≡ mid) → MayWrite at n old new
  may_write_of n (Ok u) short put same = inr (bytes, short, writes_of put)
  may_write_of n (Err u) short put same = inl (ap (λ (m : DiskInMemory). m.first) same ∙ f, ap (λ (m : DiskInMemory). m.calls) same ∙ e)

  pub may_put_of : {E : Type 0} (result : Result (Unit {0}) E) → OnOk result (Puts at bytes mid new) → OnErr result (new ≡ mid) → Same old new ⊎ Writes at bytes old new
  may_put_of (Ok u) put same = inr (writes_of put)
  may_put_of (Err u) put same = inl (ap (λ (m : DiskInMemory). m.first) same ∙ f, ap (λ (m : DiskInMemory). m.calls) same ∙ e)

-- what was left as it was, in two steps
pub same_of : (old mid new : DiskInMemory) → Same old mid → Same mid new → Same old new
same_of old mid new first second = (second.0 ∙ first.0, second.1 ∙ first.1)
