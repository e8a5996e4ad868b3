-- How a run of disk calls goes on.
use Rattle.std.proofs.Common.{◌≡◌, inl, inr, ⊎_elim, ℕ, ◌≤◌, List, refl, sym, ◌∙◌, subst, arith}
use Rattle.pg_io.specs.Disk.{Ticks, Still, LeavesOnly, Torn, Follows, Only, Within}

-- a file that nothing was written to
pub torn_not : (at n : ℕ) (file c : List ℕ) → c ≡ file → Torn at n file c
torn_not at n file c is = subst (λ f. Torn at n file f) (sym is) (record { before = refl; after = refl; no_shorter = omega arith; no_longer = omega arith })

module _ {D : Type 0} (moment : D → ℕ) (seen : D → List ℕ) (may_leave : D → List ℕ → Type 0) (left_since : D → ℕ → List ℕ → Type 0)
    (counts_now : (disk : D) (t : ℕ) (c : List ℕ) → t ≤ moment disk → may_leave disk c → left_since disk t c)
    (only_now : (disk : D) (c : List ℕ) → left_since disk (moment disk) c → may_leave disk c) where
  -- before the first call
  pub started : (old : D) (P : List ℕ → Type 0) → Within (may_leave old) P → LeavesOnly moment left_since old old P
  started old P here = record { later = omega arith; each = λ c left. here c (only_now old c left); before = λ t c le left. inl left }

  -- one call more, during which and after which a crash leaves what has P
  pub goes_on : (old mid new : D) (P : List ℕ → Type 0) → LeavesOnly moment left_since old mid P → Ticks moment seen may_leave left_since mid new
      → Within (left_since new (moment mid)) P → LeavesOnly moment left_since old new P
  goes_on old mid new P so_far time here = record {
    later = omega (arith, so_far.later, time.later);
    each = λ c left. ⊎_elim (so_far.each c) (here c) (time.nothing_else (moment old) c so_far.later left);
    before = λ t c le left. ⊎_elim (so_far.before t c le) (λ now. inr (here c now)) (time.nothing_else t c (omega (arith, le, so_far.later)) left);
  }

  -- two runs
  pub joined : (old mid new : D) (P Q R : List ℕ → Type 0) → LeavesOnly moment left_since old mid P → LeavesOnly moment left_since mid new Q
      → Within P R → Within Q R → LeavesOnly moment left_since old new R
  joined old mid new P Q R first second p q = record {
    later = omega (arith, first.later, second.later);
    each = λ c left. ⊎_elim (λ l. p c (first.each c l)) (q c) (second.before (moment old) c first.later left);
    before = λ t c le left. ⊎_elim (λ l. ⊎_elim inl (λ h. inr (p c h)) (first.before t c le l)) (λ h. inr (q c h)) (second.before t c (omega (arith, le, first.later)) left);
  }

  -- what has P has Q
  pub weaker : (old new : D) (P Q : List ℕ → Type 0) → LeavesOnly moment left_since old new P → Within P Q → LeavesOnly moment left_since old new Q
  weaker old new P Q so_far then = record { later = so_far.later; each = λ c left. then c (so_far.each c left); before = λ t c le left. ⊎_elim inl (λ h. inr (then c h)) (so_far.before t c le left) }

  -- a write to a file that is all on the disk
  module _ (old mid : D) (at n : ℕ) (only : Only (seen old) (may_leave old))
      (crash : Follows (Torn at n) (may_leave old) (left_since mid (moment old))) (time : Ticks moment seen may_leave left_since old mid) where
    write_each : Within (left_since mid (moment old)) (Torn at n (seen old))
    write_each c left = let from = crash c left in subst (λ f. Torn at n f c) (only from.0 from.1) from.2

    pub written_now : Within (may_leave mid) (Torn at n (seen old))
    written_now c now = write_each c (counts_now mid (moment old) c time.later now)

    pub written_moments : LeavesOnly moment left_since old mid (Torn at n (seen old))
    written_moments = goes_on old old mid (Torn at n (seen old)) (started old (Torn at n (seen old)) (λ c now. torn_not at n (seen old) c (only c now))) time write_each

    -- and a sync
    module _ (new : D) (adds_none : Within (left_since new (moment mid)) (may_leave mid)) (then : Ticks moment seen may_leave left_since mid new) where
      pub synced_now : Within (may_leave new) (Torn at n (seen old))
      synced_now c now = written_now c (adds_none c (counts_now new (moment mid) c then.later now))

      pub synced_moments : LeavesOnly moment left_since old new (Torn at n (seen old))
      synced_moments = goes_on old mid new (Torn at n (seen old)) written_moments then (λ c left. written_now c (adds_none c left))

  -- ---- calls that change nothing

  -- a sync
  pub synced : (old new : D) → Within (left_since new (moment old)) (may_leave old) → Ticks moment seen may_leave left_since old new → LeavesOnly moment left_since old new (may_leave old)
  synced old new adds_none time = goes_on old old new (may_leave old) (started old (may_leave old) (λ c now. now)) time adds_none

  -- a look
  pub stays : (old mid new : D) (P : List ℕ → Type 0) → LeavesOnly moment left_since old mid P → Still moment seen may_leave left_since mid new → LeavesOnly moment left_since old new P
  stays old mid new P so_far still = record {
    later = omega (arith, so_far.later, still.clock);
    each = λ c left. so_far.each c (still.since (moment old) c left);
    before = λ t c le left. so_far.before t c le (still.since t c left);
  }

  -- two looks
  pub still_twice : (old mid new : D) → Still moment seen may_leave left_since old mid → Still moment seen may_leave left_since mid new → Still moment seen may_leave left_since old new
  still_twice old mid new first second = record {
    clock = second.clock ∙ first.clock;
    same = second.same ∙ first.same;
    now = λ c left. first.now c (second.now c left);
    since = λ t c left. first.since t c (second.since t c left);
    keeps = λ t c left. second.keeps t c (first.keeps t c left);
  }
