-- What a journal keeps when it is made, and what it promises.
use Rattle.std.proofs.Common.{◌≡◌, ◌≢◌, inl, ℕ, List, [], ◌∷◌, ◌++◌, length, take, drop, refl, sym, subst, arith}
use Rattle.pg_io.specs.Disk.{Only}
use Rattle.journal.specs.Records.{head, Reads, records_of}
use Rattle.journal.specs.Story.{Story, story_of, Promises, ByPhase, IsKept}
use Rattle.journal.specs.declared.stage.Phase.{Phase}
use Rattle.journal.specs.declared.stage.Phase.TheVariants.{Reading, Standing, Fallen, Undecided}

module _ {D : Type 0} (moment : D → ℕ) (seen : D → List ℕ) (may_leave : D → List ℕ → Type 0) (left_since : D → ℕ → List ℕ → Type 0) where
  abbrev Kept : Story D → Type 0
  Kept s = IsKept moment seen may_leave left_since s

  by_phase : (s : Story D) (p : Phase) → ByPhase moment seen may_leave left_since s p → p ≢ Reading → Promises moment seen may_leave left_since s
  by_phase s Reading kept done = absurd (done refl)
  by_phase s Standing kept done = kept.promises
  by_phase s Fallen kept done = kept
  by_phase s Undecided kept done = kept

  pub promised : (s : Story D) → Kept s → s.phase ≢ Reading → Promises moment seen may_leave left_since s
  promised s kept done = by_phase s s.phase kept.by_phase done

  pub begun : (only_now : (disk : D) (c : List ℕ) → left_since disk (moment disk) c → may_leave disk c) (d : D)
      → seen d ≡ head ++ 0 ∷ [] → Only (seen d) (may_leave d) → Kept (story_of seen d d 8 8 Standing)
  begun only_now d is only =
      let reads : Reads [] (seen d) = record { records = tt; gate = 0; behind = []; closed = omega arith; text = is } in
      subst (λ f. Kept (record {
        disk = d;
        start = d;
        base = records_of (take 8 f);
        added = drop (length (records_of (take 8 f))) (records_of (take 8 f));
        pending = [];
        gate = 8;
        phase = Standing;
      })) (sym is) (record {
        place = refl;
        records = tt;
        later = omega arith;
        by_phase = record {
          promises = record {
            begins = reads;
            now = λ c left. inl (subst (Reads []) (sym (only c left)) reads);
            since = λ c left. (0, omega arith, subst (Reads []) (sym (only c (only_now d c left))) reads);
          };
          reads = reads;
          durable = only;
        };
      })
