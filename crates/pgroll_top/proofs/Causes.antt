-- What the one history says of each status.
use Rattle.std.proofs.Common.{◌≡◌, ◌⊎◌, ℕ, List, ◌++◌, Option, None, Some, Err, refl, ap, subst, ◌∙◌, append-nil, inl, inr, ⊎_elim, arith}
use Rattle.sql_base.specs.declared.faults.ScriptFault.TheVariants.{Line as BadLine}
use Rattle.script_text.specs.Script.{script_of}
use Rattle.pg_io.specs.Laws.{beyond_whole, within_passes}
use Rattle.pgroll_top.specs.declared.ending.End.{End}
use Rattle.pgroll_top.specs.declared.ending.End.TheVariants.{Done, Refused, Usage, ReadFault, InputTooLong, BadScript, WantOfMemory}
use Rattle.machine.specs.declared.events.Entry.{Entry}
use Rattle.machine.specs.declared.states.State.{State}
use Rattle.pg_io.specs.Outside.{Known, Faulted, Quiet, PassesLimit, ReadsWhole, IsWithin, IsBeyond}
use Rattle.pgroll_top.specs.Top.{DoesAll, DoesPart, IsForm, HasInput, HasBadLine, IsDone, Explains, Because, limit, status_of}

either_way : {A B X : Type 0} → A ⊎ B → (A → X) → (B → X) → X
either_way (inl a) f g = f a
either_way (inr b) f g = g b

-- an end by its status
ended : {X : Type 0} (words : List (List ℕ)) (s : State) (input : Known) (end : End) (h shown : List Entry) → Because words s input end h shown
    → (((status_of end ≡ 0) ⊎ (status_of end ≡ 1) → X) × (status_of end ≡ 2 → ¬ IsForm words → X) × (status_of end ≡ 3 → Faulted input → X)
    × (status_of end ≡ 8 → PassesLimit limit input.before input.after → X) × (status_of end ≡ 6 → X)) → X
ended words s input Done h shown b k = k.0 (inl refl)
ended words s input Refused h shown b k = k.0 (inr refl)
ended words s input (BadScript number) h shown b k = k.0 (inr refl)
ended words s input Usage h shown b k = k.1 refl b.0
ended words s input ReadFault h shown b k = k.2 refl b.1
ended words s input InputTooLong h shown b k = k.3 refl b.1
ended words s input WantOfMemory h shown b k = k.4 refl

module _ (words : List (List ℕ)) (s : State) (input output : Known) (status : ℕ) where
  pub usage_cause : (h : List Entry) × Explains words s input output status h → status ≡ 2 → ¬ IsForm words
  usage_cause (h, (history, inl (end, shown, because, inl closes))) e form = ended words s input end h shown because
      ((λ z. either_way z (λ q. absurd (omega arith)) (λ q. absurd (omega arith))), (λ z no. no form), (λ z f. absurd (omega arith)), (λ z f. absurd (omega arith)), (λ z. absurd (omega arith)))
  usage_cause (h, (history, inl (end, shown, because, inr cut))) e form = absurd (omega (arith, cut.0))
  usage_cause (h, (history, inr breaks)) e form = absurd (omega (arith, breaks.1))

  pub read_cause : (h : List Entry) × Explains words s input output status h → status ≡ 3 → Faulted input
  read_cause (h, (history, inl (end, shown, because, inl closes))) e = ended words s input end h shown because
      ((λ z. either_way z (λ q. absurd (omega (arith, closes.0))) (λ q. absurd (omega (arith, closes.0)))), (λ z no. absurd (omega (arith, closes.0))), (λ z f. f), (λ z f. absurd (omega (arith, closes.0))), (λ z. absurd (omega (arith, closes.0))))
  read_cause (h, (history, inl (end, shown, because, inr cut))) e = absurd (omega (arith, cut.0))
  read_cause (h, (history, inr breaks)) e = absurd (omega (arith, breaks.1))

  pub write_cause : (h : List Entry) × Explains words s input output status h → status ≡ 4 → Faulted output
  write_cause (h, (history, inl (end, shown, because, inl closes))) e = ended words s input end h shown because
      ((λ z. either_way z (λ q. absurd (omega (arith, closes.0))) (λ q. absurd (omega (arith, closes.0)))), (λ z no. absurd (omega (arith, closes.0))), (λ z f. absurd (omega (arith, closes.0))), (λ z f. absurd (omega (arith, closes.0))), (λ z. absurd (omega (arith, closes.0))))
  write_cause (h, (history, inl (end, shown, because, inr cut))) e = cut.1.failed
  write_cause (h, (history, inr (form, four, part, (done, last, split, cut)))) e = cut.failed

  pub long_cause : (h : List Entry) × Explains words s input output status h → status ≡ 8 → PassesLimit limit input.before input.after
  long_cause (h, (history, inl (end, shown, because, inl closes))) e = ended words s input end h shown because
      ((λ z. either_way z (λ q. absurd (omega (arith, closes.0))) (λ q. absurd (omega (arith, closes.0)))), (λ z no. absurd (omega (arith, closes.0))), (λ z f. absurd (omega (arith, closes.0))), (λ z f. f), (λ z. absurd (omega (arith, closes.0))))
  long_cause (h, (history, inl (end, shown, because, inr cut))) e = absurd (omega (arith, cut.0))
  long_cause (h, (history, inr breaks)) e = absurd (omega (arith, breaks.1))

module _ (words : List (List ℕ)) (s : State) (input output : Known) (status : ℕ) where
  pub complete : (h : List Entry) × Explains words s input output status h → IsForm words → (HasInput words → IsWithin limit input.before) → ¬ Faulted input → ¬ Faulted output → IsDone status ⊎ (status ≡ 6)
  complete (h, (history, inl (end, shown, because, inl closes))) form within no_read no_write = ended words s input end h shown because
      ((λ z. inl (either_way z (λ e. inl (closes.0 ∙ e)) (λ e. inr (closes.0 ∙ e)))), (λ z no. absurd (no form)), (λ z f. absurd (no_read f)), (λ z f. absurd (within_passes limit input.before input.after (within form) f)), (λ z. inr (closes.0 ∙ z)))
  complete (h, (history, inl (end, shown, because, inr cut))) form within no_read no_write = absurd (no_write cut.1.failed)
  complete (h, (history, inr (four_form, four, part, (done, last, split, cut)))) form within no_read no_write = absurd (no_write cut.failed)

long_ends : (words : List (List ℕ)) (s : State) (input : Known) (end : End) (h shown : List Entry) → Because words s input end h shown → IsForm words → IsBeyond limit input.before → ¬ Faulted input → (status_of end ≡ 8) ⊎ (status_of end ≡ 6)
long_ends words s input Done h shown b form beyond never = absurd (beyond_whole limit input.before input.after b.1.0 beyond b.1.1.0 b.1.1.1)
long_ends words s input Refused h shown b form beyond never = absurd (beyond_whole limit input.before input.after b.1.0 beyond b.1.1.0 b.1.1.1)
long_ends words s input (BadScript number) h shown b form beyond never = absurd (beyond_whole limit input.before input.after b.1.0 beyond b.1.1.0 b.1.1.1)
long_ends words s input Usage h shown b form beyond never = absurd (b.0 form)
long_ends words s input ReadFault h shown b form beyond never = absurd (never b.1)
long_ends words s input InputTooLong h shown b form beyond never = inl refl
long_ends words s input WantOfMemory h shown b form beyond never = inr refl

usage_ends : (words : List (List ℕ)) (s : State) (input : Known) (end : End) (h shown : List Entry) → Because words s input end h shown → ¬ IsForm words → status_of end ≡ 2
usage_ends words s input Done h shown b never = absurd (never b.0)
usage_ends words s input Refused h shown b never = absurd (never b.0)
usage_ends words s input (BadScript number) h shown b never = absurd (never b.0)
usage_ends words s input Usage h shown b never = refl
usage_ends words s input ReadFault h shown b never = absurd (never b.0)
usage_ends words s input InputTooLong h shown b never = absurd (never b.0)
usage_ends words s input WantOfMemory h shown b never = absurd (never b.0)

module _ (words : List (List ℕ)) (s : State) (input output : Known) (status : ℕ) where
  pub complete_long : (h : List Entry) × Explains words s input output status h → HasInput words → IsBeyond limit input.before → ¬ Faulted input → ¬ Faulted output → (status ≡ 8) ⊎ (status ≡ 6)
  complete_long (h, (history, inl (end, shown, because, inl closes))) form beyond no_read no_write =
      ⊎_elim (λ e. inl (closes.0 ∙ e)) (λ e. inr (closes.0 ∙ e)) (long_ends words s input end h shown because form beyond no_read)
  complete_long (h, (history, inl (end, shown, because, inr cut))) form beyond no_read no_write = absurd (no_write cut.1.failed)
  complete_long (h, (history, inr (same, four, part, (done, last, split, cut)))) form beyond no_read no_write = absurd (no_write cut.failed)

  pub complete_usage : (h : List Entry) × Explains words s input output status h → ¬ IsForm words → ¬ Faulted output → status ≡ 2
  complete_usage (h, (history, inl (end, shown, because, inl closes))) never no_write = closes.0 ∙ usage_ends words s input end h shown because never
  complete_usage (h, (history, inl (end, shown, because, inr cut))) never no_write = absurd (no_write cut.1.failed)
  complete_usage (h, (history, inr (same, four, part, (done, last, split, cut)))) never no_write = absurd (no_write cut.failed)

-- ---- faults are told

quiet_part : (words : List (List ℕ)) (s : State) (input : Known) (h : List Entry) → DoesPart words s input h → Quiet input
quiet_part words s input h (inl (text, whole, begins)) = whole.2
quiet_part words s input h (inr (none, front, quiet)) = quiet

-- an end without a fault of the input, or the read fault
quiet_ends : (words : List (List ℕ)) (s : State) (input : Known) (end : End) (h shown : List Entry) → Because words s input end h shown → (status_of end ≡ 3) ⊎ Quiet input
quiet_ends words s input Done h shown b = inr b.1.1.2
quiet_ends words s input Refused h shown b = inr b.1.1.2
quiet_ends words s input (BadScript number) h shown b = inr b.1.1.2
quiet_ends words s input Usage h shown b = inr b.1.1
quiet_ends words s input ReadFault h shown b = inl refl
quiet_ends words s input InputTooLong h shown b = inr b.2
quiet_ends words s input WantOfMemory h shown b = inr (quiet_part words s input h b.1)

module _ (words : List (List ℕ)) (s : State) (input output : Known) (status : ℕ) where
  pub write_told : (h : List Entry) × Explains words s input output status h → (status ≡ 4) ⊎ Quiet output
  write_told (h, (history, inl (end, shown, because, inl closes))) = inr closes.2
  write_told (h, (history, inl (end, shown, because, inr cut))) = inl cut.0
  write_told (h, (history, inr breaks)) = inl breaks.1

  pub read_told : (h : List Entry) × Explains words s input output status h → (status ≡ 3) ⊎ ((status ≡ 4) ⊎ Quiet input)
  read_told (h, (history, inl (end, shown, because, inl closes))) =
      ⊎_elim (λ e. inl (closes.0 ∙ e)) (λ q. inr (inr q)) (quiet_ends words s input end h shown because)
  read_told (h, (history, inl (end, shown, because, inr cut))) = inr (inl cut.0)
  read_told (h, (history, inr breaks)) = inr (inl breaks.1)

-- ---- inputs with a bad line

bad_within : (left : Option (List ℕ)) → HasBadLine left → IsWithin limit left
bad_within None bad = bad
bad_within (Some text) bad = bad.0

-- what was read whole is what was left
same_text : (before after : Option (List ℕ)) (text : List ℕ) → ReadsWhole before after text → HasBadLine before → (number : ℕ) × (script_of text ≡ Err (BadLine number))
same_text None after text whole bad = absurd bad
same_text (Some all) None text whole bad = absurd whole.taken
same_text (Some all) (Some rest) text whole bad =
    let same : all ≡ text = whole.taken ∙ ap (λ z. text ++ z) whole.nothing_left ∙ append-nil text in
    (bad.1.0, subst (λ z. script_of z ≡ Err (BadLine bad.1.0)) same bad.1.1)

-- no history does all the work of such an input
bad_follows : (words : List (List ℕ)) (s : State) (input : Known) (h : List Entry) → DoesAll words s input h → HasBadLine input.before → ⊥
bad_follows words s input h (text, whole, (lines, reads, follows)) bad = let wrong = same_text input.before input.after text whole.0 bad in let other = wrong.1 in cc

-- an input with a bad line comes to these ends alone
bad_ends : (words : List (List ℕ)) (s : State) (input : Known) (end : End) (h shown : List Entry) → Because words s input end h shown → IsForm words → HasBadLine input.before → ¬ Faulted input → (status_of end ≡ 1) ⊎ (status_of end ≡ 6)
bad_ends words s input Done h shown b form bad never = absurd (bad_follows words s input h b.1 bad)
bad_ends words s input Refused h shown b form bad never = inl refl
bad_ends words s input Usage h shown b form bad never = absurd (b.0 form)
bad_ends words s input ReadFault h shown b form bad never = absurd (never b.1)
bad_ends words s input InputTooLong h shown b form bad never = absurd (within_passes limit input.before input.after (bad_within input.before bad) b.1)
bad_ends words s input (BadScript number) h shown b form bad never = inl refl
bad_ends words s input WantOfMemory h shown b form bad never = inr refl

module _ (words : List (List ℕ)) (s : State) (input output : Known) (status : ℕ) where
  pub complete_script : (h : List Entry) × Explains words s input output status h → HasInput words → HasBadLine input.before → ¬ Faulted input → ¬ Faulted output → (status ≡ 1) ⊎ (status ≡ 6)
  complete_script (h, (history, inl (end, shown, because, inl closes))) form bad no_read no_write =
      ⊎_elim (λ e. inl (closes.0 ∙ e)) (λ e. inr (closes.0 ∙ e)) (bad_ends words s input end h shown because form bad no_read)
  complete_script (h, (history, inl (end, shown, because, inr cut))) form bad no_read no_write = absurd (no_write cut.1.failed)
  complete_script (h, (history, inr (same, four, part, (done, last, split, cut)))) form bad no_read no_write = absurd (no_write cut.failed)
