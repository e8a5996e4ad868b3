use Rattle.std.proofs.Common.{◌≡◌, ◌+◌, ◌++◌, [], ◌∷◌, Ok, None, ℕ, List, length, take, refl, sym, ◌∙◌, ap, subst, arith}
use Rattle.journal.specs.Records.{records_of, Reads, journal_in}
use Rattle.journal.specs.Story.{story_of, IsKept}
use Rattle.journal.specs.declared.stage.Phase.TheVariants.{Reading}
use Rattle.pg_io.specs.Causes.{Rose}
use Rattle.journal.specs.Records.{IsBadAt}
use Rattle.journal.proofs.Piece.{bad_is_told, same_fault}
use Rattle.journal.proofs.Scanning.{base_now, still_reading, one_more, base_more, all_read, base_same, none_added, reads, none_there}
use Rattle.journal.specs.declared.pieces.JournalFault.TheVariants.{BadRecord}
use Rattle.journal.proofs.gates.Journal.next.Goals as goal

pub invariant_of-self : goal.invariant_of-self
invariant_of-self g c told =
    let j = c.self.inside in let K = g.D.Disk in let d = c.read_piece.new.disk in let body = c.in-Ok-Some.body.items in
    let phase_is = ap (λ s. s.story.phase) c.self.view_is ∙ c.requires in
    let kept = subst (λ p. IsKept K.moment K.seen K.may_leave K.left_since (story_of K.seen j.disk j.start.value j.first j.gate p)) phase_is (c.self.invariant told) in
    let m_is : j.gate + (5 + length body) ≡ j.gate + 5 + c.len.result = omega (arith, c.len.ensures) in
    subst (λ p. IsKept K.moment K.seen K.may_leave K.left_since (story_of K.seen d j.start.value (j.gate + 5 + c.len.result) (j.gate + 5 + c.len.result) p)) (sym phase_is)
    (subst (λ (m : ℕ). IsKept K.moment K.seen K.may_leave K.left_since (story_of K.seen d j.start.value m m Reading)) m_is
    (one_more K.moment K.seen K.may_leave K.left_since j.start.value j.disk j.first j.gate kept d (c.read_piece.ensures.still told) body (rw c.in-Ok-Some.field-0-is at c.in-Ok-Some.ensures.record) (rw c.in-Ok-Some.field-0-is at (c.in-Ok-Some.ensures.piece told))))

pub invariant_of-self-in-Ok-None : goal.invariant_of-self-in-Ok-None
invariant_of-self-in-Ok-None g c told =
    let j = c.self.inside in let K = g.D.Disk in let d = c.read_piece.new.disk in
    let phase_is = ap (λ s. s.story.phase) c.self.view_is ∙ c.requires in
    let kept = subst (λ p. IsKept K.moment K.seen K.may_leave K.left_since (story_of K.seen j.disk j.start.value j.first j.gate p)) phase_is (c.self.invariant told) in
    all_read K.moment K.seen K.may_leave K.left_since j.start.value j.disk j.first j.gate kept d (c.read_piece.ensures.still told) (g.met.D.Disk.counts_now told) (c.in-Ok-None.ensures.shut told (ap Ok c.in-Ok-None.field-0-is))

pub invariant_of-self-in-Err : goal.invariant_of-self-in-Err
invariant_of-self-in-Err g c told =
    let j = c.self.inside in let K = g.D.Disk in let d = c.read_piece.new.disk in
    let phase_is = ap (λ s. s.story.phase) c.self.view_is ∙ c.requires in
    let kept = subst (λ p. IsKept K.moment K.seen K.may_leave K.left_since (story_of K.seen j.disk j.start.value j.first j.gate p)) phase_is (c.self.invariant told) in
    subst (λ p. IsKept K.moment K.seen K.may_leave K.left_since (story_of K.seen d j.start.value j.gate j.gate p)) (sym phase_is)
    (still_reading K.moment K.seen K.may_leave K.left_since j.start.value j.disk j.first j.gate kept d (c.read_piece.ensures.still told))

pub returns-in-Ok-Some-clause-more : goal.returns-in-Ok-Some-clause-more
returns-in-Ok-Some-clause-more g c told =
    let j = c.self.inside in let K = g.D.Disk in let d = c.read_piece.new.disk in let body = c.in-Ok-Some.body.items in
    let phase_is = ap (λ s. s.story.phase) c.self.view_is ∙ c.requires in
    let kept = subst (λ p. IsKept K.moment K.seen K.may_leave K.left_since (story_of K.seen j.disk j.start.value j.first j.gate p)) phase_is (c.self.invariant told) in
    let m_is : j.gate + 5 + c.len.result ≡ j.gate + (5 + length body) = omega (arith, c.len.ensures) in (
      ap (λ s. s.story.gate) c.self.view_is,
      ap (λ (m : ℕ). records_of (take m (K.seen j.start.value))) m_is
          ∙ base_more K.moment K.seen K.may_leave K.left_since j.start.value j.disk j.first j.gate kept d (c.read_piece.ensures.still told) body (rw c.in-Ok-Some.field-0-is at c.in-Ok-Some.ensures.record) (rw c.in-Ok-Some.field-0-is at (c.in-Ok-Some.ensures.piece told))
          ∙ ap (λ (l : List (List ℕ)). l ++ body ∷ []) (ap (λ s. s.story.base) c.self.view_is)
          ∙ ap (λ (b : List ℕ). c.args.self.now.story.base ++ b ∷ []) (sym c.from_vec.ensures),
    )

pub returns-in-Ok-None-clause-all : goal.returns-in-Ok-None-clause-all
returns-in-Ok-None-clause-all g c told none =
    let j = c.self.inside in let K = g.D.Disk in let d = c.read_piece.new.disk in
    let phase_is = ap (λ s. s.story.phase) c.self.view_is ∙ c.requires in
    let kept = subst (λ p. IsKept K.moment K.seen K.may_leave K.left_since (story_of K.seen j.disk j.start.value j.first j.gate p)) phase_is (c.self.invariant told) in (
      base_same K.moment K.seen K.may_leave K.left_since j.start.value j.disk j.first j.gate kept d (c.read_piece.ensures.still told) (g.met.D.Disk.counts_now told) (c.in-Ok-None.ensures.shut told (ap Ok c.in-Ok-None.field-0-is))
          ∙ ap (λ s. s.story.base) c.self.view_is,
      none_added K.moment K.seen K.may_leave K.left_since j.start.value j.disk j.first j.gate kept d (c.read_piece.ensures.still told) (g.met.D.Disk.counts_now told) (c.in-Ok-None.ensures.shut told (ap Ok c.in-Ok-None.field-0-is)),
      refl,
    )

pub returns-in-Err-clause-err_base : goal.returns-in-Err-clause-err_base
returns-in-Err-clause-err_base g c told =
    let j = c.self.inside in let K = g.D.Disk in let d = c.read_piece.new.disk in
    let phase_is = ap (λ s. s.story.phase) c.self.view_is ∙ c.requires in
    let kept = subst (λ p. IsKept K.moment K.seen K.may_leave K.left_since (story_of K.seen j.disk j.start.value j.first j.gate p)) phase_is (c.self.invariant told) in
    base_now K.moment K.seen K.may_leave K.left_since j.start.value j.disk j.first j.gate kept d (c.read_piece.ensures.still told) ∙ ap (λ s. s.story.base) c.self.view_is

pub returns-in-Err-clause-all_bad : goal.returns-in-Err-clause-all_bad
returns-in-Err-clause-all_bad g c told =
    let K = g.D.Disk in let d = c.read_piece.new.disk in let view_is = c.self.view_is in
    bad_is_told c.in-Err.fault c.args.self.now.story.gate
    (λ place is. ((c.in-Err.ensures.bad place is).0 ∙ ap (λ s. s.story.gate) view_is, (c.in-Err.ensures.bad place is).1))
    (λ is bad. c.in-Err.ensures.sound told is (subst (λ s. IsBadAt (K.seen s.story.disk) s.story.gate) (sym view_is) bad))
    (λ is. subst (λ s. Rose (K.faults s.story.disk) (K.faults d)) view_is (c.in-Err.ensures.failed is))

pub returns-in-Ok-None-clause-reads : goal.returns-in-Ok-None-clause-reads
returns-in-Ok-None-clause-reads g c told none =
    let j = c.self.inside in let K = g.D.Disk in let d = c.read_piece.new.disk in
    let phase_is = ap (λ s. s.story.phase) c.self.view_is ∙ c.requires in
    let kept = subst (λ p. IsKept K.moment K.seen K.may_leave K.left_since (story_of K.seen j.disk j.start.value j.first j.gate p)) phase_is (c.self.invariant told) in
    let still = c.read_piece.ensures.still told in
    subst (λ (l : List (List ℕ)). Reads l (K.seen d)) (sym (base_now K.moment K.seen K.may_leave K.left_since j.start.value j.disk j.first j.gate kept d still))
    (reads K.moment K.seen K.may_leave K.left_since j.start.value j.disk j.first j.gate kept d still (g.met.D.Disk.counts_now told) (c.in-Ok-None.ensures.shut told (ap Ok c.in-Ok-None.field-0-is)))

pub returns-in-Err-clause-absent : goal.returns-in-Err-clause-absent
returns-in-Err-clause-absent g c told at is =
    let j = c.self.inside in let K = g.D.Disk in let d = c.read_piece.new.disk in
    let phase_is = ap (λ s. s.story.phase) c.self.view_is ∙ c.requires in
    let kept = subst (λ p. IsKept K.moment K.seen K.may_leave K.left_since (story_of K.seen j.disk j.start.value j.first j.gate p)) phase_is (c.self.invariant told) in
    let bad = c.in-Err.ensures.bad at (same_fault c.in-Err.fault (BadRecord at) is) in
    subst (λ s. journal_in (K.seen s.story.disk) ≡ None) c.self.view_is
    (none_there K.moment K.seen K.may_leave K.left_since j.start.value j.disk j.first j.gate kept d (c.read_piece.ensures.still told) (bad.1 told))
