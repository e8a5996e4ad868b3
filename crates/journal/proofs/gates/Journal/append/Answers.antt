use Rattle.std.proofs.Common.{◌+◌, ◌++◌, [], ◌∷◌, length, take, ℕ, List, inr, sym, ◌∙◌, ap, subst}
use Rattle.pg_io.specs.Disk.{Holds, Within, LeavesOnly}
use Rattle.journal.specs.Story.{story_of, pending_of, IsKept, IsAllBut}
use Rattle.journal.specs.Records.{Reads, BeginsAsJournal, records_of}
use Rattle.journal.proofs.Appending.{fallen, fallen_added, fallen_moments, both_moments, undecided, undecided_added, undecided_pending, grown, grown_added, grown_now, grown_text}
use Rattle.journal.proofs.gates.Journal.append.Goals as goal

pub invariant_of-self : goal.invariant_of-self
invariant_of-self g c told =
    let j = c.self.inside in let K = g.D.Disk in
    let phase_is = ap (λ s. s.story.phase) c.self.view_is ∙ c.requires.stands in
    let kept = subst (λ p. IsKept K.moment K.seen K.may_leave K.left_since (story_of K.seen j.disk j.start.value j.first j.gate p)) phase_is (c.self.invariant told) in
    fallen K.moment K.seen K.may_leave K.left_since (g.met.D.Disk.reads told) (g.met.D.Disk.counts_now told) (g.met.D.Disk.only_now told) j.start.value j.disk j.first j.gate kept
    c.write_through.new.disk _ (c.write_through.ensures.moments told) (c.write_through.ensures.now told)

pub returns-in_default-clause-undone : goal.returns-in_default-clause-undone
returns-in_default-clause-undone g c told =
    let j = c.self.inside in let K = g.D.Disk in
    let phase_is = ap (λ s. s.story.phase) c.self.view_is ∙ c.requires.stands in
    let kept = subst (λ p. IsKept K.moment K.seen K.may_leave K.left_since (story_of K.seen j.disk j.start.value j.first j.gate p)) phase_is (c.self.invariant told) in
    fallen_added K.moment K.seen K.may_leave K.left_since (g.met.D.Disk.reads told) (g.met.D.Disk.counts_now told) (g.met.D.Disk.only_now told) j.start.value j.disk j.first j.gate kept
    c.write_through.new.disk _ (c.write_through.ensures.moments told) (c.write_through.ensures.now told)
    ∙ ap (λ s. s.story.added) c.self.view_is

pub invariant_of-self-in_default-write_through : goal.invariant_of-self-in_default-write_through
invariant_of-self-in_default-write_through g c told =
    let j = c.self.inside in let K = g.D.Disk in
    let phase_is = ap (λ s. s.story.phase) c.self.view_is ∙ c.requires.stands in
    let kept = subst (λ p. IsKept K.moment K.seen K.may_leave K.left_since (story_of K.seen j.disk j.start.value j.first j.gate p)) phase_is (c.self.invariant told) in
    let written = subst (λ t. Holds (K.seen j.disk) (j.gate + 1) t (K.seen c.write_through.new.disk)) (c.deref.ensures.value ∙ c.write_text.ensures.text) (c.in-Ok.ensures.written told) in
    undecided K.moment K.seen K.may_leave K.left_since (g.met.D.Disk.reads told) (g.met.D.Disk.counts_now told) (g.met.D.Disk.only_now told) j.start.value j.disk j.first j.gate kept
    c.write_through.new.disk _ (c.write_through.ensures.moments told) (c.write_through.ensures.now told) c.args.body.now c.requires.body written
    c.write_through-2.new.disk (c.write_through-2.ensures.moments told) (c.write_through-2.ensures.now told)

pub returns-in_default-write_through-clause-undone : goal.returns-in_default-write_through-clause-undone
returns-in_default-write_through-clause-undone g c told =
    let j = c.self.inside in let K = g.D.Disk in
    let phase_is = ap (λ s. s.story.phase) c.self.view_is ∙ c.requires.stands in
    let kept = subst (λ p. IsKept K.moment K.seen K.may_leave K.left_since (story_of K.seen j.disk j.start.value j.first j.gate p)) phase_is (c.self.invariant told) in
    let written = subst (λ t. Holds (K.seen j.disk) (j.gate + 1) t (K.seen c.write_through.new.disk)) (c.deref.ensures.value ∙ c.write_text.ensures.text) (c.in-Ok.ensures.written told) in
    undecided_added K.moment K.seen K.may_leave K.left_since (g.met.D.Disk.reads told) (g.met.D.Disk.counts_now told) (g.met.D.Disk.only_now told) j.start.value j.disk j.first j.gate kept
    c.write_through.new.disk _ (c.write_through.ensures.moments told) (c.write_through.ensures.now told) c.args.body.now c.requires.body written
    c.write_through-2.new.disk (c.write_through-2.ensures.moments told) (c.write_through-2.ensures.now told)
    ∙ ap (λ s. s.story.added) c.self.view_is

pub returns-in_default-write_through-clause-pending : goal.returns-in_default-write_through-clause-pending
returns-in_default-write_through-clause-pending g c told =
    let j = c.self.inside in let K = g.D.Disk in
    let phase_is = ap (λ s. s.story.phase) c.self.view_is ∙ c.requires.stands in
    let kept = subst (λ p. IsKept K.moment K.seen K.may_leave K.left_since (story_of K.seen j.disk j.start.value j.first j.gate p)) phase_is (c.self.invariant told) in
    let written = subst (λ t. Holds (K.seen j.disk) (j.gate + 1) t (K.seen c.write_through.new.disk)) (c.deref.ensures.value ∙ c.write_text.ensures.text) (c.in-Ok.ensures.written told) in
    inr (undecided_pending K.moment K.seen K.may_leave K.left_since (g.met.D.Disk.reads told) (g.met.D.Disk.counts_now told) (g.met.D.Disk.only_now told) j.start.value j.disk j.first j.gate kept
    c.write_through.new.disk _ (c.write_through.ensures.moments told) (c.write_through.ensures.now told) c.args.body.now c.requires.body written
    c.write_through-2.new.disk (c.write_through-2.ensures.moments told) (c.write_through-2.ensures.now told))

pub invariant_of-self-2 : goal.invariant_of-self-2
invariant_of-self-2 g c told =
    let j = c.self.inside in let K = g.D.Disk in
    let phase_is = ap (λ s. s.story.phase) c.self.view_is ∙ c.requires.stands in
    let kept = subst (λ p. IsKept K.moment K.seen K.may_leave K.left_since (story_of K.seen j.disk j.start.value j.first j.gate p)) phase_is (c.self.invariant told) in
    let written = subst (λ t. Holds (K.seen j.disk) (j.gate + 1) t (K.seen c.write_through.new.disk)) (c.deref.ensures.value ∙ c.write_text.ensures.text) (c.in-Ok.ensures.written told) in
    subst (λ p. IsKept K.moment K.seen K.may_leave K.left_since (story_of K.seen c.write_through-2.new.disk j.start.value j.first (j.gate + (5 + length c.args.body.now)) p)) (sym phase_is)
    (grown K.moment K.seen K.may_leave K.left_since (g.met.D.Disk.reads told) (g.met.D.Disk.counts_now told) (g.met.D.Disk.only_now told) j.start.value j.disk j.first j.gate kept
    c.write_through.new.disk _ (c.write_through.ensures.moments told) (c.write_through.ensures.now told) c.args.body.now c.requires.body written
    c.write_through-2.new.disk (c.write_through-2.ensures.moments told) (c.write_through-2.ensures.now told)
    (c.in-Ok-write_through.ensures.written told) (c.in-Ok-write_through.ensures.durable told))

pub returns-clause-kept : goal.returns-clause-kept
returns-clause-kept g c told =
    let j = c.self.inside in let K = g.D.Disk in
    let phase_is = ap (λ s. s.story.phase) c.self.view_is ∙ c.requires.stands in
    let kept = subst (λ p. IsKept K.moment K.seen K.may_leave K.left_since (story_of K.seen j.disk j.start.value j.first j.gate p)) phase_is (c.self.invariant told) in
    let written = subst (λ t. Holds (K.seen j.disk) (j.gate + 1) t (K.seen c.write_through.new.disk)) (c.deref.ensures.value ∙ c.write_text.ensures.text) (c.in-Ok.ensures.written told) in (
      grown_added K.moment K.seen K.may_leave K.left_since (g.met.D.Disk.reads told) (g.met.D.Disk.counts_now told) (g.met.D.Disk.only_now told) j.start.value j.disk j.first j.gate kept
          c.write_through.new.disk _ (c.write_through.ensures.moments told) (c.write_through.ensures.now told) c.args.body.now c.requires.body written
          c.write_through-2.new.disk (c.write_through-2.ensures.moments told) (c.write_through-2.ensures.now told)
          (c.in-Ok-write_through.ensures.written told) (c.in-Ok-write_through.ensures.durable told)
          ∙ ap (λ a. a ++ c.args.body.now ∷ []) (ap (λ s. s.story.added) c.self.view_is),
      ap (λ p. pending_of (K.seen c.write_through-2.new.disk) (j.gate + (5 + length c.args.body.now)) p) phase_is,
    )

pub returns-clause-now : goal.returns-clause-now
returns-clause-now g c told =
    let j = c.self.inside in let K = g.D.Disk in
    let phase_is = ap (λ s. s.story.phase) c.self.view_is ∙ c.requires.stands in
    let kept = subst (λ p. IsKept K.moment K.seen K.may_leave K.left_since (story_of K.seen j.disk j.start.value j.first j.gate p)) phase_is (c.self.invariant told) in
    let written = subst (λ t. Holds (K.seen j.disk) (j.gate + 1) t (K.seen c.write_through.new.disk)) (c.deref.ensures.value ∙ c.write_text.ensures.text) (c.in-Ok.ensures.written told) in
    subst (λ s. Within (K.may_leave c.write_through-2.new.disk) (Reads (s.story.base ++ (s.story.added ++ c.args.body.now ∷ [])))) c.self.view_is
    (grown_now K.moment K.seen K.may_leave K.left_since (g.met.D.Disk.reads told) (g.met.D.Disk.counts_now told) (g.met.D.Disk.only_now told) j.start.value j.disk j.first j.gate kept
    c.write_through.new.disk _ (c.write_through.ensures.moments told) (c.write_through.ensures.now told) c.args.body.now c.requires.body written
    c.write_through-2.new.disk (c.write_through-2.ensures.moments told) (c.write_through-2.ensures.now told)
    (c.in-Ok-write_through.ensures.written told) (c.in-Ok-write_through.ensures.durable told))

pub returns-in_default-clause-any_moment : goal.returns-in_default-clause-any_moment
returns-in_default-clause-any_moment g c told =
    let j = c.self.inside in let K = g.D.Disk in
    let phase_is = ap (λ s. s.story.phase) c.self.view_is ∙ c.requires.stands in
    let kept = subst (λ p. IsKept K.moment K.seen K.may_leave K.left_since (story_of K.seen j.disk j.start.value j.first j.gate p)) phase_is (c.self.invariant told) in
    subst (λ s. LeavesOnly K.moment K.left_since s.story.disk c.write_through.new.disk (IsAllBut (s.story.base ++ s.story.added) (c.args.body.now ∷ []))) c.self.view_is
    (fallen_moments K.moment K.seen K.may_leave K.left_since (g.met.D.Disk.reads told) (g.met.D.Disk.counts_now told) (g.met.D.Disk.only_now told) j.start.value j.disk j.first j.gate kept
    c.write_through.new.disk _ (c.write_through.ensures.moments told) (c.write_through.ensures.now told) c.args.body.now)

pub returns-in_default-write_through-clause-any_moment : goal.returns-in_default-write_through-clause-any_moment
returns-in_default-write_through-clause-any_moment g c told =
    let j = c.self.inside in let K = g.D.Disk in
    let phase_is = ap (λ s. s.story.phase) c.self.view_is ∙ c.requires.stands in
    let kept = subst (λ p. IsKept K.moment K.seen K.may_leave K.left_since (story_of K.seen j.disk j.start.value j.first j.gate p)) phase_is (c.self.invariant told) in
    let written = subst (λ t. Holds (K.seen j.disk) (j.gate + 1) t (K.seen c.write_through.new.disk)) (c.deref.ensures.value ∙ c.write_text.ensures.text) (c.in-Ok.ensures.written told) in
    subst (λ s. LeavesOnly K.moment K.left_since s.story.disk c.write_through-2.new.disk (IsAllBut (s.story.base ++ s.story.added) (c.args.body.now ∷ []))) c.self.view_is
    (both_moments K.moment K.seen K.may_leave K.left_since (g.met.D.Disk.reads told) (g.met.D.Disk.counts_now told) (g.met.D.Disk.only_now told) j.start.value j.disk j.first j.gate kept
    c.write_through.new.disk _ (c.write_through.ensures.moments told) (c.write_through.ensures.now told) c.args.body.now c.requires.body written
    c.write_through-2.new.disk (c.write_through-2.ensures.moments told) (c.write_through-2.ensures.now told))

pub returns-clause-any_moment : goal.returns-clause-any_moment
returns-clause-any_moment g c told =
    let j = c.self.inside in let K = g.D.Disk in
    let phase_is = ap (λ s. s.story.phase) c.self.view_is ∙ c.requires.stands in
    let kept = subst (λ p. IsKept K.moment K.seen K.may_leave K.left_since (story_of K.seen j.disk j.start.value j.first j.gate p)) phase_is (c.self.invariant told) in
    let written = subst (λ t. Holds (K.seen j.disk) (j.gate + 1) t (K.seen c.write_through.new.disk)) (c.deref.ensures.value ∙ c.write_text.ensures.text) (c.in-Ok.ensures.written told) in
    subst (λ s. LeavesOnly K.moment K.left_since s.story.disk c.write_through-2.new.disk (IsAllBut (s.story.base ++ s.story.added) (c.args.body.now ∷ []))) c.self.view_is
    (both_moments K.moment K.seen K.may_leave K.left_since (g.met.D.Disk.reads told) (g.met.D.Disk.counts_now told) (g.met.D.Disk.only_now told) j.start.value j.disk j.first j.gate kept
    c.write_through.new.disk _ (c.write_through.ensures.moments told) (c.write_through.ensures.now told) c.args.body.now c.requires.body written
    c.write_through-2.new.disk (c.write_through-2.ensures.moments told) (c.write_through-2.ensures.now told))

pub returns-clause-text : goal.returns-clause-text
returns-clause-text g c told =
    let j = c.self.inside in let K = g.D.Disk in
    let phase_is = ap (λ s. s.story.phase) c.self.view_is ∙ c.requires.stands in
    let kept = subst (λ p. IsKept K.moment K.seen K.may_leave K.left_since (story_of K.seen j.disk j.start.value j.first j.gate p)) phase_is (c.self.invariant told) in
    let written = subst (λ t. Holds (K.seen j.disk) (j.gate + 1) t (K.seen c.write_through.new.disk)) (c.deref.ensures.value ∙ c.write_text.ensures.text) (c.in-Ok.ensures.written told) in
    let added = grown_added K.moment K.seen K.may_leave K.left_since (g.met.D.Disk.reads told) (g.met.D.Disk.counts_now told) (g.met.D.Disk.only_now told) j.start.value j.disk j.first j.gate kept
    c.write_through.new.disk _ (c.write_through.ensures.moments told) (c.write_through.ensures.now told) c.args.body.now c.requires.body written
    c.write_through-2.new.disk (c.write_through-2.ensures.moments told) (c.write_through-2.ensures.now told)
    (c.in-Ok-write_through.ensures.written told) (c.in-Ok-write_through.ensures.durable told) in
    subst (λ (l : List (List ℕ)). BeginsAsJournal (records_of (take j.first (K.seen j.start.value)) ++ l) (K.seen c.write_through-2.new.disk)) (sym added)
    (grown_text K.moment K.seen K.may_leave K.left_since (g.met.D.Disk.reads told) (g.met.D.Disk.counts_now told) (g.met.D.Disk.only_now told) j.start.value j.disk j.first j.gate kept
    c.write_through.new.disk _ (c.write_through.ensures.moments told) (c.write_through.ensures.now told) c.args.body.now c.requires.body written
    c.write_through-2.new.disk (c.write_through-2.ensures.moments told) (c.write_through-2.ensures.now told)
    (c.in-Ok-write_through.ensures.written told) (c.in-Ok-write_through.ensures.durable told))
