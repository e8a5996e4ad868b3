use Rattle.std.proofs.Common.{[], ◌∷◌, ◌++◌, sym, ◌∙◌, subst}
use Rattle.pg_io.specs.Disk.{Holds, Only}
use Rattle.journal.specs.Records.{head}
use Rattle.journal.specs.Story.{story_of, IsKept}
use Rattle.journal.specs.declared.stage.Phase.TheVariants.{Standing}
use Rattle.journal.proofs.Beginning.{begun}
use Rattle.journal.proofs.gates.Journal.create.Goals as goal

pub invariant_of-result : goal.invariant_of-result
invariant_of-result g c told =
    let K = g.D.Disk in let d1 = c.write_at.new.self in let d2 = c.sync.new.self in
    let written = subst (λ f. Holds f 0 (head ++ 0 ∷ []) (K.seen d1)) (c.requires.empty told) (c.in-Ok.ensures.written told) in
    let only = subst (λ f. Only f (K.may_leave d2)) (sym (c.sync.ensures.seen told)) (c.in-Ok-sync.ensures.durable told) in
    subst (λ s. IsKept K.moment K.seen K.may_leave K.left_since (story_of K.seen d2 s 8 8 Standing)) (sym c.of-start.ensures)
    (begun K.moment K.seen K.may_leave K.left_since (g.met.D.Disk.only_now told) d2 (c.sync.ensures.seen told ∙ written) only)
