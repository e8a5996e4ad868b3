use Rattle.std.proofs.Common.{◌≡◌, take, rules, sym, ◌∙◌, ap, subst}
use Rattle.pg_io.specs.Disk.{Only}
use Rattle.journal.specs.Records.{head}
use Rattle.journal.specs.Story.{story_of, IsKept}
use Rattle.journal.specs.declared.stage.Phase.TheVariants.{Reading}
use Rattle.journal.proofs.Moments.{still_twice}
use Rattle.journal.proofs.Scanning.{attached}
use Rattle.journal.proofs.gates.Journal.attach.Goals as goal

pub invariant_of-result : goal.invariant_of-result
invariant_of-result g c told =
    let K = g.D.Disk in let s = c.sync.new.self in let l = c.len.new.self in let d = c.read_at.new.self in
    let counts_now = g.met.D.Disk.counts_now told in let only_now = g.met.D.Disk.only_now told in
    let only = subst (λ f. Only f (K.may_leave s)) (sym (c.sync.ensures.seen told)) (c.in-Ok.ensures.durable told) in
    let still = still_twice K.moment K.seen K.may_leave K.left_since counts_now only_now s l d (c.len.ensures.still told) (c.read_at.ensures.still told) in
    let is_head : c.read_at.new.buf ≡ head = search rules in
    let begins : take 8 (K.seen s) ≡ head = ap (λ f. take 8 f) (sym (c.len.ensures.still told).same) ∙ sym (c.in-Ok-read_at.ensures.bytes told) ∙ is_head in
    subst (λ start. IsKept K.moment K.seen K.may_leave K.left_since (story_of K.seen d start 8 8 Reading)) (sym c.of-start.ensures)
    (attached K.moment K.seen K.may_leave K.left_since only_now s d only still begins)
