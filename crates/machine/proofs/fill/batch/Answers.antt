use Rattle.std.proofs.Common.{subst}
use Rattle.row_rules.specs.Outcome.{Answers}
use Rattle.row_rules.specs.Site.{name_of}
use Rattle.machine.specs.Migrate.{batch_settled, refused_batch}
use Rattle.machine.specs.Plain.{pair, replied}
use Rattle.machine.proofs.Replying.{answers_next}
use Rattle.machine.proofs.fill.batch.Goals as goal

pub returns-in-Ok : goal.returns-in-Ok
returns-in-Ok c =
    let h = subst (λ all. Answers (replied (batch_settled c.args.s.now (pair c.args.pair) all)) c.batch_settled.result) c.as_slice.ensures c.batch_settled.ensures in
    answers_next _ (refused_batch (name_of c.args.pair.new.now)) (batch_settled c.args.s.now (pair c.args.pair)) _ _ c.in-Ok.ensures h
