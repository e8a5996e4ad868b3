use Rattle.std.proofs.Common.{arith}
use Rattle.journal_rec.proofs.Bodies.{found, only, bad}
use Rattle.journal_rec.proofs.reading.read_record.Goals as goal

pub returns-clause-found : goal.returns-clause-found
returns-clause-found c = found c.args.body.now c.record_of.result (λ i. omega (arith, c.type_inv.body i)) c.record_of.ensures

pub returns-clause-only : goal.returns-clause-only
returns-clause-only c = only c.args.body.now c.record_of.result c.record_of.ensures

pub returns-clause-bad : goal.returns-clause-bad
returns-clause-bad c = bad c.args.body.now c.record_of.result c.record_of.ensures
