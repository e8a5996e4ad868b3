use Rattle.roll_core.proofs.commands.outcome.Goals as goal

pub returns-in-Start-clause-goes : goal.returns-in-Start-clause-goes
returns-in-Start-clause-goes c = rw c.in-Start.is (c.start.ensures.goes c.args.former.now)
