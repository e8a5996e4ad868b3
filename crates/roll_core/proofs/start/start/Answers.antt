use Rattle.roll_core.proofs.start.start.Goals as goal

pub returns-in-Read-clause-goes : goal.returns-in-Read-clause-goes
returns-in-Read-clause-goes c former = rw c.in-Read.is (c.start_read.ensures.goes former)
