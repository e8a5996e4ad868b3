use Rattle.roll_core.proofs.Words.{ap, map, batch_at, seen}
use Rattle.roll_core.proofs.Filling.{none_filled}
use Rattle.roll_core.proofs.batch.fill_first.Goals as goal

pub returns-in-None : goal.returns-in-None
returns-in-None c =
    let tables = map seen c.args.tables.now in
    none_filled c.args.frame.now tables (batch_at c.args.frame.now tables c.args.first c.args.n) c.requires.runs (ap (λ first. batch_at c.args.frame.now tables first c.args.n) c.in-None.is)
