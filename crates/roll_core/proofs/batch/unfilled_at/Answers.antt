use Rattle.roll_core.proofs.Words.{◌∙◌, sym}
use Rattle.roll_core.proofs.Missing.{found_here}
use Rattle.roll_core.proofs.batch.unfilled_at.Goals as goal

pub returns-then-is_unfilled : goal.returns-then-is_unfilled
returns-then-is_unfilled c =
    found_here c.args.tables.now c.loop-at.at c.index-tables-at.result c.index-tables-at.result c.loop-at-test.true c.index-tables-at.is c.loop-at.invariant (sym c.is_unfilled.ensures ∙ c.if-is_unfilled.true)
