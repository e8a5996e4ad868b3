use Rattle.std.proofs.Common.{arith}
use Rattle.std.proofs.lemmas.Bool.Decides.{nat_tests}
use Rattle.machine.proofs.PutLooks.{few_come}
use Rattle.machine.proofs.may_put.too_many.Goals as goal

pub returns-then-not-passes_limit : goal.returns-then-not-passes_limit
returns-then-not-passes_limit g c =
    let few = few_come (g.T.TableRows.rows c.args.older.now) c.args.changes.now in
    grind (arith, nat_tests, few)
