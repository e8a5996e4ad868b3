use Rattle.std.proofs.Common.{◌≤◌, length, arith, rules}
use Rattle.std.proofs.lemmas.Grind.{common_steps}
use Rattle.row_rules.proofs.Calls.{zip_past}
use Rattle.row_rules.proofs.inserting.values_error.Goals as goal

pub returns-in-None : goal.returns-in-None
returns-in-None c =
    let past : length c.args.row.now ≤ c.loop-at.at = search rules in
    let rest = zip_past c.args.places.now c.args.row.now c.loop-at.at past in
    grind (arith, common_steps, rw rest at c.loop-at.invariant)
