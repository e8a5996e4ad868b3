use Rattle.std.proofs.Common.{◌≡◌, ◌+◌, arith}
use Rattle.std.proofs.lemmas.Grind.{common_steps}
use Rattle.row_gen.proofs.Turns.{no_more_people, one_more_person}
use Rattle.row_gen.proofs.making.push_people.Goals as goal

pub loop-key-preserved : goal.loop-key-preserved
loop-key-preserved c =
    let turn = one_more_person c.loop-key.out.items c.loop-key.draws.state c.loop-key.key (c.args.rows + 1) c.loop-key-test.true in
    grind (arith, common_steps, turn)

pub returns : goal.returns
returns c =
    let last : c.loop-key.key ≡ c.args.rows + 1 = omega arith in
    let none = no_more_people c.loop-key.draws.state c.args.rows in
    grind (arith, common_steps, last, none)
