use Rattle.std.proofs.Common.{◌≡◌, ◌-◌, suc, length, refl, arith}
use Rattle.script_text.proofs.Growing.{text_set}
use Rattle.script_text.proofs.blocks.add_text.Goals as goal

pub returns-in_ok-push : goal.returns-in_ok-push
returns-in_ok-push c =
    let lanes = c.args.lanes.now in
    let some : length lanes.items ≡ suc (lanes.len - 1) = omega (arith, c.in-Some.ensures.variant.0 refl, lanes.ok.0) in
    rw c.in_ok-push.ensures.ok (text_set lanes.items c.args.text c.in-Some.lane.now (lanes.len - 1) some c.in-Some.ensures.value)
