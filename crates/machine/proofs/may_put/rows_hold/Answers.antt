use Rattle.std.proofs.Common.{◌≡◌, ◌∙◌, ◌+◌, ◌-◌, ◌∷◌, ◌&&◌, true, ap, sym, arith, drop, length, take}
use Rattle.std.proofs.lemmas.Grind.{common_steps}
use Rattle.std.proofs.lemmas.List.{take_rest}
use Rattle.std.specs.List.{list_all}
use Rattle.machine.specs.MayPut.{may_hold, rows_left}
use Rattle.machine.specs.PutSteps.{left_holds}
use Rattle.machine.proofs.PutLooks.{left_step}
use Rattle.machine.proofs.may_put.rows_hold.Goals as goal

pub loop-at-preserved : goal.loop-at-preserved
loop-at-preserved c =
    let s = c.args.frame.now in
    let number = c.args.number in
    let all = c.args.changes.now in
    let at = c.loop-at.at in
    let change = c.index-changes-at.result in
    let later = drop (at + 1) all in
    let first : drop at all ≡ change ∷ later = grind (arith, common_steps, c.index-changes-at.is) in
    let rest : take (length all - (at + 1)) later ≡ later = take_rest all (at + 1) in
    let holds : left_holds s number change later ≡ true = ap (left_holds s number change) (sym rest) ∙ sym c.in_ok-left_holds.ensures ∙ c.if-not-branch.false in
    sym (ap (λ b. b && list_all (may_hold s number) (rows_left later)) holds) ∙ sym (left_step s number change later)
    ∙ ap (λ some. list_all (may_hold s number) (rows_left some)) (sym first) ∙ c.loop-at.invariant
