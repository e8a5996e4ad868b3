use Rattle.std.proofs.Common.{◌≡◌, ◌∙◌, ◌+◌, ◌-◌, ◌∷◌, ap, sym, arith, drop, length, take}
use Rattle.std.proofs.lemmas.Grind.{common_steps}
use Rattle.std.proofs.lemmas.List.{take_rest}
use Rattle.machine.specs.MayPut.{rows_gone}
use Rattle.machine.specs.PutSteps.{takes}
use Rattle.machine.proofs.LastChanges.{one}
use Rattle.machine.proofs.PutLooks.{gone_step}
use Rattle.machine.proofs.may_put.rows_gone.Goals as goal
use Rattle.machine.proofs.may_put.rows_gone.Goals.{then-takes, else-takes}

pub loop-at-preserved : goal.loop-at-preserved
loop-at-preserved g c =
    let older = g.T.TableRows.rows c.args.older.now in
    let all = c.args.changes.now in
    let at = c.loop-at.at in
    let change = c.index-changes-at.result in
    let later = drop (at + 1) all in
    let first : drop at all ≡ change ∷ later = grind (arith, common_steps, c.index-changes-at.is) in
    let rest : take (length all - (at + 1)) later ≡ later = take_rest all (at + 1) in
    let step = ap (rows_gone older) first ∙ gone_step older change later in
    let taken : c.takes.result ≡ takes older change later = c.takes.ensures ∙ ap (takes older change) rest in
    let counted : rows_gone older (drop at all) ≡ one c.takes.result + rows_gone older later = step ∙ ap (λ b. one b + rows_gone older later) (sym taken) in
    elim c.if-takes.branch [
      | then-takes w ↦
          let is : one c.takes.result ≡ 1 = ap one w.if-takes.true in
          (omega (arith, counted, is), omega arith)
      | else-takes w ↦
          let is : one c.takes.result ≡ 0 = ap one w.if-takes.false in
          (omega (arith, counted, is), omega arith)
    ]
