use Rattle.std.proofs.Common.{◌≡◌, ◌∙◌, Some, None, refl, sym, drop, arith}
use Rattle.std.proofs.lemmas.Fn.{says_at}
use Rattle.std.proofs.lemmas.Grind.{common_steps}
use Rattle.row_rules.specs.Outcome.{first_some}
use Rattle.row_rules.proofs.outcomes.try_first.Goals as goal

pub returns-in-Ok-Some : goal.returns-in-Ok-Some
returns-in-Ok-Some g c h computes =
    let now : Some c.in-Ok-Some.found ≡ h c.x-item.result = sym c.in-Ok-Some.field-0-is ∙ computes _ _ (says_at g.F.Fn c.in-Ok-Some.ensures refl) in
    let before : first_some h (drop c.loop-x.x-index c.args.xs.now) ≡ first_some h c.args.xs.now = c.loop-x.invariant h computes in
    grind (arith, common_steps, now, before)

pub loop-x-preserved : goal.loop-x-preserved
loop-x-preserved g c h computes =
    let now : None ≡ h c.x-item.result = sym c.in-Ok-None.field-0-is ∙ computes _ _ (says_at g.F.Fn c.in-Ok-None.ensures refl) in
    let before : first_some h (drop c.loop-x.x-index c.args.xs.now) ≡ first_some h c.args.xs.now = c.loop-x.invariant h computes in
    grind (arith, common_steps, now, before)
