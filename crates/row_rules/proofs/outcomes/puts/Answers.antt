use Rattle.std.proofs.Common.{◌≡◌, ◌+◌, ◌∷◌, Ok, Err, drop, map, refl, subst, arith}
use Rattle.std.proofs.lemmas.Fn.{says_at}
use Rattle.std.proofs.lemmas.Grind.{common_steps}
use Rattle.sql_base.specs.Outcome.{every}
use Rattle.row_rules.proofs.Calls.{after, goes_on, stops_at}
use Rattle.row_rules.specs.Changes.{put_all}
use Rattle.row_rules.specs.Outcome.{Answers}
use Rattle.row_rules.proofs.outcomes.puts.Goals as goal

pub returns-in-Err : goal.returns-in-Err
returns-in-Err g c h answers =
    let x = c.x-item.result in
    let rest = drop (c.loop-x.x-index + 1) c.args.xs.now in
    let here : drop c.loop-x.x-index c.args.xs.now ≡ x ∷ rest = grind (arith, common_steps, c.x-item.is) in
    let before : after c.loop-x.puts (put_all (every (map h (drop c.loop-x.x-index c.args.xs.now)))) ≡ put_all (every (map h c.args.xs.now)) = c.loop-x.invariant h answers in
    let now = stops_at h x rest c.loop-x.puts c.in-Err.stop (answers _ _ (says_at g.F.Fn c.in-Err.ensures refl)) in
    subst (λ wanted. Answers wanted (Err c.in-Err.stop)) (rw here at before) now

pub loop-x-preserved : goal.loop-x-preserved
loop-x-preserved g c h answers =
    let x = c.x-item.result in
    let rest = drop (c.loop-x.x-index + 1) c.args.xs.now in
    let here : drop c.loop-x.x-index c.args.xs.now ≡ x ∷ rest = grind (arith, common_steps, c.x-item.is) in
    let before : after c.loop-x.puts (put_all (every (map h (drop c.loop-x.x-index c.args.xs.now)))) ≡ put_all (every (map h c.args.xs.now)) = c.loop-x.invariant h answers in
    let now : h x ≡ Ok c.in-Ok.row = answers _ _ (says_at g.F.Fn c.in-Ok.ensures refl) in
    let before_here = rw here at before in
    let step = goes_on h x rest c.loop-x.puts c.in-Ok.row now in
    grind (arith, common_steps, before_here, step)
