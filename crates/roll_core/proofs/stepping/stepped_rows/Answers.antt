use Rattle.roll_core.proofs.Words.{arith, Bor, List, ℤ, option_map, ◌≡◌, ◌∙◌, Some, add-one, ap, sym, slice_get, common_steps, Value, stepped_values}
use Rattle.roll_core.proofs.Words.finite
use Rattle.roll_core.proofs.Stepped.{none_past, none_stored, stepped_next, stepped_whole}
use Rattle.roll_core.proofs.stepping.stepped_rows.Goals as goal
use Rattle.roll_core.proofs.stepping.stepped_rows.Goals.{else-loop-at-test, then-loop-at-test+in_default}

pub loop-at-init : goal.loop-at-init
loop-at-init c = none_stored c.new-stepped.result.rows c.new-stepped.ensures

pub loop-at-preserved : goal.loop-at-preserved
loop-at-preserved c =
    let rows = finite.entries c.args.rows.now.rows in
    let got : slice_get rows c.loop-at.at ≡ Some (c.in-Some.key, c.in-Some.values.now) = sym c.in-Some.ensures in
    let put : c.put.new.rows.rows ≡ finite.insert c.loop-at.stepped.rows c.in-Some.key (stepped_values c.args.form.now c.in-Some.values.now) = grind (arith, common_steps, c.in_ok-put.ensures, c.in_ok-values.ensures) in
    let next = stepped_next c.args.form.now c.args.rows.now.rows c.loop-at.stepped.rows c.put.new.rows.rows c.loop-at.at c.in-Some.key c.in-Some.values.now c.loop-at.invariant got put in
    rw add-one next

pub returns : goal.returns
returns c =
    let rows = c.args.rows.now.rows in
    elim c.loop-at-test.branch [
      | else-loop-at-test w ↦ stepped_whole c.args.form.now rows c.loop-at.stepped.rows c.loop-at.at c.loop-at.invariant (omega (arith, c.len-at-end.ensures))
      | then-loop-at-test+in_default w ↦ absurd (none_past (finite.entries rows) c.loop-at.at (sym w.at.ensures ∙ ap (option_map (λ (e : ℤ × Bor (List Value)). (e.0, e.1.now))) w.in_default.is) (omega (arith, w.loop-at-test.true, c.len-at-end.ensures, finite.len-entries rows)))
    ]
