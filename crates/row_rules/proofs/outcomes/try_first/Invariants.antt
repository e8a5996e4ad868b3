use Rattle.std.proofs.Common.{◌≡◌, Ok, Option, drop}
use Rattle.std.specs.Fn.{FnReturnsAt}
use Rattle.row_rules.specs.Outcome.{first_some}
use Rattle.row_rules.proofs.outcomes.try_first.Given as goal

abbrev pub invariant-loop-x : goal.invariant-loop-x
invariant-loop-x g l =
    (h : g.row.A.Denot → Option g.row.B.Denot) → ((x : g.row.A.Denot) (y : Option g.row.B.Denot) → FnReturnsAt g.F.Fn l.f x (Ok y) → y ≡ h x)
    → first_some h (drop l.x-index l.xs) ≡ first_some h l.xs
