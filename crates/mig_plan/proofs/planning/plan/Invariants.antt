use Rattle.std.proofs.Common.{◌≡◌, drop}
use Rattle.sql_base.specs.Outcome.{and_then}
use Rattle.mig_plan.specs.Plan as spec
use Rattle.mig_plan.proofs.planning.plan.Given as goal

-- what the operations that are left make of the draft so far is what all of them make of the first one
abbrev pub invariant-loop-at : goal.invariant-loop-at
invariant-loop-at l = spec.all_done l.old l.at (drop l.at l.ops) l.draft ≡ and_then (spec.begun l.old l.next_table) (spec.all_done l.old 0 l.ops)
