use Rattle.std.proofs.Common.{◌≡◌, ◌++◌, Ok, Result, drop, map}
use Rattle.std.specs.Fn.{FnReturnsAt}
use Rattle.sql_base.specs.Outcome.{and_then, every}
use Rattle.row_rules.specs.Changes.{put_all}
use Rattle.row_rules.specs.Outcome.{Answers}
use Rattle.row_rules.specs.Words.{Cause, Kept}
use Rattle.row_rules.specs.declared.stops.Stop.{Stop}
use Rattle.row_rules.proofs.outcomes.puts.Given as goal

abbrev pub invariant-loop-x : goal.invariant-loop-x
invariant-loop-x g l =
    (h : g.row.A.Denot → Result Kept Cause) → ((x : g.row.A.Denot) (r : Result Kept (Stop Cause)) → FnReturnsAt g.F.Fn l.f x r → Answers (h x) r)
    → and_then (put_all (every (map h (drop l.x-index l.xs)))) (λ rest. Ok (l.puts ++ rest)) ≡ put_all (every (map h l.xs))
