use Rattle.std.proofs.Common.{◌≡◌, ◌+◌, ◌∷◌, ◌++◌, Ok, Err, drop, map, subst, arith}
use Rattle.std.proofs.lemmas.Grind.{common_steps}
use Rattle.std.specs.List.{enumerate_from}
use Rattle.sql_base.specs.Outcome.{and_then, every}
use Rattle.row_rules.proofs.Calls.{every_stops}
use Rattle.row_rules.specs.Outcome.{Answers}
use Rattle.row_rules.specs.Settle.{set_settled}
use Rattle.row_rules.proofs.settling.all_settled.Goals as goal

pub returns-in-Err : goal.returns-in-Err
returns-in-Err c =
    let xs = c.args.sets.now in
    let at = c.loop-at.at in
    let f = set_settled c.args.shape.now c.args.names.now in
    let first : drop at xs ≡ c.index-sets-at.result ∷ drop (at + 1) xs = grind (arith, common_steps, c.index-sets-at.is) in
    let before : and_then (every (map f (enumerate_from at (drop at xs)))) (λ rest. Ok (c.loop-at.settled ++ rest)) ≡ every (map f (enumerate_from 0 xs)) = c.loop-at.invariant in
    let now = every_stops f (at, c.index-sets-at.result) (enumerate_from (at + 1) (drop (at + 1) xs)) c.loop-at.settled c.in-Err.stop c.in-Err.ensures in
    let known = rw first at before in
    subst (λ wanted. Answers wanted (Err c.in-Err.stop)) known now
