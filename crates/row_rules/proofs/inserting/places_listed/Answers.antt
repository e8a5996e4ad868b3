use Rattle.std.proofs.Common.{◌≡◌, ◌+◌, ◌∷◌, ◌++◌, Ok, Err, drop, map, subst, arith}
use Rattle.std.proofs.lemmas.Grind.{common_steps}
use Rattle.std.specs.List.{enumerate_from}
use Rattle.sql_base.specs.Outcome.{and_then, every}
use Rattle.row_rules.proofs.Calls.{every_stops}
use Rattle.row_rules.specs.Outcome.{Answers}
use Rattle.row_rules.specs.Settle.{named_once}
use Rattle.row_rules.proofs.inserting.places_listed.Goals as goal

pub returns-in-Err : goal.returns-in-Err
returns-in-Err c =
    let xs = c.args.names.now in
    let at = c.loop-at.at in
    let f = named_once c.args.shape.now c.args.names.now in
    let first : drop at xs ≡ c.index-names-at.result ∷ drop (at + 1) xs = grind (arith, common_steps, c.index-names-at.is) in
    let before : and_then (every (map f (enumerate_from at (drop at xs)))) (λ rest. Ok (c.loop-at.places ++ rest)) ≡ every (map f (enumerate_from 0 xs)) = c.loop-at.invariant in
    let now = every_stops f (at, c.index-names-at.result) (enumerate_from (at + 1) (drop (at + 1) xs)) c.loop-at.places c.in-Err.stop c.in-Err.ensures in
    let known = rw first at before in
    subst (λ wanted. Answers wanted (Err c.in-Err.stop)) known now
