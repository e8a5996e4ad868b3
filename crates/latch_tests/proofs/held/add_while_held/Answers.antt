use Rattle.std.proofs.Common.{◌≡◌, ◌<◌, ℕ, List, [], ◌∷◌, ◌++◌, sym, ◌∙◌, subst, arith}
use Rattle.latch.specs.Lists.{times}
use Rattle.latch.specs.Seats.{places, seen}
use Rattle.latch_tests.proofs.Own.{finish}
use Rattle.latch_tests.proofs.held.add_while_held.Goals as goal

pub returns-clause-added : goal.returns-clause-added
returns-clause-added g c =
    let old = c.in_ok-latch.ensures in let a = c.join-kept.ensures.first in let b = c.join-kept.ensures.second in
    let all : places c.join.new.kept ≡ 0 ∷ 1 ∷ [] = c.join.ensures.places ∙ (λ i. a.one i ++ b.still.one i) in
    finish 1 c.args.amounts.now _ (places c.join.new.kept) _ _ (seen c.join.new.kept) _ c.join-kept.result.1.1 (old.second.has_seen ∙ c.requires) b.still.one (subst (λ (ps : List ℕ). 0 < times 1 ps) (sym all) (omega arith))
    b.adds c.join.ensures.seat_begins c.close-desk.ensures.begins
