use Rattle.std.proofs.Common.{◌≡◌, ◌<◌, ℕ, List, [], ◌∷◌, ◌++◌, sym, ◌∙◌, subst, arith}
use Rattle.latch.specs.Lists.{times}
use Rattle.latch.specs.Seats.{places, seen}
use Rattle.latch_tests.proofs.Own.{finish}
use Rattle.latch_tests.proofs.callers.add_by_two.Goals as goal

pub returns-clause-first : goal.returns-clause-first
returns-clause-first g c =
    let old = c.in_ok-latch.ensures in let a = c.join-one.ensures.first in let b = c.join-one.ensures.second in
    let all : places c.join.new.kept ≡ 0 ∷ 1 ∷ [] = c.join.ensures.places ∙ (λ i. a.still.one i ++ b.still.one i) in
    finish 0 c.args.first.now _ (places c.join.new.kept) _ _ (seen c.join.new.kept) _ c.join-one.result.0.1 (old.first.has_seen ∙ c.requires) a.still.one (subst (λ (ps : List ℕ). 0 < times 0 ps) (sym all) (omega arith))
    a.adds c.join.ensures.kept_begins c.close-desk.ensures.begins

pub returns-clause-second : goal.returns-clause-second
returns-clause-second g c =
    let old = c.in_ok-latch.ensures in let a = c.join-one.ensures.first in let b = c.join-one.ensures.second in
    let all : places c.join.new.kept ≡ 0 ∷ 1 ∷ [] = c.join.ensures.places ∙ (λ i. a.still.one i ++ b.still.one i) in
    finish 1 c.args.second.now _ (places c.join.new.kept) _ _ (seen c.join.new.kept) _ c.join-one.result.1.1 (old.second.has_seen ∙ c.requires) b.still.one (subst (λ (ps : List ℕ). 0 < times 1 ps) (sym all) (omega arith))
    b.adds c.join.ensures.seat_begins c.close-desk.ensures.begins
