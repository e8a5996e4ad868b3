use Rattle.std.proofs.Common.{◌∙◌}
use Rattle.latch_tests.proofs.Many.{two_seats}
use Rattle.latch_tests.proofs.callers.open_both.Goals as goal

pub returns-clause-first : goal.returns-clause-first
returns-clause-first c = let h = c.in_ok-latch.ensures in
    let two = two_seats _ _ _ c.in-Some-Some.first c.in-Some-Some.second _ _ c.in-Some-Some.is-0 c.in-Some-Some.is-1 c.pop-second.ensures.items c.pop-first.ensures.items (h.seats.long ∙ h.latch.1) in
    h.seats.each 0 c.in-Some-Some.first two.0

pub returns-clause-second : goal.returns-clause-second
returns-clause-second c = let h = c.in_ok-latch.ensures in
    let two = two_seats _ _ _ c.in-Some-Some.first c.in-Some-Some.second _ _ c.in-Some-Some.is-0 c.in-Some-Some.is-1 c.pop-second.ensures.items c.pop-first.ensures.items (h.seats.long ∙ h.latch.1) in
    h.seats.each 1 c.in-Some-Some.second two.1
