use Rattle.std.proofs.Common.{ℕ, List, length, ap, ◌∙◌, subst, arith}
use Rattle.latch.specs.Lists.{Begins}
use Rattle.latch.specs.Seats.{width}
use Rattle.latch_tests.specs.declared.desk.Entry.{Entry}
use Rattle.latch_tests.specs.Own.{actor_of}
use Rattle.latch_tests.proofs.Many.{each_one, there_is}
use Rattle.latch_tests.proofs.callers.reopen.Goals as goal

pub close_all-requires-clause-whole : goal.close_all-requires-clause-whole
close_all-requires-clause-whole c = let h = c.in_ok-latch.ensures.seats in each_one width c.in_ok-latch.field-0.seats.items (λ k s e. ap length (h.each k s e).has_place) ∙ h.long

pub returns-clause-list : goal.returns-clause-list
returns-clause-list c place low = let h = c.in_ok-latch.ensures in
    let seat = there_is c.in_ok-latch.field-0.seats.items place (let l = h.seats.long in let n = h.latch.1 in omega arith) in
    let new = h.seats.each place seat.0 seat.1 in
    subst (λ (z : List ℕ × List Entry). Begins actor_of z.0 c.close_all.result.history.items z.1) (λ i. (new.has_place i, new.has_seen i)) (c.close_all.ensures.begins place seat.0 seat.1)
