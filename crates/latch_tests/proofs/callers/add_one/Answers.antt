use Rattle.std.proofs.Common.{ℕ, List, ◌∷◌, [], sym, ◌∙◌, subst}
use Rattle.latch.specs.Lists.{Begins}
use Rattle.latch.specs.Seats.{seen}
use Rattle.latch_tests.specs.declared.callers.Told.{Told}
use Rattle.latch_tests.specs.declared.desk.Entry.{Entry}
use Rattle.latch_tests.specs.Own.{IsTold, actor_of}
use Rattle.latch_tests.proofs.Own.{told_one}
use Rattle.latch_tests.proofs.callers.add_one.Goals as goal

pub returns : goal.returns
returns g c =
    let left = c.leave.ensures in let given = c.enter-desk.result.history.items in let log = c.add-added.new.self.history.items in let before = seen c.args.seat.now in
    let told : Told = record { added = c.add-added.result; seen = c.entries-seen.result } in
    let begins = subst (λ (ps : List ℕ). Begins actor_of ps given before) c.requires.one c.enter-desk.ensures.begins in record {
      still = record { own = left.own; free = left.free; one = left.same.1 ∙ (c.enter-desk.ensures.same.0.1 ∙ c.requires.one) };
      adds = subst (λ (l : List Entry). IsTold c.args.place (c.args.amount ∷ []) before l told) (sym left.seen)
          (told_one c.args.place (c.args.amount ∷ []) given log before told c.add-added.ensures.one begins c.add-added.ensures.list (sym c.entries-seen.ensures));
    }
