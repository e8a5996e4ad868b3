use Rattle.std.proofs.Common.{◌≡◌, Option, Some, None, sym, ap, ◌∙◌}
use Rattle.latch.specs.Origin.{Origin}
use Rattle.latch.proofs.Ends.{ends, ends_with}
use Rattle.latch.proofs.lock.Latch.close.Goals as goal

none_some : {A : Type 0} (y : Option A) (x : A) → y ≡ None → y ≡ Some x → ⊥
none_some y x p q = cc

some_same : {A : Type 0} (a b : A) → Some a ≡ Some b → a ≡ b
some_same a b e = cc

pub unreachable-requires : goal.unreachable-requires
unreachable-requires g c =
    let whole = c.requires.whole ∙ sym (ap (λ (o : Origin g.row.T.Denot). o.seats) c.self.view_is) in
    let end = ends g.T.Counted.list g.T.Counted.base g.T.Counted.actor _ _ _ _ _ _ c.close_with-closed.ensures.values.2 c.requires.free.0 whole c.take-value.ensures.value in
    none_some _ end.0 c.in-None.is end.1

pub returns-clause-base : goal.returns-clause-base
returns-clause-base g c =
    let whole = c.requires.whole ∙ sym (ap (λ (o : Origin g.row.T.Denot). o.seats) c.self.view_is) in
    let end = ends_with g.T.Counted.list g.T.Counted.base g.T.Counted.actor _ _ _ _ _ _ _ c.close_with-closed.ensures.values.2 c.requires.free.0 whole c.take-value.ensures.value c.in-Some.is in
    some_same _ _ (sym end.0 ∙ c.requires.own.1)

pub returns-clause-begins : goal.returns-clause-begins
returns-clause-begins g c =
    let whole = c.requires.whole ∙ sym (ap (λ (o : Origin g.row.T.Denot). o.seats) c.self.view_is) in
    (ends_with g.T.Counted.list g.T.Counted.base g.T.Counted.actor _ _ _ _ _ _ _ c.close_with-closed.ensures.values.2 c.requires.free.0 whole c.take-value.ensures.value c.in-Some.is).1
