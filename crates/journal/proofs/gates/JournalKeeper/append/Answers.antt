use Rattle.std.proofs.Common.{◌≡◌, ℕ, Err, sym, ◌∙◌, subst}
use Rattle.journal.specs.Records.{Passes}
use Rattle.journal.specs.declared.keeping.KeepFault.TheVariants.{Full}
use Rattle.journal.proofs.gates.JournalKeeper.append.Goals as goal

pub returns-clause-appends : goal.returns-clause-appends
returns-clause-appends g c told = record {
  start = c.append.ensures.start;
  base = c.append.ensures.base told;
  pending = c.append.ensures.pending told;
  any_moment = c.append.ensures.any_moment told;
}

pub returns-clause-full : goal.returns-clause-full
returns-clause-full g c told passes =
    let place = c.append.ensures.place told in
    subst (λ (n : ℕ). c.append.result ≡ Err (Full n)) place (c.append.ensures.full (subst (λ (n : ℕ). Passes n c.args.body.now) (sym place) passes))

pub returns-clause-only_full : goal.returns-clause-only_full
returns-clause-only_full g c len is =
    let full = c.append.ensures.only_full len is in ((λ told. (full.0 ∙ c.append.ensures.place told, full.1)), full.2)
