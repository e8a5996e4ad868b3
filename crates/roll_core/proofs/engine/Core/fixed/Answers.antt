use Rattle.roll_core.proofs.Words.{◌≡◌, ◌∙◌, OwnTable, None, ap, refl, sym, subst, first_stored, parts, IsStored, meaning}
use Rattle.roll_core.proofs.Steps.{first_is, first_stands}
use Rattle.roll_core.proofs.engine.Core.fixed.Goals as goal

pub invariant_of-result : goal.invariant_of-result
invariant_of-result c =
    let is : parts c.frame_of.result None c.push.new.self.items ≡ first_stored = first_is c.frame_of.result c.in_ok-beginning.field-0 c.push.new.self.items c.new-tables.result.items _ c.in_ok-beginning.ensures c.frame_of.ensures c.new-tables.ensures.items c.in_ok-push.ensures.items (ap (λ (t : OwnTable). t.number) c.in_ok-new.ensures) (ap (λ (t : OwnTable). t.form) c.in_ok-new.ensures) (ap (λ (t : OwnTable). t.rows.rows) c.in_ok-new.ensures ∙ c.new.ensures) in
    subst IsStored (sym is) (first_stands c.states_stand.ensures.runs c.states_stay_lawful.ensures.runs)

pub returns-clause-stored : goal.returns-clause-stored
returns-clause-stored c = first_is c.frame_of.result c.in_ok-beginning.field-0 c.push.new.self.items c.new-tables.result.items _ c.in_ok-beginning.ensures c.frame_of.ensures c.new-tables.ensures.items c.in_ok-push.ensures.items (ap (λ (t : OwnTable). t.number) c.in_ok-new.ensures) (ap (λ (t : OwnTable). t.form) c.in_ok-new.ensures) (ap (λ (t : OwnTable). t.rows.rows) c.in_ok-new.ensures ∙ c.new.ensures)

pub returns-clause-means : goal.returns-clause-means
returns-clause-means c = ap meaning (returns-clause-stored c)
