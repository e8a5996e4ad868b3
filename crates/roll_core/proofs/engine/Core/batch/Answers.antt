use Rattle.roll_core.proofs.Words.{false, ◌≡◌, ◌∙◌, length, map, refl, sym, ap, subst, take_at, Fill, goes_on_filling, LaneStep, reply_of, seen, IsStored, Stored, meaning}
use Rattle.roll_core.proofs.Steps.{lane_step, runs_lent, same_lent, step_lent, stored_lent}
use Rattle.roll_core.proofs.engine.Core.batch.Goals as goal

pub least_fill-requires : goal.least_fill-requires
least_fill-requires c = runs_lent c.laws_below.ensures c.self.inside.frame c.self.inside.former c.self.inside.tables.items c.deref_mut.result.now c.deref_mut.ensures.value c.self.invariant

pub invariant_of-self : goal.invariant_of-self
invariant_of-self c =
    let inside = c.self.inside in
    let back = take_at c.least_fill.new.tables _ inside.tables.len (c.least_fill.auto.tables ∙ ap length c.deref_mut.ensures.value ∙ sym inside.tables.ok.0) in
    let lane = lane_step (Fill c.args.n) refl inside.frame (map seen c.deref_mut.result.now) (map seen c.least_fill.new.tables) c.least_fill.result c.least_fill.ensures.answers in
    stored_lent c.states_stand.ensures.steps c.states_stay_lawful.ensures.steps inside.frame inside.former inside.tables.items c.deref_mut.result.now c.least_fill.new.tables _ c.deref_mut.ensures.value back c.self.invariant (Fill c.args.n)
    (reply_of c.least_fill.result) (λ stands. c.lane_runs_are_runs.ensures.steps _ (Fill c.args.n) (reply_of c.least_fill.result) _ lane stands) c.least_fill.ensures.forms c.least_fill.ensures.stored

pub returns-clause-step : goal.returns-clause-step
returns-clause-step c =
    let inside = c.self.inside in
    let back = take_at c.least_fill.new.tables _ inside.tables.len (c.least_fill.auto.tables ∙ ap length c.deref_mut.ensures.value ∙ sym inside.tables.ok.0) in
    let lane = lane_step (Fill c.args.n) refl inside.frame (map seen c.deref_mut.result.now) (map seen c.least_fill.new.tables) c.least_fill.result c.least_fill.ensures.answers in
    step_lent (λ s r t. LaneStep s (Fill c.args.n) r t) inside.frame inside.former inside.tables.items c.deref_mut.result.now c.least_fill.new.tables _ c.args.self.now (reply_of c.least_fill.result) c.replied.result c.deref_mut.ensures.value back c.self.view_is c.replied.ensures lane

pub returns-clause-machine : goal.returns-clause-machine
returns-clause-machine c =
    let stands = subst (λ (s : Stored). IsStored s) c.self.view_is c.self.invariant in
    c.lane_runs_are_runs.ensures.steps (meaning c.args.self.now) (Fill c.args.n) c.replied.result _ (returns-clause-step c) stands.stands

pub returns-clause-refused : goal.returns-clause-refused
returns-clause-refused c quiet =
    let inside = c.self.inside in
    let back = take_at c.least_fill.new.tables _ inside.tables.len (c.least_fill.auto.tables ∙ ap length c.deref_mut.ensures.value ∙ sym inside.tables.ok.0) in
    let told : goes_on_filling (reply_of c.least_fill.result) ≡ false = ap goes_on_filling (sym c.replied.ensures) ∙ quiet in
    same_lent inside.frame inside.former inside.tables.items c.deref_mut.result.now c.least_fill.new.tables _ c.args.self.now c.deref_mut.ensures.value back c.self.view_is
    (c.least_fill.ensures.looks told)

pub returns-clause-keeps : goal.returns-clause-keeps
returns-clause-keeps c = (ap (λ (s : Stored). s.frame) c.self.view_is, ap (λ (s : Stored). s.former) c.self.view_is)
