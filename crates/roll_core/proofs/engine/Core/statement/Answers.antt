use Rattle.roll_core.proofs.Words.{true, ◌≡◌, ◌∙◌, length, map, refl, sym, ap, take_at, leaves_all, Said, Read, Step, reply_of, seen, Stored}
use Rattle.roll_core.proofs.Steps.{lane_step, runs_lent, same_lent, said_looks, step_lent, stored_lent}
use Rattle.roll_core.proofs.engine.Core.statement.Goals as goal

pub answer-requires : goal.answer-requires
answer-requires c = runs_lent c.laws_below.ensures c.self.inside.frame c.self.inside.former c.self.inside.tables.items c.deref_mut.result.now c.deref_mut.ensures.value c.self.invariant

pub invariant_of-self : goal.invariant_of-self
invariant_of-self c =
    let inside = c.self.inside in
    let back = take_at c.answer.new.tables _ inside.tables.len (c.answer.auto.tables ∙ ap length c.deref_mut.ensures.value ∙ sym inside.tables.ok.0) in
    let lane = lane_step (Said c.args.path.now (Read c.args.stmt.now)) refl inside.frame (map seen c.deref_mut.result.now) (map seen c.answer.new.tables) c.answer.result c.answer.ensures.answers in
    stored_lent c.states_stand.ensures.steps c.states_stay_lawful.ensures.steps inside.frame inside.former inside.tables.items c.deref_mut.result.now c.answer.new.tables _ c.deref_mut.ensures.value back c.self.invariant (Said c.args.path.now (Read c.args.stmt.now))
    (reply_of c.answer.result) (λ stands. lane) c.answer.ensures.forms c.answer.ensures.stored

pub returns-clause-step : goal.returns-clause-step
returns-clause-step c =
    let inside = c.self.inside in
    let back = take_at c.answer.new.tables _ inside.tables.len (c.answer.auto.tables ∙ ap length c.deref_mut.ensures.value ∙ sym inside.tables.ok.0) in
    let lane = lane_step (Said c.args.path.now (Read c.args.stmt.now)) refl inside.frame (map seen c.deref_mut.result.now) (map seen c.answer.new.tables) c.answer.result c.answer.ensures.answers in
    step_lent (λ s r t. Step s (Said c.args.path.now (Read c.args.stmt.now)) r t) inside.frame inside.former inside.tables.items c.deref_mut.result.now c.answer.new.tables _ c.args.self.now (reply_of c.answer.result) c.replied.result c.deref_mut.ensures.value back c.self.view_is c.replied.ensures lane

pub returns-clause-refused : goal.returns-clause-refused
returns-clause-refused c quiet =
    let inside = c.self.inside in
    let back = take_at c.answer.new.tables _ inside.tables.len (c.answer.auto.tables ∙ ap length c.deref_mut.ensures.value ∙ sym inside.tables.ok.0) in
    let told : leaves_all (reply_of c.answer.result) ≡ true = ap leaves_all (sym c.replied.ensures) ∙ quiet in
    same_lent inside.frame inside.former inside.tables.items c.deref_mut.result.now c.answer.new.tables _ c.args.self.now c.deref_mut.ensures.value back c.self.view_is
    (said_looks inside.frame (map seen c.deref_mut.result.now) (map seen c.answer.new.tables) _ c.answer.result c.answer.ensures.answers told)

pub returns-clause-keeps : goal.returns-clause-keeps
returns-clause-keeps c = (ap (λ (stored : Stored). stored.frame) c.self.view_is, ap (λ (stored : Stored). stored.former) c.self.view_is)
