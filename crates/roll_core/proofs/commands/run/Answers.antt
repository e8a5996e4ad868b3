use Rattle.roll_core.proofs.Words.{◌≡◌, false, true, leaves_all, parts, Stored}
use Rattle.roll_core.proofs.Steps.{done_step, whole}
use Rattle.roll_core.proofs.commands.run.Goals as goal

pub returns-in-Ok : goal.returns-in-Ok
returns-in-Ok c =
    let old : Stored = parts c.args.frame.now c.args.former.now c.args.tables.now.items in
    let new : Stored = parts c.outcome.new.frame c.outcome.new.former c.outcome.new.tables.items in
    let step = done_step old new c.args.cmd.now c.in-Ok.reply c.in-Ok.ensures.goes in
    let no : leaves_all c.in-Ok.reply ≡ false = c.in-Ok.ensures.changes in
    record {
      step = step;
      stored = λ _. c.in-Ok.ensures.stored;
      refused = λ (leaves : leaves_all c.in-Ok.reply ≡ true). cc;
      err = tt;
      whole = whole (record { states = c.states_stand.ensures.steps; laws = c.states_stay_lawful.ensures.steps }) old new c.args.cmd.now c.in-Ok.reply c.requires c.in-Ok.ensures.kept step;
    }
