use Rattle.std.proofs.Common.{◌∙◌, ap, Err}
use Rattle.std.proofs.lemmas.Result.{err_from_is_err_and}
use Rattle.sql_parse.specs.Reading.{stmt_depth}
use Rattle.sql_parse.specs.Stages.{stage_step}
use Rattle.sql_parse.proofs.Statements.{begun, stmts_tell, is_done, answered}
use Rattle.sql_parse.proofs.Told.{item_fits, item_more, item_refused}
use Rattle.sql_parse.proofs.stmts.read_tokens.Goals as goal

pub advanced-requires : goal.advanced-requires
advanced-requires c = item_fits c.args.tokens.now c.loop-placed.placed-index c.placed-item.result c.requires.places c.loop-placed-test.true c.placed-item.is

pub returns-in_err-stage : goal.returns-in_err-stage
returns-in_err-stage c =
    let p = err_from_is_err_and c.from_residual.result c.from_residual.ensures.1 in
    item_refused stmts_tell stmt_depth c.args.tokens.now c.loop-placed.placed-index c.placed-item.result c.loop-placed.stage c.from_residual.result c.in_err-stage.field-0.0 (p.1 ∙ ap Err p.2) c.loop-placed-test.true c.loop-placed.invariant c.placed-item.is c.in_err-stage.ensures

pub loop-placed-preserved : goal.loop-placed-preserved
loop-placed-preserved c =
    item_more (stage_step 64) begun c.args.tokens.now c.loop-placed.placed-index c.placed-item.result c.loop-placed.stage c.in_ok-stage.stage c.loop-placed-test.true c.loop-placed.invariant c.placed-item.is c.in_ok-stage.ensures

pub unreachable-requires : goal.unreachable-requires
unreachable-requires c = let d = is_done c.args.tokens.now c.loop-placed.placed-index c.loop-placed.stage c.requires.ended c.loop-placed-test.false c.loop-placed.invariant in c.in_default.not-Done d.0 d.1

pub returns : goal.returns
returns c = answered c.args.tokens.now c.loop-placed.placed-index c.loop-placed.stage c.in-Done.done c.stmt_of.result c.loop-placed-test.false c.loop-placed.invariant c.in-Done.is c.stmt_of.ensures
