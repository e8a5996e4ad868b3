use Rattle.std.proofs.Common.{◌∙◌, ap, Err}
use Rattle.std.proofs.lemmas.Result.{err_from_is_err_and}
use Rattle.sql_base.specs.Tree.{depth}
use Rattle.sql_parse.specs.Machine.{step}
use Rattle.sql_parse.proofs.Exprs.{exprs_tell, is_done, answered}
use Rattle.sql_parse.proofs.Told.{item_fits, item_more, item_refused}
use Rattle.sql_parse.proofs.Whole.{start}
use Rattle.sql_parse.proofs.parse.read_tokens.Goals as goal

pub advanced-requires : goal.advanced-requires
advanced-requires c = item_fits c.args.tokens.now c.loop-placed.placed-index c.placed-item.result c.requires.places c.loop-placed-test.true c.placed-item.is

pub returns-in_err-state : goal.returns-in_err-state
returns-in_err-state c =
    let p = err_from_is_err_and c.from_residual.result c.from_residual.ensures.1 in
    item_refused exprs_tell depth c.args.tokens.now c.loop-placed.placed-index c.placed-item.result c.loop-placed.state c.from_residual.result c.in_err-state.field-0.0 (p.1 ∙ ap Err p.2) c.loop-placed-test.true c.loop-placed.invariant c.placed-item.is c.in_err-state.ensures

pub loop-placed-preserved : goal.loop-placed-preserved
loop-placed-preserved c =
    item_more (step 64) start c.args.tokens.now c.loop-placed.placed-index c.placed-item.result c.loop-placed.state c.in_ok-state.state c.loop-placed-test.true c.loop-placed.invariant c.placed-item.is c.in_ok-state.ensures

pub unreachable-requires : goal.unreachable-requires
unreachable-requires c = let d = is_done c.args.tokens.now c.loop-placed.placed-index c.loop-placed.state c.requires.ended c.loop-placed-test.false c.loop-placed.invariant in c.in_default.not-Done d.0 d.1

pub returns : goal.returns
returns c = answered c.args.tokens.now c.loop-placed.placed-index c.loop-placed.state c.in-Done.part c.tree_of.result c.loop-placed-test.false c.loop-placed.invariant c.in-Done.is c.tree_of.ensures
