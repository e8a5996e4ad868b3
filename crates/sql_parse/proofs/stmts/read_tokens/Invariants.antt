use Rattle.std.proofs.Common.{◌≡◌, take, Some}
use Rattle.sql_parse.specs.Stages.{stage_step}
use Rattle.sql_parse.specs.Reading.{kinds}
use Rattle.sql_parse.proofs.Runs.{runs}
use Rattle.sql_parse.proofs.Statements.{begun}
use Rattle.sql_parse.proofs.stmts.read_tokens.Given as goal

abbrev pub invariant-loop-placed : goal.invariant-loop-placed
invariant-loop-placed l = runs (stage_step 64) begun (kinds (take l.placed-index l.tokens)) ≡ Some l.stage
