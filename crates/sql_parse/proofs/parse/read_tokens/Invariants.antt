use Rattle.std.proofs.Common.{◌≡◌, take, Some}
use Rattle.sql_parse.specs.Machine.{step}
use Rattle.sql_parse.specs.Reading.{kinds}
use Rattle.sql_parse.proofs.Runs.{runs}
use Rattle.sql_parse.proofs.Whole.{start}
use Rattle.sql_parse.proofs.parse.read_tokens.Given as goal

abbrev pub invariant-loop-placed : goal.invariant-loop-placed
invariant-loop-placed l = runs (step 64) start (kinds (take l.placed-index l.tokens)) ≡ Some l.state
