use Rattle.sql_text.specs.Lexing.{belongs}
use Rattle.sql_text.proofs.Runs.{all_of_run}
use Rattle.sql_text.proofs.scan.Class.run.Goals as goal

pub returns-clause-all : goal.returns-clause-all
returns-clause-all c = rw c.count.ensures.length (all_of_run (belongs c.args.self) c.args.text.now)
