use Rattle.std.proofs.Common.{None}
use Rattle.sql_base.specs.declared.codes.Code.TheVariants.{C53200}
use Rattle.pgroll_top.proofs.Advancing.{path_stays}
use Rattle.pgroll_top.proofs.Reading.{some_reading}
use Rattle.pgroll_top.proofs.Replying.{finds_none}
use Rattle.roll_core.specs.Store.{meaning}
use Rattle.pgroll_top.proofs.saying.answer.Goals as goal

pub returns-in-Err : goal.returns-in-Err
returns-in-Err c =
    let reading = some_reading c.statements_read_or_fail.ensures.either c.args.line.now in
    (reading.0, reading.1, finds_none (meaning c.args.core.now) c.args.path.now reading.0 c.no_memory.result c.no_memory.ensures, rw c.no_memory.ensures (path_stays c.args.path.now c.args.path.now reading.0 C53200 None None))
