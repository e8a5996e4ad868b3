use Rattle.std.proofs.Common.{rules}
use Rattle.machine.proofs.Missing.{any_missing_keys}
use Rattle.machine.proofs.fill.has_missing.Goals as goal

pub returns-in-Some : goal.returns-in-Some
returns-in-Some c =
    let e = any_missing_keys c.rows_of.result.now in
    search rules
