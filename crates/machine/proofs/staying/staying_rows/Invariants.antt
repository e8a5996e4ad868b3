use Rattle.std.proofs.Common.{◌≡◌, ◌++◌, drop, map}
use Rattle.std.specs.Option.{option_copied}
use Rattle.machine.specs.Migrate.{staying_row}
use Rattle.machine.proofs.staying.staying_rows.Given as goal

abbrev pub invariant-loop-row : goal.invariant-loop-row
invariant-loop-row l =
    l.staying ++ map (staying_row l.gone (option_copied l.lens)) (drop l.row-index l.rows)
    ≡ map (staying_row l.gone (option_copied l.lens)) l.rows
