use Rattle.std.proofs.Common.{◌≡◌, ◌+◌, ◌≤◌, drop, length, not}
use Rattle.std.specs.List.{filter}
use Rattle.mig_lens.specs.Lens.{is_carry}
use Rattle.machine.specs.Migrate.{lost_columns_in}
use Rattle.machine.proofs.staying.lost_columns_in.Given as goal

abbrev pub invariant-loop-cell : goal.invariant-loop-cell
invariant-loop-cell l =
    (l.count + length (filter (λ cell. not (is_carry cell)) (drop l.cell-index l.cell-items)) ≡ lost_columns_in l.fn.gone l.lens) × (l.count ≤ l.cell-index)
