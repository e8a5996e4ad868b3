use Rattle.std.proofs.Common.{◌≡◌, ◌≤◌, ◌+◌, drop, filter, length}
use Rattle.mig_lens.specs.Lens as lenses
use Rattle.phase_steps.proofs.cells.carried_count.Given as goal

-- the count so far, and then that of the columns that are left, is the whole count
abbrev pub invariant-loop-cell : goal.invariant-loop-cell
invariant-loop-cell l =
    (l.count + length (filter lenses.is_carry (drop l.cell-index l.cells)) ≡ length (filter lenses.is_carry l.cells)) × (l.count ≤ l.cell-index)
