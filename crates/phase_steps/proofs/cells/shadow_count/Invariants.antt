use Rattle.std.proofs.Common.{◌≡◌, ◌≤◌, ◌+◌, drop, filter, length}
use Rattle.phase_steps.specs.Rows as spec
use Rattle.phase_steps.proofs.cells.shadow_count.Given as goal

-- the count so far, and then that of the columns that are left, is the whole count
abbrev pub invariant-loop-cell : goal.invariant-loop-cell
invariant-loop-cell l =
    (l.count + length (filter spec.is_shadow (drop l.cell-index l.cells)) ≡ length (filter spec.is_shadow l.cells)) × (l.count ≤ l.cell-index)
