use Rattle.std.proofs.Common.{◌≡◌, ◌++◌, drop, filter, map}
use Rattle.sql_base.specs.declared.values.Value.TheVariants.{Null}
use Rattle.phase_steps.specs.Rows as spec
use Rattle.phase_steps.proofs.returning.with_nulls.Given as goal

-- the values so far, and then a NULL for each column of the others that has a shadow place, are all of them
abbrev pub invariant-loop-cell : goal.invariant-loop-cell
invariant-loop-cell l =
    l.values ++ map (λ cell. Null) (filter spec.is_shadow (drop l.cell-index l.cells))
    ≡ l.initial.values ++ map (λ cell. Null) (filter spec.is_shadow l.cells)
