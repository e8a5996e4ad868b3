use Rattle.std.proofs.Common.{◌≡◌, ◌≤◌, ◌+◌, ◌++◌, drop, length, map}
use Rattle.std.specs.Prelude.{slice_index_or}
use Rattle.sql_base.specs.declared.values.Value.TheVariants.{Null}
use Rattle.trigger_pair.specs.Stored as spec
use Rattle.trigger_pair.proofs.views.new_view.Given as goal

-- the values so far, and then those in the places of the other columns, are all of them
abbrev pub invariant-loop-cell : goal.invariant-loop-cell
invariant-loop-cell l =
    (l.values ++ map (λ at. slice_index_or l.stored at Null) (spec.places l.next (drop l.cell-index l.cells)) ≡ spec.new_view l.ctx l.stored)
    × (l.next ≤ length l.ctx.old.columns + l.cell-index)
