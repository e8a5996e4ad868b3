use Rattle.std.proofs.Common.{◌≡◌, ◌++◌, drop, map}
use Rattle.mig_lens.specs.Lens.{unfilled_value}
use Rattle.mig_lens.proofs.halves.unfilled.Given as goal

abbrev pub invariant-loop-cell : goal.invariant-loop-cell
invariant-loop-cell l = l.values ++ map (unfilled_value l.old) (drop l.cell-index l.lens.new_cols) ≡ map (unfilled_value l.old) l.lens.new_cols
