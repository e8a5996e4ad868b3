use Rattle.std.proofs.Common.{◌≡◌, take}
use Rattle.mig_lens.proofs.plans.LayoutCopying.copy.Given as goal

abbrev pub invariant-loop-name : goal.invariant-loop-name
invariant-loop-name l = l.columns ≡ take l.name-index l.name-items
