use Rattle.std.proofs.Common.{◌≡◌, ◌++◌, drop}
use Rattle.mig_lens.specs.Plan.{created_in}
use Rattle.machine.proofs.start.created_in.Given as goal

abbrev pub invariant-loop-fate : goal.invariant-loop-fate
invariant-loop-fate l = l.numbers ++ created_in (drop l.fate-index l.fates) ≡ created_in l.fates
