use Rattle.std.proofs.Common.{◌≡◌, [], ◌++◌, drop, map}
use Rattle.machine.proofs.start.with_empty.Given as goal

abbrev pub invariant-loop-number : goal.invariant-loop-number
invariant-loop-number l = l.more ++ map (λ number. (number, [])) (drop l.number-index l.numbers) ≡ l.fn.tables ++ map (λ number. (number, [])) l.numbers
