use Rattle.roll_core.proofs.Words.{created_table, ◌≡◌, ◌++◌, drop, map, seen}
use Rattle.roll_core.proofs.start.add_created.Given as goal

abbrev pub invariant-loop-number : goal.invariant-loop-number
invariant-loop-number l = map seen l.tables.items ++ map created_table (drop l.number-index l.numbers) ≡ map seen l.fn.tables.items ++ map created_table l.fn.numbers
