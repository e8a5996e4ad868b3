use Rattle.roll_core.proofs.Words.{◌≡◌, drop, find, map, is_unfilled, seen}
use Rattle.roll_core.proofs.batch.unfilled_at.Given as goal

-- the first one is among those that are left
abbrev pub invariant-loop-at : goal.invariant-loop-at
invariant-loop-at l = find is_unfilled (map seen (drop l.at l.tables)) ≡ find is_unfilled (map seen l.tables)
