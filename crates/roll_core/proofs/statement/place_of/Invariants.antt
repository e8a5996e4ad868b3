use Rattle.roll_core.proofs.Words.{◌≡◌, drop, map, nat_eq, true, list_any, numbers_in, seen}
use Rattle.roll_core.proofs.statement.place_of.Given as goal

-- the table is among those that are left
abbrev pub invariant-loop-at : goal.invariant-loop-at
invariant-loop-at l = list_any (nat_eq l.number) (numbers_in (map seen (drop l.at l.tables))) ≡ true
