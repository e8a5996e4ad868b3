use Rattle.roll_core.proofs.Words.{AllByRecursion, MayLeave, filter, goes, left_table, seen, stays, vec_capacity, vec_len, ◌≡◌, ◌≤◌, ◌+◌, ◌++◌, length, map}
use Rattle.roll_core.proofs.leaving.part_all.Given as goal

-- there is room for the tables that are left, and they lead to the same ones
abbrev pub invariant-loop-table : goal.invariant-loop-table
invariant-loop-table l =
    (goal.iterator-loop-table).can_next l.table-iterator × (goal.iterator-loop-table).is_finite l.table-iterator
    × (l.table-iterator.rest.len ≡ length l.table-iterator.rest.items)
    × AllByRecursion (MayLeave l.gone) (map seen l.table-iterator.rest.items)
    × (vec_len l.staying + length l.table-iterator.rest.items ≤ vec_capacity l.staying)
    × (vec_len l.going + length l.table-iterator.rest.items ≤ vec_capacity l.going)
    × (map seen l.staying.items ++ map (left_table l.gone) (filter (stays l.gone l.frame) (map seen l.table-iterator.rest.items)) ≡ map seen l.fn.staying.items ++ map (left_table l.gone) (filter (stays l.gone l.frame) (map seen l.fn.tables.items)))
    × (map seen l.going.items ++ filter (goes l.gone l.frame) (map seen l.table-iterator.rest.items) ≡ map seen l.fn.going.items ++ filter (goes l.gone l.frame) (map seen l.fn.tables.items))
