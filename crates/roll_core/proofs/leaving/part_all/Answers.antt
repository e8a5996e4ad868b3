use Rattle.roll_core.proofs.Words.{◌++◌, AllByRecursion, List, MayLeave, OwnTable, StoredTable, ap, arith, filter, goes, left_table, length, map, seen, stays, subst}
use Rattle.roll_core.proofs.Parting.{goes_first, parted_next, stays_first}
use Rattle.roll_core.proofs.leaving.part_all.Goals as goal

pub part_one-requires-clause-leaves : goal.part_one-requires-clause-leaves
part_one-requires-clause-leaves c =
    (subst (λ (ts : List OwnTable). AllByRecursion (MayLeave c.args.gone) (map seen ts)) c.in-Some.ensures.steps.0 c.loop-table.invariant.3).0

pub loop-table-preserved : goal.loop-table-preserved
loop-table-preserved c =
    let gone = c.args.gone in
    let frame = c.args.frame.now in
    let table = c.in-Some.table in
    let rest = c.next.new.self.rest.items in
    let items = c.loop-table.table-iterator.rest.items in
    let was = c.loop-table.invariant in
    let is = c.in-Some.ensures.steps.0 in
    let left = c.in-Some.ensures.steps.1 in
    let long = ap length is in
    let staying : List StoredTable → List StoredTable = λ ts. map (left_table gone) (filter (stays gone frame) ts) in
    let going : List StoredTable → List StoredTable = filter (goes gone frame) in
    let all = map seen c.args.tables.items in (
      tt,
      tt,
      omega (arith, left, was.2, long),
      (subst (λ (ts : List OwnTable). AllByRecursion (MayLeave gone) (map seen ts)) is was.3).1,
      omega (arith, long, was.4, c.part_one.ensures.stay_len, c.part_one.ensures.stay_whole),
      omega (arith, long, was.5, c.part_one.ensures.go_len, c.part_one.ensures.go_whole),
      parted_next staying (stays_first gone frame) table rest items (map seen c.loop-table.staying.items) (map seen c.part_one.new.staying.items) (map seen c.args.staying.now.items ++ staying all) is c.part_one.ensures.staying was.6,
      parted_next going (goes_first gone frame) table rest items (map seen c.loop-table.going.items) (map seen c.part_one.new.going.items) (map seen c.args.going.now.items ++ going all) is c.part_one.ensures.going was.7,
    )
