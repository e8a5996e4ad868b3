use Rattle.std.proofs.Common.{◌<◌, ◌≤◌, length, map, subst, sym, arith}
use Rattle.std.specs.FinMap as finite
use Rattle.uniq_index.specs.Laws.{Indexes}
use Rattle.row_rules.specs.Accept.{present}
use Rattle.row_index.specs.Changes.{put_all, row_change}
use Rattle.row_index.proofs.Indexing.{rows_indexed}
use Rattle.row_index.proofs.Looping.{row_step, rows_end}
use Rattle.row_index.proofs.building.index_of.Goals as goal

pub loop-at-preserved : goal.loop-at-preserved
loop-at-preserved g c =
    let rows = g.T.TableRows.rows c.args.rows.now in
    let wanted = put_all (map (row_change c.args.unique.now c.args.side) rows) finite.empty in
    let within : c.loop-at.at < length rows = omega arith in
    row_step c.args.unique.now c.args.side rows c.loop-at.at c.in_ok-row.row c.loop-at.index.entries c.index_row.new.index.entries wanted within c.in_ok-row.ensures c.in_ok-index_row.ensures c.loop-at.invariant

pub returns : goal.returns
returns g c =
    let rows = g.T.TableRows.rows c.args.rows.now in
    let wanted = put_all (map (row_change c.args.unique.now c.args.side) rows) finite.empty in
    let past : length rows ≤ c.loop-at.at = omega arith in
    let same =
    rows_end c.args.unique.now c.args.side rows c.loop-at.at c.loop-at.index.entries wanted past c.loop-at.invariant in
    subst (Indexes c.args.unique.now (present c.args.side rows)) (sym same)
    (rows_indexed c.changes_are_indexed.ensures.one c.args.unique.now c.args.side rows c.requires)
