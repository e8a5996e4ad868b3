use Rattle.std.proofs.Common.{◌≤◌, length, arith}
use Rattle.row_rules.specs.Accept.{present}
use Rattle.row_index.specs.Indexes.{entries_of}
use Rattle.row_index.proofs.Indexing.{all_indexed}
use Rattle.row_index.proofs.building.indexes_of.Goals as goal

pub returns : goal.returns
returns g c =
    let rows = present c.args.side (g.T.TableRows.rows c.args.rows.now) in
    let past : length c.args.uniques.now ≤ c.loop-unique.unique-index = omega arith in
    all_indexed c.args.uniques.now rows
    (entries_of c.loop-unique.indexes.items) c.loop-unique.unique-index past c.loop-unique.invariant
