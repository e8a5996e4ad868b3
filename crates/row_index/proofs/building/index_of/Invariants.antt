use Rattle.std.proofs.Common.{◌≡◌, drop, map}
use Rattle.std.specs.FinMap as finite
use Rattle.row_index.specs.Changes.{put_all, row_change}
use Rattle.row_index.proofs.building.index_of.Given as goal

-- the rows that are left lead to the same entries
abbrev pub invariant-loop-at : goal.invariant-loop-at
invariant-loop-at g l =
    put_all (map (row_change l.unique l.side) (drop l.at (g.T.TableRows.rows l.rows))) l.index.entries ≡ put_all (map (row_change l.unique l.side) (g.T.TableRows.rows l.rows)) finite.empty
