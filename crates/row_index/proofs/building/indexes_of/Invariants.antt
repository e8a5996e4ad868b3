use Rattle.std.proofs.Common.{◌≡◌, ◌++◌, drop, map}
use Rattle.std.specs.FinMap as finite
use Rattle.row_rules.specs.Accept.{present}
use Rattle.row_index.specs.Indexes.{entries_of}
use Rattle.row_index.proofs.Indexing.{entries_over}
use Rattle.row_index.proofs.building.indexes_of.Given as goal

abbrev pub invariant-loop-unique : goal.invariant-loop-unique
invariant-loop-unique g l =
    map finite.entries (entries_of l.indexes.items) ++ map (entries_over (present l.side (g.T.TableRows.rows l.rows))) (drop l.unique-index l.uniques)
    ≡ map (entries_over (present l.side (g.T.TableRows.rows l.rows))) l.uniques
