use Rattle.std.proofs.Common.{◌≡◌, drop}
use Rattle.std.specs.FinMap as map
use Rattle.uniq_index.specs.Scan.{first_clashing, values_sought}
use Rattle.uniq_index.proofs.scanning.least_beside.Given as goal

abbrev pub invariant-loop-at : goal.invariant-loop-at
invariant-loop-at l =
    first_clashing (values_sought l.sought) l.keys (drop l.at (map.entries l.entries.rows)) ≡ first_clashing (values_sought l.sought) l.keys (map.entries l.entries.rows)
