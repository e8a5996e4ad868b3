use Rattle.std.proofs.Common.{◌≡◌, ◌==◌, ℕ, drop, find, nat_eq, true}
use Rattle.std.specs.List.{list_all}
use Rattle.std.specs.Option.{option_map, option_or}
use Rattle.indexmap.specs.IndexMap.{get}
use Rattle.catalog.specs.Versions.{tables_on}
use Rattle.catalog.specs.Views as spec
use Rattle.catalog.specs.Widths.{table_is_narrow}
use Rattle.catalog.proofs.viewing.views_on.Given as goal

-- the view of a number so far, or else that of the first table with it among those that are left, is the one wanted
abbrev pub invariant-loop-table : goal.invariant-loop-table
invariant-loop-table l =
    ((q : ℕ) → option_or (get nat_eq l.views q) (option_map (spec.view_of l.known l.side) (find (λ table. table.1 == q) (drop l.table-index (tables_on l.known l.side)))) ≡ spec.view_on l.known l.side q)
    × (list_all table_is_narrow (drop l.table-index (tables_on l.known l.side)) ≡ true)
