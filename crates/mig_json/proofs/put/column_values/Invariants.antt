use Rattle.std.proofs.Common.{◌≡◌, map, take}
use Rattle.serde_json.specs.Data.{no_members}
use Rattle.serde_json.specs.Data as json
use Rattle.serde_json.specs.View.{view}
use Rattle.mig_json.specs.Table as table
use Rattle.mig_json.specs.Writing as spec
use Rattle.mig_json.proofs.put.column_values.Given as goal

abbrev pub invariant-loop-column : goal.invariant-loop-column
invariant-loop-column l =
    map view l.values.items ≡ map (λ xs. json.object (spec.members_with table.column xs no_members)) (map spec.column_values (take l.column-index l.columns))
