use Rattle.std.proofs.Common.{◌≡◌, map, take}
use Rattle.serde_json.specs.View.{view}
use Rattle.mig_json.specs.Writing as spec
use Rattle.mig_json.proofs.writing.operation_values.Given as goal

abbrev pub invariant-loop-op : goal.invariant-loop-op
invariant-loop-op l = map view l.values.items ≡ map spec.operation_data (take l.op-index l.operations)
