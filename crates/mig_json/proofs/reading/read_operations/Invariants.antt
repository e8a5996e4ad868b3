use Rattle.mig_json.specs.Migration.{IsOperation}
use Rattle.mig_json.specs.Reading.{operation_demands}
use Rattle.mig_json.proofs.Loops.{Read}
use Rattle.mig_json.proofs.reading.read_operations.Given as goal

abbrev pub invariant-loop-at : goal.invariant-loop-at
invariant-loop-at l = Read operation_demands (λ before. IsOperation) l.at l.items l.operations
