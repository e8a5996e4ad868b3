use Rattle.mig_json.specs.Kind.{name_demands, IsNewName}
use Rattle.mig_json.proofs.Loops.{Read}
use Rattle.mig_json.proofs.objects.read_names.Given as goal

abbrev pub invariant-loop-j : goal.invariant-loop-j
invariant-loop-j l = Read (name_demands l.at l.path) IsNewName l.j l.items l.names
