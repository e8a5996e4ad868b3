use Rattle.std.proofs.Common.{length}
use Rattle.mig_json.specs.Kind as kind
use Rattle.mig_json.specs.Kind.{demands, element_path}
use Rattle.mig_json.specs.Table as table
use Rattle.mig_json.proofs.Loops.{Read}
use Rattle.mig_json.proofs.objects.read_columns.Given as goal

abbrev pub invariant-loop-j : goal.invariant-loop-j
invariant-loop-j l =
    Read (λ before e. demands (kind.object table.column) l.at (element_path l.path (length before)) e) (λ before. table.IsColumn) l.j l.items l.columns
