use Rattle.std.proofs.Common.{sym}
use Rattle.mig_json.proofs.Elements.{filled_of}
use Rattle.mig_json.proofs.objects.filled.Goals as goal

pub returns-else-is_empty : goal.returns-else-is_empty
returns-else-is_empty c = (c.in_ok-items.ensures, filled_of c.in_ok-items.items.now (sym c.if-is_empty.ensures))
