use Rattle.std.proofs.Common.{◌≡◌, true, arith}
use Rattle.serde_json.specs.View.{view}
use Rattle.mig_json.specs.declared.members.Object.TheVariants as which
use Rattle.mig_json.specs.Reading.{is_of}
use Rattle.mig_json.specs.Table as table
use Rattle.mig_json.proofs.Steps.{of_object}
use Rattle.mig_json.proofs.objects.read_check.Goals as goal

pub returns : goal.returns
returns c =
    let d = view c.args.check.now in
    let known : is_of which.Check d ≡ true = grind (arith, c.is_of.ensures, c.if-not-is_of.false) in
    of_object table.check c.args.at c.args.path.now d table.check_of _ known c.check_members.ensures
