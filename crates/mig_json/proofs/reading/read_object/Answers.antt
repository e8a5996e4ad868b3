use Rattle.std.proofs.Common.{◌≡◌, true, [], arith}
use Rattle.serde_json.specs.View.{view}
use Rattle.mig_json.specs.declared.members.Object.TheVariants as which
use Rattle.mig_json.specs.Reading.{is_of}
use Rattle.mig_json.specs.Table.{form}
use Rattle.mig_json.proofs.Steps.{of_object}
use Rattle.mig_json.proofs.reading.read_object.Goals as goal

pub returns : goal.returns
returns c =
    let d = view c.args.value.now in
    let known : is_of (which.Of c.args.operation) d ≡ true = grind (arith, c.is_of.ensures, c.if-not-is_of.false) in
    of_object (form c.args.operation).fields c.args.at [] d (form c.args.operation).made _ known c.read_members.ensures
