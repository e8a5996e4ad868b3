use Rattle.std.proofs.Common.{◌≡◌, true, codes, option_map, Some, ap, refl, arith}
use Rattle.serde_json.specs.View.{view}
use Rattle.mig_json.specs.declared.members.Object.TheVariants as which
use Rattle.mig_json.specs.Reading.{is_of}
use Rattle.mig_json.specs.Table as table
use Rattle.mig_json.proofs.Steps.{ReadAll, all_read, may_object, must_ok}
use Rattle.mig_json.proofs.objects.may_named.Goals as goal

pub returns : goal.returns
returns c =
    let d = view c.in-Some.named.now in
    let name = c.in_ok-name.name in
    let got : ReadAll table.named c.args.at (codes ".unique") d (name, tt) = must_ok name _ c.get.ensures c.in_ok-name.ensures all_read in
    let known : is_of which.Named d ≡ true = grind (arith, c.is_of.ensures, c.if-not-is_of.false) in
    let is = may_object table.named c.args.at (codes ".unique") _ d (name, tt) (ap (option_map (λ v. view v.now)) c.in-Some.is) known got in
    (is.0, (Some (name, tt), is.1, refl))
