use Rattle.std.proofs.Common.{◌≡◌, ◌∙◌, ℕ, List, Some, option_map, ap, subst}
use Rattle.serde_json.specs.View.{view}
use Rattle.mig_json.specs.Demand.{AreMet}
use Rattle.mig_json.specs.Kind as kind
use Rattle.mig_json.specs.Kind.{ValuesOf, Is, demands, member_path}
use Rattle.mig_json.specs.Table as table
use Rattle.mig_json.proofs.Steps.{may_is}
use Rattle.mig_json.proofs.objects.may_check.Goals as goal

pub returns : goal.returns
returns c =
    let d = view c.in-Some.check.now in
    let P : List ℕ → Type 0 = λ p. AreMet (demands (kind.object table.check) c.args.at p d) × ((xs : ValuesOf table.check) × Is (kind.object table.check) d xs × (c.in_ok-check.check ≡ table.check_of xs)) in
    let got = subst P (c.as_str.ensures.value ∙ c.in_ok-inner.ensures) c.in_ok-check.ensures in
    let is = may_is (kind.object table.check) c.args.at (member_path c.args.path.now c.args.key.now) _ d got.1.0 (ap (option_map (λ v. view v.now)) c.in-Some.is) (got.0, got.1.1) in
    (is.0, (Some got.1.0, is.1, ap Some got.1.2))
