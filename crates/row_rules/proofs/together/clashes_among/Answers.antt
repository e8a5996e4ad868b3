use Rattle.std.proofs.Common.{◌≡◌, [], IfOk, subst, rules}
use Rattle.row_rules.proofs.Beside.{all_alone}
use Rattle.row_rules.specs.Changes.{after_changes, keys_changed}
use Rattle.row_rules.specs.Inner.{all_beside, clashes_after}
use Rattle.row_rules.specs.Site.{site_of}
use Rattle.row_rules.proofs.together.clashes_among.Goals as goal

pub returns : goal.returns
returns g c =
    let site = site_of c.args.site in
    let older = g.T.TableRows.rows c.args.older.now in
    let changes = c.args.changes.now in
    let rows : c.as_slice-2.result.now ≡ after_changes changes older = search rules in
    let keys : c.as_slice-3.result.now ≡ keys_changed changes = search rules in
    let same : all_beside site c.as_slice-2.result.now [] c.as_slice-3.result.now ≡ clashes_after site older changes =
    rw (rows, keys) (all_alone site (after_changes changes older) (keys_changed changes)) in
    subst (λ wanted. IfOk c.clashes.result (λ cause. cause ≡ wanted)) same c.clashes.ensures
