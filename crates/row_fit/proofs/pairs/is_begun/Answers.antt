use Rattle.std.proofs.Common.{◌≡◌, ◌∙◌, IsTrue, List, ap, subst}
use Rattle.sql_base.specs.declared.values.Value.{Value}
use Rattle.trigger_pair.specs.Stored as stored
use Rattle.row_fit.proofs.pairs.is_begun.Goals as goal

pub returns : goal.returns
returns c =
    let pair = c.args.pair.now in
    let values = c.args.values.now in
    let same = c.are_same.result in
    let old : c.as_slice.result.now ≡ stored.old_view pair values = c.as_slice.ensures ∙ c.in_ok-old.ensures in
    let row : c.as_slice-2.result.now ≡ stored.begun pair (stored.old_view pair values) = c.as_slice-2.ensures
    ∙ c.in_ok-row.ensures
    ∙ ap (stored.begun pair) old in
    subst
    (λ (all : List Value). (IsTrue same → values ≡ all) × (values ≡ all → IsTrue same))
    row
    c.are_same.ensures
