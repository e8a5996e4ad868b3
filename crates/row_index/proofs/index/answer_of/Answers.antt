use Rattle.std.proofs.Common.{◌≡◌, ◌<◌, ◌≤◌, ◌∙◌, length, arith, sym, ap, drop}
use Rattle.std.specs.Option.{option_map}
use Rattle.row_index.specs.Indexes.{entries_for, entries_of, has_beside}
use Rattle.row_index.proofs.Looping.{found_at, none_at, none_left, passed_by}
use Rattle.row_index.proofs.index.answer_of.Goals as goal

pub loop-at-preserved : goal.loop-at-preserved
loop-at-preserved c =
    passed_by c.args.unique.now c.index-uniques-at.result _ c.args.uniques.now c.args.indexes.now c.loop-at.at c.loop-at-test.true c.index-uniques-at.is
    (sym c.if-same_columns.ensures) ∙ c.loop-at.invariant

pub returns-in-Some : goal.returns-in-Some
returns-in-Some c =
    let within : c.loop-at.at < length c.args.indexes.now = c.in-Some.ensures.lookup.3.0 in
    let found =
    found_at c.args.unique.now c.index-uniques-at.result _ c.args.uniques.now c.args.indexes.now c.loop-at.at c.in-Some.index.now _ c.loop-at-test.true c.index-uniques-at.is (sym c.if-same_columns.ensures) within c.in-Some.ensures.lookup.1 in
    let there : _ ≡ entries_for c.args.unique.now c.args.uniques.now (entries_of c.args.indexes.now) =
    sym found ∙ c.loop-at.invariant in
    rw (c.is_some.ensures, c.row_clash.ensures)
    (ap (option_map (has_beside c.args.unique.now c.args.values.now c.args.keys.now)) there)

pub returns-in-None : goal.returns-in-None
returns-in-None c =
    let past : length c.args.indexes.now ≤ c.loop-at.at = c.in-None.ensures.lookup.3 in
    ap (option_map (has_beside c.args.unique.now c.args.values.now c.args.keys.now))
    (sym (none_at c.args.unique.now c.args.uniques.now c.args.indexes.now c.loop-at.at past) ∙ c.loop-at.invariant)

pub returns : goal.returns
returns c =
    let past : length c.args.uniques.now ≤ c.loop-at.at = omega arith in
    ap (option_map (has_beside c.args.unique.now c.args.values.now c.args.keys.now))
    (sym (none_left c.args.unique.now c.args.uniques.now (entries_of (drop c.loop-at.at c.args.indexes.now)) c.loop-at.at past) ∙ c.loop-at.invariant)
