use Rattle.std.proofs.Common.{arith, ◌≤◌, ◌<◌, ◌∙◌, ℤ, List, length, sym}
use Rattle.std.specs.FinMap as map
use Rattle.sql_base.specs.declared.values.Value.{Value}
use Rattle.uniq_index.specs.Scan.{values_sought}
use Rattle.uniq_index.proofs.Least.{first_of_all, found_there, none_past, passed}
use Rattle.uniq_index.proofs.scanning.least_beside.Goals as goal

pub returns-then-is_some : goal.returns-then-is_some
returns-then-is_some c =
    let keys = c.args.keys.now in
    let values = values_sought c.args.sought in
    let entries : List (ℤ × List Value) = map.entries c.args.entries.now.rows in
    let within : c.loop-at.at < length entries = omega (arith, c.loop-at-test.true, c.len-at-end.ensures, map.len-entries c.args.entries.now.rows) in
    let there = found_there values keys c.loop-at.at entries c.key_at-found.result within c.key_at-found.ensures (sym c.is_some.ensures ∙ c.if-is_some.true) in
    sym there ∙ c.loop-at.invariant ∙ first_of_all values keys c.args.entries.now.rows

pub loop-at-preserved : goal.loop-at-preserved
loop-at-preserved c =
    let keys = c.args.keys.now in
    let values = values_sought c.args.sought in
    let entries : List (ℤ × List Value) = map.entries c.args.entries.now.rows in
    let within : c.loop-at.at < length entries = omega (arith, c.loop-at-test.true, c.len-at-end.ensures, map.len-entries c.args.entries.now.rows) in
    let past = passed values keys c.loop-at.at entries c.key_at-found.result within c.key_at-found.ensures (sym c.is_some.ensures ∙ c.if-is_some.false) in
    sym past ∙ c.loop-at.invariant

pub returns : goal.returns
returns c =
    let keys = c.args.keys.now in
    let values = values_sought c.args.sought in
    let entries : List (ℤ × List Value) = map.entries c.args.entries.now.rows in
    let past : length entries ≤ c.loop-at.at = omega (arith, c.loop-at-test.false, c.len-at-end.ensures, map.len-entries c.args.entries.now.rows) in
    sym (none_past values keys c.loop-at.at entries past) ∙ c.loop-at.invariant ∙ first_of_all values keys c.args.entries.now.rows
