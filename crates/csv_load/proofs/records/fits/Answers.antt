use Rattle.std.proofs.Common.{◌≡◌, ◌+◌, ◌<◌, arith, ap, drop, length, sym, ◌∙◌}
use Rattle.csv.specs.Records.{fields_of}
use Rattle.csv_load.proofs.Fields.{few_taken, many_taken, next_taken, none_taken, taken}
use Rattle.csv_load.proofs.records.fits.Goals as goal

pub returns-then-count-room : goal.returns-then-count-room
returns-then-count-room c =
    let within : c.loop-at.at < length (fields_of c.args.row.now) = omega (arith, c.len-at-end.ensures) in
    let next = next_taken (fields_of c.args.row.now) c.loop-at.at c.field_of-count.result.now within c.field_of-count.ensures in
    let room : c.loop-at.room + taken (fields_of c.args.row.now) ≡ 4097 + taken (drop c.loop-at.at (fields_of c.args.row.now)) = c.loop-at.invariant in
    sym (many_taken (fields_of c.args.row.now) (omega (arith, next, room)))

pub loop-at-preserved : goal.loop-at-preserved
loop-at-preserved c =
    let within : c.loop-at.at < length (fields_of c.args.row.now) = omega (arith, c.len-at-end.ensures) in
    let next = next_taken (fields_of c.args.row.now) c.loop-at.at c.field_of-count.result.now within c.field_of-count.ensures in
    let room : c.loop-at.room + taken (fields_of c.args.row.now) ≡ 4097 + taken (drop c.loop-at.at (fields_of c.args.row.now)) = c.loop-at.invariant in
    omega (arith, next, room)

pub returns : goal.returns
returns c =
    let last : c.loop-at.at ≡ length (fields_of c.args.row.now) = omega (arith, c.len-at-end.ensures) in
    let none = ap (λ i. taken (drop i (fields_of c.args.row.now))) last ∙ none_taken (fields_of c.args.row.now) in
    let room : c.loop-at.room + taken (fields_of c.args.row.now) ≡ 4097 + taken (drop c.loop-at.at (fields_of c.args.row.now)) = c.loop-at.invariant in
    sym (few_taken (fields_of c.args.row.now) (omega (arith, none, room)))
