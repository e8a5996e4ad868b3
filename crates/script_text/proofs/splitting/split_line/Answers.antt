use Rattle.std.proofs.Common.{arith, ◌+◌}
use Rattle.std.proofs.lemmas.List.{take_rest}
use Rattle.script_text.proofs.FirstLine.{split_place, split_whole}
use Rattle.script_text.proofs.splitting.split_line.Goals as goal

pub returns-then-at-bytes-clause-lines : goal.returns-then-at-bytes-clause-lines
returns-then-at-bytes-clause-lines c =
    let bytes = c.args.bytes.now in
    rw (take_rest bytes (c.place_of-at.result + 1), c.trimmed.ensures) (split_place bytes c.place_of-at.result c.if-at-bytes.true c.place_of-at.ensures.before (c.place_of-at.ensures.found c.if-at-bytes.true))

pub returns-else-at-bytes-clause-lines : goal.returns-else-at-bytes-clause-lines
returns-else-at-bytes-clause-lines c = split_whole c.args.bytes.now c.requires (λ k h. c.place_of-at.ensures.before k (omega (arith, c.if-at-bytes.false)))
