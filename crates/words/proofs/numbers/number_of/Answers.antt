use Rattle.std.proofs.Common.{sym, ◌∙◌}
use Rattle.words.proofs.Digits.{number_parses}
use Rattle.words.proofs.numbers.number_of.Goals as goal

pub returns-in-Err : goal.returns-in-Err
returns-in-Err c =
    let good = number_parses c.args.text.now c.parse.result c.parse.ensures.value.0 (sym c.is_number.ensures ∙ c.if-not-is_number.false) in
    let bad = c.in-Err.is in
    cc
