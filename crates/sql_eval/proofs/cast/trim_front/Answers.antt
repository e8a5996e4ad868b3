use Rattle.std.proofs.Common.{sym, ◌∙◌, arith}
use Rattle.std.proofs.lemmas.Str.Pattern.{strip_prefix_char}
use Rattle.sql_eval.proofs.Trimming.{trim_front-stop}
use Rattle.sql_eval.proofs.cast.trim_front.Goals as goal

pub returns : goal.returns
returns c =
    let h = strip_prefix_char 32 c.loop-rest.left.now c.strip_prefix.result c.strip_prefix.ensures.cases (omega arith) in
    let none = rw c.in_default.is at h in
    sym (trim_front-stop c.loop-rest.left.now none) ∙ c.loop-rest.invariant.1
