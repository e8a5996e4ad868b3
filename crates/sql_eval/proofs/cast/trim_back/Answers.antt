use Rattle.std.proofs.Common.{sym, ◌∙◌, arith}
use Rattle.std.proofs.lemmas.Str.Pattern.{strip_suffix_char}
use Rattle.sql_eval.proofs.Trimming.{trim_back-stop}
use Rattle.sql_eval.proofs.cast.trim_back.Goals as goal

pub returns : goal.returns
returns c =
    let h = strip_suffix_char 32 c.loop-rest.left.now c.strip_suffix.result c.strip_suffix.ensures.cases (omega arith) in
    let none = rw c.in_default.is at h in
    sym (trim_back-stop c.loop-rest.left.now none) ∙ c.loop-rest.invariant.1
