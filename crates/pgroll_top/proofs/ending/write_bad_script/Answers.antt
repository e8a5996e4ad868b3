use Rattle.std.proofs.Common.{◌++◌, [], ap, codes, decimal, refl, ◌∙◌}
use Rattle.std.proofs.lemmas.Result.{err_from_is_err_and}
use Rattle.pg_io.specs.Laws.{appends_more, appends_none}
use Rattle.pgroll_top.proofs.Telling.{bad_line, cut_in}
use Rattle.pgroll_top.proofs.ending.write_bad_script.Goals as goal

pub returns-in_err-write_whole-clause-cut : goal.returns-in_err-write_whole-clause-cut
returns-in_err-write_whole-clause-cut g c =
    let p = err_from_is_err_and c.from_residual.result c.from_residual.ensures.1 in
    rw p.1 (cut_in _ _ _ _ _ _ [] (codes "0 control REFUSED P21 ") (decimal c.args.number ++ codes "\n") _ (appends_none (g.K.Sink.held c.args.out.now)) refl (bad_line c.args.number) c.in_err-write_whole.ensures.cut)

pub returns-in_err-write_whole-2-clause-cut : goal.returns-in_err-write_whole-2-clause-cut
returns-in_err-write_whole-2-clause-cut g c =
    let p = err_from_is_err_and c.from_residual-in_err-write_whole-2.result c.from_residual-in_err-write_whole-2.ensures.1 in
    rw p.1
    (cut_in _ _ _ _ _ _ (codes "0 control REFUSED P21 ") c.as_bytes.result.now (codes "\n") _ c.in_ok-write_whole.ensures.whole c.in_ok-write_whole.ensures.cause.passed
    (ap (λ digits. codes "0 control REFUSED P21 " ++ (digits ++ codes "\n")) (c.as_bytes.ensures.value ∙ c.format.ensures.text) ∙ bad_line c.args.number) c.in_err-write_whole-2.ensures.cut)

pub returns-in_err-write_whole-3-clause-cut : goal.returns-in_err-write_whole-3-clause-cut
returns-in_err-write_whole-3-clause-cut g c =
    let p = err_from_is_err_and c.from_residual-in_err-write_whole-3.result c.from_residual-in_err-write_whole-3.ensures.1 in
    rw p.1
    (cut_in _ _ _ _ _ _ (codes "0 control REFUSED P21 " ++ c.as_bytes.result.now) (codes "\n") [] _
    (appends_more _ _ _ (codes "0 control REFUSED P21 ") c.as_bytes.result.now _ refl c.in_ok-write_whole.ensures.whole c.in_ok-write_whole-2.ensures.whole)
    (c.in_ok-write_whole-2.ensures.cause.passed ∙ c.in_ok-write_whole.ensures.cause.passed)
    (ap (λ digits. codes "0 control REFUSED P21 " ++ (digits ++ codes "\n")) (c.as_bytes.ensures.value ∙ c.format.ensures.text) ∙ bad_line c.args.number) c.in_err-write_whole-3.ensures.cut)

pub returns-clause-whole : goal.returns-clause-whole
returns-clause-whole g c =
    appends_more _ _ _ (codes "0 control REFUSED P21 " ++ c.as_bytes.result.now) (codes "\n") _
    (ap (λ digits. codes "0 control REFUSED P21 " ++ (digits ++ codes "\n")) (c.as_bytes.ensures.value ∙ c.format.ensures.text) ∙ bad_line c.args.number)
    (appends_more _ _ _ (codes "0 control REFUSED P21 ") c.as_bytes.result.now _ refl c.in_ok-write_whole.ensures.whole c.in_ok-write_whole-2.ensures.whole)
    c.in_ok-write_whole-3.ensures.whole
