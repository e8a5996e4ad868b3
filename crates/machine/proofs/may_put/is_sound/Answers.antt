use Rattle.std.proofs.Common.{◌≡◌, [], ◌∷◌, Err, subst, sym}
use Rattle.row_rules.specs.Changes.{changes}
use Rattle.row_rules.specs.Outcome.{Answers}
use Rattle.row_rules.specs.Site.{site_of}
use Rattle.machine.specs.Words.job
use Rattle.machine.proofs.PutLooks.{fill_refuses}
use Rattle.machine.proofs.may_put.is_sound.Goals as goal

pub returns-in-Err-Because : goal.returns-in-Err-Because
returns-in-Err-Because c =
    let site = site_of c.args.site in
    let told = subst (λ stop. Answers (changes site job.Fill (c.in_ok-copy.field-0 ∷ [])) (Err stop)) c.in-Err-Because.field-0-is c.in-Err-Because.ensures in
    let refused = subst (λ row. changes site job.Fill (row ∷ []) ≡ Err c.in-Err-Because.field-0-0) c.in_ok-copy.ensures told in
    sym (fill_refuses site c.args.row.now c.in-Err-Because.field-0-0 c.requires refused)
