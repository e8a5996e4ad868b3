use Rattle.std.proofs.Common.{◌≡◌, ℕ, List, [], ◌++◌, length, rules, ap, ◌∙◌}
use Rattle.journal_rec.specs.Body.{body_of}
use Rattle.journal_rec.proofs.Sizes.{of_body}
use Rattle.journal_rec.proofs.writing.write_record.Goals as goal

pub returns-clause-size : goal.returns-clause-size
returns-clause-size c =
    let empty : c.new-out.result.items ≡ [] = search rules in
    let text = c.from_vec.ensures ∙ c.in_ok-push_body.ensures.written ∙ ap (λ (l : List ℕ). l ++ body_of c.args.change.now) empty in
    ap length text ∙ of_body c.args.change.now
