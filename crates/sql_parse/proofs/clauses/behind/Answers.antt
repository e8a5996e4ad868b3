use Rattle.std.proofs.Common.{ap, ◌∙◌}
use Rattle.sql_parse.specs.Stages.{with_last, sets_then}
use Rattle.sql_parse.proofs.clauses.behind.Goals as goal

pub returns-in_ok-sets-in-Assigned : goal.returns-in_ok-sets-in-Assigned
returns-in_ok-sets-in-Assigned c =
    let longer = c.in_ok-sets-in-Assigned.ensures ∙ ap (with_last c.in-Assigned.sets) c.assignment.ensures in
    rw c.in-Assigned.is (c.sets_then.ensures ∙ ap (λ sets. sets_then c.in-Assigned.table sets c.args.token.now) longer)
