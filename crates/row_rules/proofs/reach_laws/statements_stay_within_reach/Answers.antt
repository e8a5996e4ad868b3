use Rattle.std.proofs.Common.{Ok, ap, map}
use Rattle.row_rules.specs.Changes.{altered_row, put_all}
use Rattle.row_rules.specs.Words.{Remove, and_then, every}
use Rattle.row_rules.proofs.Looking.{matches_within, shows_within}
use Rattle.row_rules.proofs.reach_laws.statements_stay_within_reach.Goals as goal

pub returns-clause-matching : goal.returns-clause-matching
returns-clause-matching c = matches_within

pub returns-clause-altering : goal.returns-clause-altering
returns-clause-altering c = λ site sets condition rows shows. ap (λ found. put_all (and_then found (λ rows. every (map (altered_row site sets) rows)))) (matches_within site condition rows shows)

pub returns-clause-removing : goal.returns-clause-removing
returns-clause-removing c = λ site condition rows shows. ap (λ found. and_then found (λ rows. Ok (map (λ row. Remove row.key) rows))) (matches_within site condition rows shows)

pub returns-clause-showing : goal.returns-clause-showing
returns-clause-showing c = shows_within
