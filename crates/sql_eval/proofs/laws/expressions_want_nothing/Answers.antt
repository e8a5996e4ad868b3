use Rattle.sql_eval.proofs.TypesWantNothing.{typing_wants_nothing}
use Rattle.sql_eval.proofs.ValuesWantNothing.{evaluating_wants_nothing}
use Rattle.sql_eval.proofs.laws.expressions_want_nothing.Goals as goal

pub returns-clause-evaluating : goal.returns-clause-evaluating
returns-clause-evaluating c = evaluating_wants_nothing

pub returns-clause-typing : goal.returns-clause-typing
returns-clause-typing c = typing_wants_nothing
