use Rattle.sql_eval.proofs.Naming.{looks_at_named_columns}
use Rattle.sql_eval.proofs.laws.values_rest_on_named_columns.Goals as goal

pub returns : goal.returns
returns c = looks_at_named_columns
