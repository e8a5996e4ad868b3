use Rattle.row_rules.proofs.Validity.{valid_rows_have_no_cause}
use Rattle.row_rules.proofs.laws.valid_rows_have_no_cause.Goals as goal

pub returns : goal.returns
returns c = valid_rows_have_no_cause
