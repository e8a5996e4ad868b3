use Rattle.row_rules.proofs.KeyForms.{forms_name, named_by_form}
use Rattle.row_rules.proofs.reach_laws.conditions_name_keys_by_their_form.Goals as goal

pub returns-clause-only : goal.returns-clause-only
returns-clause-only c = named_by_form

pub returns-clause-each : goal.returns-clause-each
returns-clause-each c = forms_name
