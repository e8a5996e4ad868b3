use Rattle.uniq_index.proofs.Lawful.{clashes_are_those_of_rows, nulls_clash_beside_none, nulls_clash_with_none}
use Rattle.uniq_index.proofs.laws.clashes_are_those_of_rows.Goals as goal

pub returns-clause-rows : goal.returns-clause-rows
returns-clause-rows c = clashes_are_those_of_rows

pub returns-clause-nulls : goal.returns-clause-nulls
returns-clause-nulls c = nulls_clash_with_none

pub returns-clause-beside : goal.returns-clause-beside
returns-clause-beside c = nulls_clash_beside_none
