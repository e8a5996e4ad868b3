use Rattle.machine.proofs.StandingTables.{both_are_shared, filled_rows_have_halves, shared_by_lenses, starts_stand, tables_are_known, tables_have_their_rows}
use Rattle.machine.proofs.laws.tables_stand.Goals as goal

pub returns-clause-rows : goal.returns-clause-rows
returns-clause-rows c = tables_have_their_rows

pub returns-clause-known : goal.returns-clause-known
returns-clause-known c = tables_are_known

pub returns-clause-both : goal.returns-clause-both
returns-clause-both c = both_are_shared

pub returns-clause-lenses : goal.returns-clause-lenses
returns-clause-lenses c = shared_by_lenses

pub returns-clause-filled : goal.returns-clause-filled
returns-clause-filled c = filled_rows_have_halves

pub returns-clause-starts : goal.returns-clause-starts
returns-clause-starts c = starts_stand c.laws_below.ensures
