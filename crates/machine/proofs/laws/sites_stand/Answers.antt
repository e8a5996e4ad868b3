use Rattle.machine.proofs.StandingSites.{changes_keep, filling_stands, found_sites_stand, rows_on_sites, rows_stand_by, shared_stands, shows_stand, writes_stand}
use Rattle.machine.proofs.laws.sites_stand.Goals as goal

pub returns-clause-found : goal.returns-clause-found
returns-clause-found c = found_sites_stand

pub returns-clause-writes : goal.returns-clause-writes
returns-clause-writes c = writes_stand c.laws_below.ensures

pub returns-clause-shows : goal.returns-clause-shows
returns-clause-shows c = shows_stand c.laws_below.ensures

pub returns-clause-shared : goal.returns-clause-shared
returns-clause-shared c = shared_stands

pub returns-clause-filling : goal.returns-clause-filling
returns-clause-filling c = filling_stands

pub returns-clause-rows : goal.returns-clause-rows
returns-clause-rows c = rows_stand_by

pub returns-clause-on_site : goal.returns-clause-on_site
returns-clause-on_site c = rows_on_sites

pub returns-clause-changes : goal.returns-clause-changes
returns-clause-changes c = changes_keep c.laws_below.ensures
