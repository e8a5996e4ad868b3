use Rattle.phase_steps.proofs.KeptPlaces.{ordering_keeps_places, removing_keeps_places, rolling_back_keeps_places}
use Rattle.phase_steps.proofs.RemovedPlaces.{completing_leaves, rolling_back_leaves}
use Rattle.phase_steps.proofs.laws.steps_keep_places.Goals as goal

pub returns-clause-removed : goal.returns-clause-removed
returns-clause-removed c = removing_keeps_places

pub returns-clause-ordered : goal.returns-clause-ordered
returns-clause-ordered c = ordering_keeps_places

pub returns-clause-rolled_back : goal.returns-clause-rolled_back
returns-clause-rolled_back c = rolling_back_keeps_places c.pairs_are_long.ensures

pub returns-clause-completing_leaves : goal.returns-clause-completing_leaves
returns-clause-completing_leaves c = completing_leaves

pub returns-clause-rolling_back_leaves : goal.returns-clause-rolling_back_leaves
returns-clause-rolling_back_leaves c = rolling_back_leaves
