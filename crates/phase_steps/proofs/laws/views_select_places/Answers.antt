use Rattle.phase_steps.proofs.KeptPlaces.{new_view_selects, old_view_selects, places_are_the_layouts, trimmed_places_are_the_columns}
use Rattle.phase_steps.proofs.laws.views_select_places.Goals as goal

pub returns-clause-layout : goal.returns-clause-layout
returns-clause-layout c = places_are_the_layouts c.pairs_are_long.ensures

pub returns-clause-trimmed : goal.returns-clause-trimmed
returns-clause-trimmed c = trimmed_places_are_the_columns c.pairs_are_long.ensures

pub returns-clause-old : goal.returns-clause-old
returns-clause-old c = old_view_selects c.pairs_are_long.ensures

pub returns-clause-new : goal.returns-clause-new
returns-clause-new c = new_view_selects c.pairs_are_long.ensures
