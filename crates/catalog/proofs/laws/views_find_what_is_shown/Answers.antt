use Rattle.catalog.proofs.Shown.{are_within, find_selected, find_shown}
use Rattle.catalog.proofs.laws.views_find_what_is_shown.Goals as goal

pub returns-clause-within : goal.returns-clause-within
returns-clause-within c = are_within

pub returns-clause-selected : goal.returns-clause-selected
returns-clause-selected c = find_selected

pub returns-clause-shown : goal.returns-clause-shown
returns-clause-shown c = find_shown c.views_select_places.ensures.old c.views_select_places.ensures.new c.steps_keep_places.ensures.ordered
