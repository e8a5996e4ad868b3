use Rattle.catalog.proofs.Named.{name_columns}
use Rattle.catalog.proofs.laws.views_name_columns.Goals as goal

pub returns : goal.returns
returns c = name_columns c.pairs_are_long.ensures
