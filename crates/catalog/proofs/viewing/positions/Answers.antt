use Rattle.std.proofs.Common.{◌∙◌, sym, ap}
use Rattle.std.specs.Option.{option_map}
use Rattle.catalog.specs.Places as lent
use Rattle.catalog.proofs.Positions.{places_fit}
use Rattle.catalog.proofs.viewing.positions.Goals as goal

pub pair_positions-requires : goal.pair_positions-requires
pair_positions-requires c =
    places_fit c.args.known.now c.requires.known c.args.table.now.1 c.in-Some.pair
    (ap (option_map lent.pair) (sym c.in-Some.is) ∙ c.pair_in.ensures)
