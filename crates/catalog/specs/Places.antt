-- What the code's own lists of places stand for, and what it lends to its calls.
use Rattle.std.specs.Prelude.{List, map}
use Rattle.catalog.specs.declared.pairs.PairRef.{PairRef}
use Rattle.catalog.specs.declared.finding.VersionRef.{VersionRef}
use Rattle.catalog.specs.declared.places.RowPlace.{RowPlace}
use Rattle.catalog.specs.declared.places.RowPlace.TheVariants as listed
use Rattle.trigger_pair.specs.declared.pairs.Pair.{Pair}
use Rattle.phase_steps.specs.Places.{Place, Own, Shadow, Mark}
use Rattle.phase_steps.specs.Rows.{pair_of}
use Rattle.catalog.specs.Versions.{Version}

abbrev pub place : RowPlace → Place
place (listed.Own at) = Own at
place (listed.Shadow at) = Shadow at
place listed.Mark = Mark

abbrev pub all : List RowPlace → List Place
all places = map place places

abbrev pub pair : PairRef → Pair
pair lent = pair_of lent.old.now lent.new.now lent.lens.now

abbrev pub version : VersionRef → Version
version lent = record { side = lent.side; schema = lent.schema.now }
