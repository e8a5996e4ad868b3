-- What the engine's own parts are seen as.
use Rattle.std.specs.Prelude.{ℕ, List, Option, map, sum_by}
use Rattle.std.specs.FinMap as finite
use Rattle.std.specs.Option.{option_map}
use Rattle.machine.specs.declared.states.State.{State}
use Rattle.roll_core.specs.declared.store.Former.{Former}
pub use Rattle.roll_core.specs.Own.{OwnTable, seen}
use Rattle.roll_core.specs.Store as store

-- What is kept of a version that is gone, with its tables' rows by ascending key.
abbrev pub former_seen : Former → store.Former
former_seen former = record {
  version = former.version;
  schema = former.schema;
  fates = former.fates;
  tables = map seen former.tables.items;
}

-- What these parts store.
abbrev pub parts : State → Option Former → List OwnTable → store.Stored
parts frame former tables = record { frame = frame; former = option_map former_seen former; tables = map seen tables }

-- The number of rows in these tables.
abbrev pub row_count : List OwnTable → ℕ
row_count tables = sum_by (λ table. finite.len table.rows.rows) tables
