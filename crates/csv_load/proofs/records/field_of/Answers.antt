use Rattle.std.proofs.Common.{sym}
use Rattle.csv.specs.Records.{fields_of}
use Rattle.csv_load.proofs.Fields.{field_is, field_within}
use Rattle.csv_load.proofs.records.field_of.Goals as goal

pub unreachable-requires : goal.unreachable-requires
unreachable-requires c = field_within (fields_of c.args.row.now) c.args.at c.requires (sym c.in-None.ensures.value)

pub returns : goal.returns
returns c = field_is (fields_of c.args.row.now) c.args.at c.in-Some.field.now (sym c.in-Some.ensures.value)
