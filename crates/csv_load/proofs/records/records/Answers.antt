use Rattle.std.proofs.Common.{map}
use Rattle.csv.specs.Records.{fields_of}
use Rattle.std.proofs.lemmas.List.{length-map}
use Rattle.csv_load.proofs.Rows.{few_records, records_whole}
use Rattle.csv_load.proofs.records.records.Goals as goal

pub returns-clause-all : goal.returns-clause-all
returns-clause-all c = records_whole c.args.text.now (map fields_of c.in_ok-rows.rows.items) c.in_ok-rows.ensures

pub returns-clause-few : goal.returns-clause-few
returns-clause-few c =
    let few = few_records c.args.text.now (map fields_of c.in_ok-rows.rows.items) c.in_ok-rows.ensures in
    rw length-map at few
