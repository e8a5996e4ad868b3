use Rattle.std.proofs.Common.{ap, map, subst, sym, ◌∙◌}
use Rattle.csv.specs.Records.{fields_of}
use Rattle.sql_base.specs.Outcome.{Gives}
use Rattle.sql_base.specs.declared.faults.ScriptFault.TheVariants.{NoMemory}
use Rattle.std.specs.Option.{option_copied}
use Rattle.csv_load.specs.Load.{load_rows}
use Rattle.csv_load.proofs.Lines.{first_and_rest, load_named}
use Rattle.csv_load.proofs.loading.load.Goals as goal

pub returns-in-Some-clause-reading : goal.returns-in-Some-clause-reading
returns-in-Some-clause-reading c =
    let table = c.args.table.now in
    let shape = option_copied c.args.shape in
    let parts = first_and_rest c.as_slice.result.now c.header-item.result c.in-len1-up.len_at_least c.header-item.is in
    let records = sym c.in_ok-rows.ensures.all ∙ ap (map fields_of) (sym c.as_slice.ensures.value ∙ parts) in
    let named = sym c.in_ok-names.ensures ∙ c.in-Some.is in
    let same = ap (load_rows table shape) records ∙ load_named table shape (fields_of c.header-item.result) c.in-Some.names _ named in
    subst (λ wanted. Gives NoMemory wanted c.lines.result) (sym same) c.lines.ensures.reading
