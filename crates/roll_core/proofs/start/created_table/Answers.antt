use Rattle.roll_core.proofs.Words.{◌∙◌, List, New, Own, OwnTable, StoredRow, StoredTable, ap, seen}
use Rattle.roll_core.proofs.Stepped.{none_stored}
use Rattle.roll_core.proofs.start.created_table.Goals as goal

pub returns : goal.returns
returns c =
    let with_them : List StoredRow → StoredTable = λ rows. record { number = c.args.number; form = Own New; rows = rows } in
    ap seen c.in_ok-table.ensures ∙ ap with_them (none_stored c.new.result.rows c.new.ensures)
