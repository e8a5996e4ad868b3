use Rattle.std.proofs.Common.{subst}
use Rattle.std.proofs.lemmas.List.Elements.{All-more}
use Rattle.journal_rec.specs.Body.{IsProperRow, row_bytes}
use Rattle.journal_rec.proofs.Pushed.{one_more}
use Rattle.journal_rec.proofs.writing.push_rows.Goals as goal

pub loop-row-preserved : goal.loop-row-preserved
loop-row-preserved c =
    let row = c.row-item.result in let lt = c.loop-row-test.true in record {
      written = one_more row_bytes _ _ row _ _ _ lt c.row-item.is c.loop-row.invariant.written c.in_ok-push_row.ensures.written;
      proper = All-more IsProperRow _ _ row lt c.loop-row.invariant.proper (subst IsProperRow c.row-item.is c.in_ok-push_row.ensures.proper);
    }
