use Rattle.std.proofs.Common.{subst}
use Rattle.std.proofs.lemmas.List.Elements.{All-more}
use Rattle.journal_rec.specs.Body.{IsProperValue, value_bytes}
use Rattle.journal_rec.proofs.Pushed.{one_more}
use Rattle.journal_rec.proofs.writing.push_values.Goals as goal

pub loop-value-preserved : goal.loop-value-preserved
loop-value-preserved c =
    let value = c.value-item.result in let lt = c.loop-value-test.true in record {
      written = one_more value_bytes _ _ value _ _ _ lt c.value-item.is c.loop-value.invariant.written c.in_ok-push_value.ensures.written;
      proper = All-more IsProperValue _ _ value lt c.loop-value.invariant.proper (subst IsProperValue c.value-item.is c.in_ok-push_value.ensures.proper);
    }
