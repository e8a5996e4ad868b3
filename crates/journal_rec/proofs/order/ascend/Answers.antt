use Rattle.std.proofs.Common.{rules}
use Rattle.std.proofs.lemmas.List.Sorted.{answers_always}
use Rattle.journal_rec.proofs.Ascending.{below, answer_is}
use Rattle.journal_rec.proofs.order.ascend.Goals as goal

pub returns : goal.returns
returns c = answer_is c.args.rows.now c.is_sorted_by.result (c.is_sorted_by.ensures.cases below (answers_always _ _ _ (λ f a r g h. search rules)))
