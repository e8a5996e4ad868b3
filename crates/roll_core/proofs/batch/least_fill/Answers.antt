use Rattle.roll_core.proofs.Words.{◌≡◌, ◌∙◌, None, ap, map, sym, subst, guarded, CommandOutcome, as_outcome, first_of, least_batch, least_fill, may_not_fill, unfilled_tables, batch_at, Comes, meant}
use Rattle.roll_core.proofs.Words.{seen}
use Rattle.roll_core.proofs.Missing.{first_table}
use Rattle.roll_core.proofs.batch.least_fill.Goals as goal

pub returns-clause-answers : goal.returns-clause-answers
returns-clause-answers c =
    let tables = map seen c.args.tables.now in
    let s = meant c.args.frame.now tables in
    let may : may_not_fill s c.args.n ≡ None = sym c.in_ok-refusal.ensures ∙ c.in_default.is in
    let is : least_fill s c.args.n ≡ batch_at c.args.frame.now tables c.unfilled_at-first.result c.args.n = ap (λ o. guarded o (least_batch s c.args.n (first_of (unfilled_tables s)))) may ∙ ap (least_batch s c.args.n) (first_table c.laws_below.ensures c.args.frame.now tables c.args.n c.unfilled_at-first.result c.requires may c.unfilled_at-first.ensures) in
    subst (λ (o : CommandOutcome). Comes c.args.frame.now tables (as_outcome o) c.fill_first.result (map seen c.fill_first.new.tables)) (sym is) c.fill_first.ensures.answers
