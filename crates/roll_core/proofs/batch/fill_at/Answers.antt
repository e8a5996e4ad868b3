use Rattle.roll_core.proofs.Words.{slice_get-get_or, ◌≡◌, ◌∙◌, Some, ap, map, sym, subst, slice_get, filling_site, shared, Job, Site, FillsThrough, seen}
use Rattle.roll_core.proofs.Words.plain
use Rattle.roll_core.specs.Seen.{OwnTable as StoredTable}
use Rattle.roll_core.proofs.Filling.{alone, filled}
use Rattle.roll_core.proofs.batch.fill_at.Goals as goal

pub returns-in_default : goal.returns-in_default
returns-in_default c =
    let got : slice_get c.args.tables.now c.args.at ≡ Some c.index-tables-at.result = slice_get-get_or c.args.tables.now c.args.at c.index-tables-at.result c.requires.within ∙ ap Some (sym c.index-tables-at.is) in
    alone c.args.frame.now c.args.tables.now c.args.at c.args.n c.index-tables-at.result c.requires.runs got (ap (λ (t : StoredTable). shared c.args.frame.now t.number) (c.index-tables-at.is ∙ sym c.table.view_is) ∙ sym c.in_default.ensures)

pub returns : goal.returns
returns c =
    let got : slice_get c.args.tables.now c.args.at ≡ Some c.index-tables-at.result = slice_get-get_or c.args.tables.now c.args.at c.index-tables-at.result c.requires.within ∙ ap Some (sym c.index-tables-at.is) in
    let both = plain.pair c.in-Some.pair in
    let site = subst (λ (s : Site). FillsThrough s c.args.job.now c.args.at c.args.n c.args.tables.now c.fill_through.result (map seen c.fill_through.new.tables)) c.filling_site.ensures c.fill_through.ensures in
    let through = subst (λ (j : Job). FillsThrough (filling_site c.args.frame.now both) j c.args.at c.args.n c.args.tables.now c.fill_through.result (map seen c.fill_through.new.tables)) c.requires.job site in
    filled c.laws_below.ensures c.args.frame.now c.args.tables.now c.args.at c.args.n (record { table = c.index-tables-at.result; both = both; here = got; shares = ap (λ (t : StoredTable). shared c.args.frame.now t.number) (c.index-tables-at.is ∙ sym c.table.view_is) ∙ sym c.in-Some.ensures }) c.requires.runs c.fill_through.result (map seen c.fill_through.new.tables) through
