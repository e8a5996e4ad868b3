use Rattle.roll_core.proofs.Words.{rules, ◌∙◌, Ok, ap, map, refl, slice_index_or, accepted, meant, seen}
use Rattle.roll_core.proofs.Words.sites
use Rattle.roll_core.proofs.Words.statement
use Rattle.roll_core.proofs.Reached.{rows_show}
use Rattle.roll_core.proofs.Settled.{Settled, count_is, refused_comes, settled_with, writing_at}
use Rattle.roll_core.proofs.Tables.{read_at, site_there}
use Rattle.roll_core.proofs.writing.written.Goals as goal

pub place_of-at-requires : goal.place_of-at-requires
place_of-at-requires c = site_there c.args.frame.now (map seen c.args.tables.now) (sites.site_of c.args.site) c.requires.runs c.requires.there

pub accepted_changes-requires-clause-few : goal.accepted_changes-requires-clause-few
accepted_changes-requires-clause-few c = (count_is c.args.frame.now c.args.tables.now c.row_count-count.result c.requires.runs.stands c.row_count-count.ensures).1

pub accepted_changes-requires-clause-shows : goal.accepted_changes-requires-clause-shows
accepted_changes-requires-clause-shows c =
    let tables = c.args.tables.now in
    let at = c.place_of-at.result in
    let site = sites.site_of c.args.site in
    let table = slice_index_or tables at c.index-tables-at.result in
    let read = read_at tables at (sites.number_of site.here) c.index-tables-at.result table c.place_of-at.ensures.within c.place_of-at.ensures.here refl in
    rows_show c.laws_below.ensures c.args.frame.now (map seen tables) at (seen table) site c.requires.runs c.requires.there read

pub returns-in_err-made-clause-answers : goal.returns-in_err-made-clause-answers
returns-in_err-made-clause-answers c =
    let frame = c.args.frame.now in
    let tables = map seen c.args.tables.now in
    let site = sites.site_of c.args.site in
    let count = c.row_count-count.result in
    let table = slice_index_or c.args.tables.now c.place_of-at.result c.index-tables-at.result in
    let writing = writing_at c.laws_below.ensures frame c.args.tables.now c.place_of-at.result c.index-tables-at.result c.args.job.now site count c.requires.runs c.requires.there c.requires.statement c.requires.job
    c.place_of-at.ensures.within c.place_of-at.ensures.here c.row_count-count.ensures in
    refused_comes frame tables (statement.written (meant frame tables) site c.args.job.now) (accepted (seen table) count site c.args.job.now) c.in_err-made.field-0.0 c.from_residual.result (search rules) c.in_err-made.ensures writing.refuses

settled : (c : goal.After-drop-made-inside-2) → Settled c.args.frame.now (map seen c.args.tables.now) (statement.written (meant c.args.frame.now (map seen c.args.tables.now)) (sites.site_of c.args.site) c.args.job.now) c.in_ok-put_at.field-0 (map seen c.put_at.new.tables)
settled c =
    let frame = c.args.frame.now in
    let tables = map seen c.args.tables.now in
    let site = sites.site_of c.args.site in
    let d = c.index-tables-at.result in
    let table = slice_index_or c.args.tables.now c.place_of-at.result d in
    let writing = writing_at c.laws_below.ensures frame c.args.tables.now c.place_of-at.result d c.args.job.now site c.row_count-count.result c.requires.runs c.requires.there c.requires.statement c.requires.job
    c.place_of-at.ensures.within c.place_of-at.ensures.here c.row_count-count.ensures in
    let all = c.as_slice.result.now in
    let done = writing.settles all (c.in_ok-made.ensures ∙ ap Ok (search rules)) in
    settled_with frame c.args.tables.now c.place_of-at.result d table (statement.written (meant frame tables) site c.args.job.now) c.in_ok-put_at.field-0 (statement.written_reply site c.args.job.now all) all (map seen c.put_at.new.tables) c.place_of-at.ensures.within refl c.in_ok-put_at.ensures.reply c.in_ok-put_at.ensures.ok done

pub returns-clause-answers : goal.returns-clause-answers
returns-clause-answers c = (settled c).comes

pub returns-clause-forms : goal.returns-clause-forms
returns-clause-forms c = (settled c).forms

pub returns-clause-stored : goal.returns-clause-stored
returns-clause-stored c = (settled c).stored
