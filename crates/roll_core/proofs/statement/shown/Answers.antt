use Rattle.roll_core.proofs.Words.{◌≡◌, ◌∙◌, Ok, Err, Result, List, map, ap, refl, sym, Value, and_then, Kept, SqlError, max_reply, map_fault, rows_shown, Select, answered, error_reply, meant, seen}
use Rattle.roll_core.proofs.Words.sites
use Rattle.roll_core.proofs.Reached.{rows_show}
use Rattle.roll_core.proofs.Tables.{read_at, rows_of-read, site_there}
use Rattle.roll_core.proofs.statement.shown.Goals as goal

pub place_of-at-requires : goal.place_of-at-requires
place_of-at-requires c = site_there c.args.frame.now (map seen c.args.tables.now) (sites.site_of c.args.site) c.requires.runs c.requires.there

pub shown_reached-requires : goal.shown_reached-requires
shown_reached-requires c =
    let tables = c.args.tables.now in
    let at = c.place_of-at.result in
    let site = sites.site_of c.args.site in
    let read = read_at tables at (sites.number_of site.here) c.index-tables-at.result _ c.place_of-at.ensures.within c.place_of-at.ensures.here c.index-tables-at.is in
    rows_show c.laws_below.ensures c.args.frame.now (map seen tables) at _ site c.requires.runs c.requires.there read

pub returns-in-Ok : goal.returns-in-Ok
returns-in-Ok c =
    let tables = map seen c.args.tables.now in
    let site = sites.site_of c.args.site in
    let s = meant c.args.frame.now tables in
    let read = read_at c.args.tables.now c.place_of-at.result (sites.number_of site.here) c.index-tables-at.result c.index-tables-at.result c.place_of-at.ensures.within c.place_of-at.ensures.here c.index-tables-at.is in
    let rows = rows_of-read c.laws_below.ensures c.args.frame.now tables c.place_of-at.result (sites.number_of site.here) (seen c.index-tables-at.result) c.requires.runs.stands read in
    let next = λ (r : Result (List (List Value)) SqlError). and_then (map_fault error_reply r) (λ rows. Ok (answered s (Select rows))) in
    (answered s (Select c.in-Ok.rows), ap (λ (all : List Kept). next (rows_shown site c.args.items.now c.args.condition.now max_reply all)) rows ∙ ap next c.in-Ok.ensures, refl, refl, λ h. refl)

pub returns-in-Err-Because : goal.returns-in-Err-Because
returns-in-Err-Because c =
    let tables = map seen c.args.tables.now in
    let site = sites.site_of c.args.site in
    let s = meant c.args.frame.now tables in
    let read = read_at c.args.tables.now c.place_of-at.result (sites.number_of site.here) c.index-tables-at.result c.index-tables-at.result c.place_of-at.ensures.within c.place_of-at.ensures.here c.index-tables-at.is in
    let rows = rows_of-read c.laws_below.ensures c.args.frame.now tables c.place_of-at.result (sites.number_of site.here) (seen c.index-tables-at.result) c.requires.runs.stands read in
    let next = λ (r : Result (List (List Value)) SqlError). and_then (map_fault error_reply r) (λ rows. Ok (answered s (Select rows))) in
    let fault : rows_shown site c.args.items.now c.args.condition.now max_reply _ ≡ Err c.in-Err-Because.error = rw c.in-Err-Because.field-0-is at c.in-Err-Because.ensures in
    (ap (λ (all : List Kept). next (rows_shown site c.args.items.now c.args.condition.now max_reply all)) rows ∙ ap next fault ∙ ap Err (sym c.error_reply.ensures), refl)
