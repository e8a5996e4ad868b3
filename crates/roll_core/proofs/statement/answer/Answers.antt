use Rattle.roll_core.proofs.Words.{◌≡◌, ◌∙◌, Ok, Result, map, ap, refl, and_then, Reply, Set, answered, Begun, Sets, begun, finished, meant, seen}
use Rattle.roll_core.proofs.Words.sites
use Rattle.roll_core.proofs.Words.plain
use Rattle.roll_core.proofs.Begun.{begun-meant, shows_site, writes_site}
use Rattle.roll_core.proofs.statement.answer.Goals as goal

pub written-requires : goal.written-requires
written-requires c =
    let site = sites.site_of c.in-Writes.site in
    let there = writes_site c.laws_below.ensures c.args.frame.now (map seen c.args.tables.now) c.args.path.now c.args.stmt.now site c.in-Writes.job c.requires
    (c.in_ok-site.ensures ∙ ap (λ b. Ok (plain.begun b)) c.in-Writes.is) in
    record { runs = c.requires; there = there.0; job = there.1; statement = there.2 }

pub shown-requires-clause-there : goal.shown-requires-clause-there
shown-requires-clause-there c =
    shows_site c.laws_below.ensures c.args.frame.now (map seen c.args.tables.now) c.args.path.now c.args.stmt.now (sites.site_of c.in-Shows.site) c.in-Shows.items.now c.in-Shows.condition.now c.requires
    (c.in_ok-site.ensures ∙ ap (λ b. Ok (plain.begun b)) c.in-Shows.is)

pub returns-in-Sets-clause-answers : goal.returns-in-Sets-clause-answers
returns-in-Sets-clause-answers c =
    let tables = map seen c.args.tables.now in
    let s = meant c.args.frame.now tables in
    let is : begun s c.args.path.now c.args.stmt.now ≡ Ok Sets = begun-meant c.args.frame.now tables c.args.path.now c.args.stmt.now ∙ c.in_ok-site.ensures ∙ ap (λ b. Ok (plain.begun b)) c.in-Sets.is in
    (answered s Set, ap (λ (b : Result Begun Reply). and_then b (finished s)) is, refl, refl, λ h. refl)
