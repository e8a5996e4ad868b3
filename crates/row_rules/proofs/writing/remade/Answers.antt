use Rattle.std.proofs.Common.{◌≡◌, Ok, Err, w64, to_z, of_z, rules, sym, subst}
use Rattle.row_rules.proofs.Calls.{stopped, went_on}
use Rattle.row_rules.proofs.Making.{made_then_sound}
use Rattle.row_rules.specs.Accept.{sound}
use Rattle.row_rules.specs.Inner.{made}
use Rattle.row_rules.specs.Outcome.{Answers}
use Rattle.row_rules.specs.Site.{site_of}
use Rattle.row_rules.proofs.writing.remade.Goals as goal

pub returns-in-Err : goal.returns-in-Err
returns-in-Err c =
    let site = site_of c.args.site in
    let same : to_z w64 (of_z w64 c.args.key) ≡ c.args.key = search rules in
    let told = subst (λ key. Answers (made site key c.args.lost c.args.before.now c.args.half) (Err c.in-Err.stop)) same c.in-Err.ensures in
    subst (λ wanted. Answers wanted (Err c.in-Err.stop)) (sym (made_then_sound site c.args.key c.args.lost c.args.before.now c.args.half))
    (stopped (made site c.args.key c.args.lost c.args.before.now c.args.half) (sound site) c.in-Err.stop told)

pub returns-in-Ok : goal.returns-in-Ok
returns-in-Ok c =
    let site = site_of c.args.site in
    let same : to_z w64 (of_z w64 c.args.key) ≡ c.args.key = search rules in
    let told = subst (λ key. made site key c.args.lost c.args.before.now c.args.half ≡ Ok c.in-Ok.row) same c.in-Ok.ensures in
    subst (λ wanted. Answers wanted c.sound.result) (sym (made_then_sound site c.args.key c.args.lost c.args.before.now c.args.half))
    (went_on (made site c.args.key c.args.lost c.args.before.now c.args.half) (sound site) c.in-Ok.row c.sound.result told c.sound.ensures)
