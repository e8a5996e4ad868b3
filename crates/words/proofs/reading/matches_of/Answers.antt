use Rattle.std.proofs.Common.{ap, sym, ◌≡◌, ◌∙◌, inl, inr, [], map, List}
use Rattle.clap.specs.Words.{Text, app_of, fault_of, is_simple, is_simple_and_free, matches_of}
use Rattle.words.specs.Words as spec
use Rattle.words.proofs.Simple.{simple, simple_and_free}
use Rattle.words.proofs.reading.matches_of.Goals as goal

pub returns-in-Ok : goal.returns-in-Ok
unfolding spec.refusals spec.rows
returns-in-Ok c =
    let app_is : app_of c.in_ok-app.app ≡ spec.app = c.in_ok-app.ensures in
    let texts : List Text = map (λ w. w.now) c.args.words.now in
    let none : fault_of (app_of c.in_ok-app.app) texts ≡ [] = c.in-Ok.ensures.kinds (ap is_simple_and_free app_is ∙ simple_and_free) in
    let held = c.in-Ok.ensures.matches (ap is_simple app_is ∙ simple) in
    (ap (λ a. fault_of a texts) (sym app_is) ∙ none, held.0 ∙ ap (λ a. matches_of a texts) app_is)

pub returns : goal.returns
unfolding spec.refusals
returns c =
    let app_is : app_of c.in_ok-app.app ≡ spec.app = c.in_ok-app.ensures in
    let texts : List Text = map (λ w. w.now) c.args.words.now in
    let kinds = c.in-Err.ensures.kinds (ap is_simple_and_free app_is ∙ simple_and_free) in
    λ none. elim kinds [
      | inl memory ↦ c.in_default.not-OutOfMemory (c.kind.ensures ∙ memory)
      | inr among ↦ let empty : fault_of (app_of c.in_ok-app.app) texts ≡ [] = ap (λ a. fault_of a texts) app_is ∙ none in rw empty at among
    ]
