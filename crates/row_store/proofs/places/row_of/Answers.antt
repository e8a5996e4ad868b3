use Rattle.std.proofs.Common.{◌≡◌, ◌∙◌, ℤ, ap, sym, w64}
use Rattle.std.proofs.lemmas.Int.{to_z-of_z}
use Rattle.std.specs.Prelude.{slice_get}
use Rattle.row_store.specs.Place.{place, value_at}
use Rattle.row_store.proofs.Placed.{find_place}
use Rattle.row_store.proofs.places.row_of.Goals as goal

pub returns : goal.returns
returns c =
    let key : ℤ = c.args.key in
    let rows = c.args.rows.now in
    let here : c.place.result ≡ place key rows = c.place.ensures ∙ ap (λ k. place k rows) (to_z-of_z w64 c.args.key c.ranges.key) in
    c.row_at.ensures ∙ ap (λ k. value_at k (slice_get rows c.place.result)) (to_z-of_z w64 c.args.key c.ranges.key) ∙ ap (λ at. value_at key (slice_get rows at)) here ∙ sym (find_place key rows c.requires)
