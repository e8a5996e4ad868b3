use Rattle.std.proofs.Common.{◌≡◌, ◌∙◌, ℤ, ap, sym, w64}
use Rattle.std.proofs.lemmas.Int.{to_z-of_z}
use Rattle.std.specs.Prelude.{slice_get}
use Rattle.row_store.specs.Place.{place}
use Rattle.row_store.proofs.Placed.{first_place}
use Rattle.row_store.proofs.places.pair_from.Goals as goal

pub returns : goal.returns
returns c =
    let key : ℤ = c.args.key in
    let rows = c.args.rows.now in
    let here : c.place.result ≡ place key rows = c.place.ensures ∙ ap (λ k. place k rows) (to_z-of_z w64 c.args.key c.ranges.key) in
    c.pair_at.ensures ∙ ap (slice_get rows) here ∙ sym (first_place key rows)
