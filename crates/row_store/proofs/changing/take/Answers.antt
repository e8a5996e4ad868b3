use Rattle.std.proofs.Common.{arith, ◌≡◌, ◌∙◌, ℤ, Some, ap, length, sym, to_z, of_z, w64}
use Rattle.std.proofs.lemmas.Int.{to_z-of_z}
use Rattle.std.specs.Prelude.{is_some, remove, slice_get}
use Rattle.row_store.specs.Place.{place, value_at}
use Rattle.row_store.proofs.Placed.{find_place, has_at, has_none, has_within, is_got, without_absent, without_known}
use Rattle.row_store.proofs.changing.take.Goals as goal

pub returns-then-not-has_key_at-clause-former : goal.returns-then-not-has_key_at-clause-former
returns-then-not-has_key_at-clause-former c =
    let key : ℤ = c.args.key in
    let items = c.args.rows.now.items in
    let same : to_z w64 (of_z w64 key) ≡ key = to_z-of_z w64 c.args.key c.ranges.key in
    let here : c.place-at.result ≡ place key items = c.place-at.ensures ∙ ap (λ k. place k c.as_slice.result.now) same ∙ ap (place key) c.as_slice.ensures.value in
    let test : c.has_key_at.result ≡ is_some (value_at key (slice_get items c.place-at.result)) =
    c.has_key_at.ensures ∙ ap (λ k. is_some (value_at k (slice_get c.as_slice-2.result.now c.place-at.result))) same
    ∙ ap (λ entries. is_some (value_at key (slice_get entries c.place-at.result))) c.as_slice-2.ensures.value in
    let none = has_none key items c.place-at.result here (sym test ∙ c.if-not-has_key_at.true) in
    sym (find_place key items c.requires ∙ none)

pub returns-then-not-has_key_at-clause-items : goal.returns-then-not-has_key_at-clause-items
returns-then-not-has_key_at-clause-items c =
    let key : ℤ = c.args.key in
    let items = c.args.rows.now.items in
    let same : to_z w64 (of_z w64 key) ≡ key = to_z-of_z w64 c.args.key c.ranges.key in
    let here : c.place-at.result ≡ place key items = c.place-at.ensures ∙ ap (λ k. place k c.as_slice.result.now) same ∙ ap (place key) c.as_slice.ensures.value in
    let test : c.has_key_at.result ≡ is_some (value_at key (slice_get items c.place-at.result)) =
    c.has_key_at.ensures ∙ ap (λ k. is_some (value_at k (slice_get c.as_slice-2.result.now c.place-at.result))) same
    ∙ ap (λ entries. is_some (value_at key (slice_get entries c.place-at.result))) c.as_slice-2.ensures.value in
    let none = has_none key items c.place-at.result here (sym test ∙ c.if-not-has_key_at.true) in
    sym (without_absent key items (find_place key items c.requires ∙ none))

pub remove-requires : goal.remove-requires
remove-requires c =
    let key : ℤ = c.args.key in
    let items = c.args.rows.now.items in
    let same : to_z w64 (of_z w64 key) ≡ key = to_z-of_z w64 c.args.key c.ranges.key in
    let here : c.place-at.result ≡ place key items = c.place-at.ensures ∙ ap (λ k. place k c.as_slice.result.now) same ∙ ap (place key) c.as_slice.ensures.value in
    let test : c.has_key_at.result ≡ is_some (value_at key (slice_get items c.place-at.result)) =
    c.has_key_at.ensures ∙ ap (λ k. is_some (value_at k (slice_get c.as_slice-2.result.now c.place-at.result))) same
    ∙ ap (λ entries. is_some (value_at key (slice_get entries c.place-at.result))) c.as_slice-2.ensures.value in
    let within = has_within key items c.place-at.result (sym test ∙ c.if-not-has_key_at.false) in
    omega (arith, within, c.as_slice.ensures.len, ap length c.as_slice.ensures.value)

pub returns-clause-former : goal.returns-clause-former
returns-clause-former c =
    let key : ℤ = c.args.key in
    let items = c.args.rows.now.items in
    let same : to_z w64 (of_z w64 key) ≡ key = to_z-of_z w64 c.args.key c.ranges.key in
    let here : c.place-at.result ≡ place key items = c.place-at.ensures ∙ ap (λ k. place k c.as_slice.result.now) same ∙ ap (place key) c.as_slice.ensures.value in
    let test : c.has_key_at.result ≡ is_some (value_at key (slice_get items c.place-at.result)) =
    c.has_key_at.ensures ∙ ap (λ k. is_some (value_at k (slice_get c.as_slice-2.result.now c.place-at.result))) same
    ∙ ap (λ entries. is_some (value_at key (slice_get entries c.place-at.result))) c.as_slice-2.ensures.value in
    let within = has_within key items c.place-at.result (sym test ∙ c.if-not-has_key_at.false) in
    let got : slice_get items c.place-at.result ≡ Some c.remove.result = is_got items c.place-at.result c.remove.result within ∙ ap Some (sym c.remove.ensures.value) in
    let has = has_at key items c.place-at.result c.remove.result here (sym test ∙ c.if-not-has_key_at.false) got in
    sym (find_place key items c.requires ∙ has)

pub returns-clause-items : goal.returns-clause-items
returns-clause-items c =
    let key : ℤ = c.args.key in
    let items = c.args.rows.now.items in
    let same : to_z w64 (of_z w64 key) ≡ key = to_z-of_z w64 c.args.key c.ranges.key in
    let here : c.place-at.result ≡ place key items = c.place-at.ensures ∙ ap (λ k. place k c.as_slice.result.now) same ∙ ap (place key) c.as_slice.ensures.value in
    let test : c.has_key_at.result ≡ is_some (value_at key (slice_get items c.place-at.result)) =
    c.has_key_at.ensures ∙ ap (λ k. is_some (value_at k (slice_get c.as_slice-2.result.now c.place-at.result))) same
    ∙ ap (λ entries. is_some (value_at key (slice_get entries c.place-at.result))) c.as_slice-2.ensures.value in
    let within = has_within key items c.place-at.result (sym test ∙ c.if-not-has_key_at.false) in
    let got : slice_get items c.place-at.result ≡ Some c.remove.result = is_got items c.place-at.result c.remove.result within ∙ ap Some (sym c.remove.ensures.value) in
    let has = has_at key items c.place-at.result c.remove.result here (sym test ∙ c.if-not-has_key_at.false) got in
    c.remove.ensures.items ∙ ap (remove items) here ∙ sym (without_known key c.remove.result.1 items c.requires has)
