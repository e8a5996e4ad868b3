use Rattle.std.proofs.Common.{arith, ◌≡◌, ◌≤◌, ◌∙◌, ℤ, ap, length, sym, to_z, of_z, w64}
use Rattle.std.proofs.lemmas.Int.{to_z-of_z}
use Rattle.std.specs.Prelude.{insert, is_some, slice_get, slice_set}
use Rattle.row_store.specs.Place.{place, value_at}
use Rattle.row_store.proofs.Placed.{find_place, has_at, has_none, place_within, put_fresh, put_known}
use Rattle.row_store.proofs.changing.put.Goals as goal

pub returns-then-has_key_at-clause-former : goal.returns-then-has_key_at-clause-former
returns-then-has_key_at-clause-former c =
    let key : ℤ = c.args.key in
    let items = c.args.rows.now.items in
    let same : to_z w64 (of_z w64 key) ≡ key = to_z-of_z w64 c.args.key c.ranges.key in
    let here : c.place-at.result ≡ place key items = c.place-at.ensures ∙ ap (λ k. place k c.as_slice.result.now) same ∙ ap (place key) c.as_slice.ensures.value in
    let test : c.has_key_at.result ≡ is_some (value_at key (slice_get items c.place-at.result)) =
    c.has_key_at.ensures ∙ ap (λ k. is_some (value_at k (slice_get c.as_slice-2.result.now c.place-at.result))) same
    ∙ ap (λ entries. is_some (value_at key (slice_get entries c.place-at.result))) c.as_slice-2.ensures.value in
    let has = has_at key items c.place-at.result c.exchange.result here (sym test ∙ c.if-has_key_at.true) c.exchange.ensures.former in
    sym (find_place key items c.requires.rises ∙ has)

pub returns-then-has_key_at-clause-items : goal.returns-then-has_key_at-clause-items
returns-then-has_key_at-clause-items c =
    let key : ℤ = c.args.key in
    let items = c.args.rows.now.items in
    let same : to_z w64 (of_z w64 key) ≡ key = to_z-of_z w64 c.args.key c.ranges.key in
    let here : c.place-at.result ≡ place key items = c.place-at.ensures ∙ ap (λ k. place k c.as_slice.result.now) same ∙ ap (place key) c.as_slice.ensures.value in
    let test : c.has_key_at.result ≡ is_some (value_at key (slice_get items c.place-at.result)) =
    c.has_key_at.ensures ∙ ap (λ k. is_some (value_at k (slice_get c.as_slice-2.result.now c.place-at.result))) same
    ∙ ap (λ entries. is_some (value_at key (slice_get entries c.place-at.result))) c.as_slice-2.ensures.value in
    let has = has_at key items c.place-at.result c.exchange.result here (sym test ∙ c.if-has_key_at.true) c.exchange.ensures.former in
    c.exchange.ensures.items ∙ ap (λ k. slice_set items c.place-at.result (k, c.args.row)) same ∙ ap (λ at. slice_set items at (key, c.args.row)) here ∙ sym (put_known key c.args.row c.exchange.result.1 items has).1

pub insert_reserved-requires-clause-within : goal.insert_reserved-requires-clause-within
insert_reserved-requires-clause-within c =
    let key : ℤ = c.args.key in
    let items = c.args.rows.now.items in
    let same : to_z w64 (of_z w64 key) ≡ key = to_z-of_z w64 c.args.key c.ranges.key in
    let here : c.place-at.result ≡ place key items = c.place-at.ensures ∙ ap (λ k. place k c.as_slice.result.now) same ∙ ap (place key) c.as_slice.ensures.value in
    let test : c.has_key_at.result ≡ is_some (value_at key (slice_get items c.place-at.result)) =
    c.has_key_at.ensures ∙ ap (λ k. is_some (value_at k (slice_get c.as_slice-2.result.now c.place-at.result))) same
    ∙ ap (λ entries. is_some (value_at key (slice_get entries c.place-at.result))) c.as_slice-2.ensures.value in
    let within : place key items ≤ length items = place_within key items in omega (arith, here, c.as_slice.ensures.len, ap length c.as_slice.ensures.value)

pub insert_reserved-requires-clause-room : goal.insert_reserved-requires-clause-room
insert_reserved-requires-clause-room c =
    let key : ℤ = c.args.key in
    let items = c.args.rows.now.items in
    let same : to_z w64 (of_z w64 key) ≡ key = to_z-of_z w64 c.args.key c.ranges.key in
    let here : c.place-at.result ≡ place key items = c.place-at.ensures ∙ ap (λ k. place k c.as_slice.result.now) same ∙ ap (place key) c.as_slice.ensures.value in
    let test : c.has_key_at.result ≡ is_some (value_at key (slice_get items c.place-at.result)) =
    c.has_key_at.ensures ∙ ap (λ k. is_some (value_at k (slice_get c.as_slice-2.result.now c.place-at.result))) same
    ∙ ap (λ entries. is_some (value_at key (slice_get entries c.place-at.result))) c.as_slice-2.ensures.value in
    let none = has_none key items c.place-at.result here (sym test ∙ c.if-has_key_at.false) in
    c.requires.room (find_place key items c.requires.rises ∙ none)

pub returns-clause-former : goal.returns-clause-former
returns-clause-former c =
    let key : ℤ = c.args.key in
    let items = c.args.rows.now.items in
    let same : to_z w64 (of_z w64 key) ≡ key = to_z-of_z w64 c.args.key c.ranges.key in
    let here : c.place-at.result ≡ place key items = c.place-at.ensures ∙ ap (λ k. place k c.as_slice.result.now) same ∙ ap (place key) c.as_slice.ensures.value in
    let test : c.has_key_at.result ≡ is_some (value_at key (slice_get items c.place-at.result)) =
    c.has_key_at.ensures ∙ ap (λ k. is_some (value_at k (slice_get c.as_slice-2.result.now c.place-at.result))) same
    ∙ ap (λ entries. is_some (value_at key (slice_get entries c.place-at.result))) c.as_slice-2.ensures.value in
    let none = has_none key items c.place-at.result here (sym test ∙ c.if-has_key_at.false) in
    sym (find_place key items c.requires.rises ∙ none)

pub returns-clause-items : goal.returns-clause-items
returns-clause-items c =
    let key : ℤ = c.args.key in
    let items = c.args.rows.now.items in
    let same : to_z w64 (of_z w64 key) ≡ key = to_z-of_z w64 c.args.key c.ranges.key in
    let here : c.place-at.result ≡ place key items = c.place-at.ensures ∙ ap (λ k. place k c.as_slice.result.now) same ∙ ap (place key) c.as_slice.ensures.value in
    let test : c.has_key_at.result ≡ is_some (value_at key (slice_get items c.place-at.result)) =
    c.has_key_at.ensures ∙ ap (λ k. is_some (value_at k (slice_get c.as_slice-2.result.now c.place-at.result))) same
    ∙ ap (λ entries. is_some (value_at key (slice_get entries c.place-at.result))) c.as_slice-2.ensures.value in
    let none = has_none key items c.place-at.result here (sym test ∙ c.if-has_key_at.false) in
    c.insert_reserved.ensures.items ∙ ap (λ k. insert items c.place-at.result (k, c.args.row)) same ∙ ap (λ at. insert items at (key, c.args.row)) here ∙ sym (put_fresh key c.args.row items none)
