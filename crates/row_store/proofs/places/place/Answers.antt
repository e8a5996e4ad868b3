use Rattle.std.proofs.Common.{arith, ◌≡◌, ◌<◌, ◌+◌, ◌-◌, ◌/◌, ◌∙◌, ℕ, ℤ, Greater, int_cmp, length, sym, to_z, of_z, w64}
use Rattle.std.specs.Prelude.{slice_index_or}
use Rattle.row_store.proofs.Placed.{is_got, place_past, place_upto, place_within}
use Rattle.row_store.proofs.places.place.Goals as goal

pub loop-low-init : goal.loop-low-init
loop-low-init c = let within = place_within (to_z w64 (of_z w64 c.args.key)) c.args.rows.now in (omega arith, within, omega arith)

pub loop-low-preserved-in-Greater : goal.loop-low-preserved-in-Greater
loop-low-preserved-in-Greater c =
    let key : ℤ = to_z w64 (of_z w64 c.args.key) in
    let middle : ℕ = c.loop-low.low + (c.loop-low.high - c.loop-low.low) / 2 in
    let d = c.index-rows-middle.result in
    let rows = c.args.rows.now in
    let invariant = c.loop-low.invariant in
    let within : middle < length rows = omega (arith, c.loop-low-test.true, invariant.2) in
    let greater : int_cmp key (slice_index_or rows middle d).0 ≡ Greater = sym c.cmp.ensures ∙ c.in-Greater.is in
    let past = place_past key rows middle (slice_index_or rows middle d) c.requires (is_got rows middle d within) greater in
    (omega (arith, past), invariant.1, invariant.2)

pub loop-low-preserved : goal.loop-low-preserved
loop-low-preserved c =
    let key : ℤ = to_z w64 (of_z w64 c.args.key) in
    let middle : ℕ = c.loop-low.low + (c.loop-low.high - c.loop-low.low) / 2 in
    let d = c.index-rows-middle.result in
    let rows = c.args.rows.now in
    let invariant = c.loop-low.invariant in
    let within : middle < length rows = omega (arith, c.loop-low-test.true, invariant.2) in
    let upto = place_upto key rows middle (slice_index_or rows middle d) (is_got rows middle d within) (λ greater. c.in_default.not-Greater (c.cmp.ensures ∙ greater)) in
    (invariant.0, upto, omega (arith, within))
