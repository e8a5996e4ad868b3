use Rattle.std.proofs.Common.{◌≡◌, ◌∙◌, ℤ, List, ap, sym, int_cmp, to_z, of_z, w64}
use Rattle.std.proofs.lemmas.Int.{to_z-of_z}
use Rattle.std.specs.FinMap as map
use Rattle.sql_base.specs.declared.values.Value.{Value}
use Rattle.row_store.specs.Stored.{Stored}
use Rattle.row_store.proofs.Maps.{get-map_of, map_of}
use Rattle.row_store.proofs.rows.RowStore.get.Goals as goal

pub returns : goal.returns
returns c =
    let items : List (ℤ × List Value) = c.self.inside.rows.items in
    let rows : map_of items ≡ c.args.self.now.rows = ap (λ (s : Stored). s.rows) c.self.view_is in
    let key : ℤ = c.args.key in
    let same : to_z w64 (of_z w64 key) ≡ key = to_z-of_z w64 key c.ranges.key in
    c.row_of.ensures ∙ ap (λ k. map.find int_cmp k c.as_slice.result.now) same ∙ ap (map.find int_cmp key) c.as_slice.ensures.value ∙ sym (get-map_of items key c.self.invariant) ∙ ap (λ m. map.get m key) rows
