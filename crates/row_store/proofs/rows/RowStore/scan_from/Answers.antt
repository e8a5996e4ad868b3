use Rattle.std.proofs.Common.{◌≡◌, ◌∙◌, ℤ, List, ap, sym, int_cmp, to_z, of_z, w64}
use Rattle.std.proofs.lemmas.Int.{to_z-of_z}
use Rattle.std.specs.FinMap as map
use Rattle.std.specs.List as list
use Rattle.std.specs.Ordering.{is_le}
use Rattle.sql_base.specs.declared.values.Value.{Value}
use Rattle.row_store.specs.Stored.{Stored}
use Rattle.row_store.proofs.Maps.{entries-map_of, map_of}
use Rattle.row_store.proofs.rows.RowStore.scan_from.Goals as goal

pub returns : goal.returns
returns c =
    let items : List (ℤ × List Value) = c.self.inside.rows.items in
    let rows : map_of items ≡ c.args.self.now.rows = ap (λ (s : Stored). s.rows) c.self.view_is in
    let entries : c.as_slice.result.now ≡ map.entries c.args.self.now.rows = c.as_slice.ensures.value ∙ sym (entries-map_of items c.self.invariant) ∙ ap (λ m. map.entries m) rows in
    let key : ℤ = c.args.key in
    let same : to_z w64 (of_z w64 key) ≡ key = to_z-of_z w64 key c.ranges.key in
    c.pair_from.ensures ∙ ap (λ k. list.find (λ entry. is_le (int_cmp k entry.0)) c.as_slice.result.now) same ∙ ap (list.find (λ entry. is_le (int_cmp key entry.0))) entries
