use Rattle.std.proofs.Common.{◌≡◌, ◌∙◌, ℤ, List, ap, length, sym}
use Rattle.std.specs.FinMap as map
use Rattle.sql_base.specs.declared.values.Value.{Value}
use Rattle.row_store.specs.Stored.{Stored}
use Rattle.row_store.proofs.Maps.{entries-map_of, map_of}
use Rattle.row_store.proofs.rows.RowStore.len.Goals as goal

pub returns : goal.returns
returns c =
    let items : List (ℤ × List Value) = c.self.inside.rows.items in
    let rows : map_of items ≡ c.args.self.now.rows = ap (λ (s : Stored). s.rows) c.self.view_is in
    let entries : c.as_slice.result.now ≡ map.entries c.args.self.now.rows = c.as_slice.ensures.value ∙ sym (entries-map_of items c.self.invariant) ∙ ap (λ m. map.entries m) rows in
    ap length entries ∙ sym (map.len-entries c.args.self.now.rows)
