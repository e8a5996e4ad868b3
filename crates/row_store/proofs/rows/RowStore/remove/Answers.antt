use Rattle.std.proofs.Common.{◌≡◌, ◌∙◌, ℤ, List, ap, sym, subst, int_cmp, to_z, of_z, w64}
use Rattle.std.proofs.lemmas.Int.{to_z-of_z}
use Rattle.std.specs.FinMap as map
use Rattle.sql_base.specs.declared.values.Value.{Value}
use Rattle.row_store.specs.Stored.{Stored}
use Rattle.row_store.proofs.Maps.{get-map_of, map_of, without-map_of, without_rises}
use Rattle.row_store.proofs.Placed.{Rises, without}
use Rattle.row_store.proofs.rows.RowStore.remove.Goals as goal

pub invariant_of-self : goal.invariant_of-self
invariant_of-self c =
    let items : List (ℤ × List Value) = c.self.inside.rows.items in
    let rows : map_of items ≡ c.args.self.now.rows = ap (λ (s : Stored). s.rows) c.self.view_is in
    let key : ℤ = c.args.key in
    let same : to_z w64 (of_z w64 key) ≡ key = to_z-of_z w64 key c.ranges.key in
    let left : c.take.new.rows.items ≡ without key items = c.take.ensures.items ∙ ap (λ k. without k items) same in
    subst Rises (sym left) (without_rises key items c.self.invariant)

pub returns-clause-former : goal.returns-clause-former
returns-clause-former c =
    let items : List (ℤ × List Value) = c.self.inside.rows.items in
    let rows : map_of items ≡ c.args.self.now.rows = ap (λ (s : Stored). s.rows) c.self.view_is in
    let key : ℤ = c.args.key in
    let same : to_z w64 (of_z w64 key) ≡ key = to_z-of_z w64 key c.ranges.key in
    let got : map.find int_cmp key items ≡ map.get c.args.self.now.rows key = sym (get-map_of items key c.self.invariant) ∙ ap (λ m. map.get m key) rows in
    c.take.ensures.former ∙ ap (λ k. map.find int_cmp k items) same ∙ got

pub returns-clause-rows : goal.returns-clause-rows
returns-clause-rows c =
    let items : List (ℤ × List Value) = c.self.inside.rows.items in
    let rows : map_of items ≡ c.args.self.now.rows = ap (λ (s : Stored). s.rows) c.self.view_is in
    let key : ℤ = c.args.key in
    let same : to_z w64 (of_z w64 key) ≡ key = to_z-of_z w64 key c.ranges.key in
    let left : c.take.new.rows.items ≡ without key items = c.take.ensures.items ∙ ap (λ k. without k items) same in
    ap map_of left ∙ without-map_of key items c.self.invariant ∙ ap (λ m. map.remove m key) rows
