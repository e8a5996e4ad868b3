use Rattle.std.proofs.Common.{arith, ◌≡◌, ◌≤◌, ◌-◌, ◌∙◌, ℤ, List, None, ap, refl, sym, subst, int_cmp, to_z, of_z, w64}
use Rattle.std.proofs.lemmas.Int.{to_z-of_z}
use Rattle.std.specs.FinMap as map
use Rattle.std.specs.Prelude.{IsNone, vec_capacity, vec_len}
use Rattle.sql_base.specs.declared.values.Value.{Value}
use Rattle.row_store.specs.Stored.{Stored}
use Rattle.row_store.proofs.Maps.{get-map_of, map_of, put-map_of, put_rises}
use Rattle.row_store.proofs.Placed.{Rises}
use Rattle.row_store.proofs.rows.RowStore.put_reserved.Goals as goal

pub put-requires-clause-room : goal.put-requires-clause-room
put-requires-clause-room c =
    let items : List (ℤ × List Value) = c.self.inside.rows.items in
    let rows : map_of items ≡ c.args.self.now.rows = ap (λ (s : Stored). s.rows) c.self.view_is in
    let key : ℤ = c.args.key in
    let same : to_z w64 (of_z w64 key) ≡ key = to_z-of_z w64 key c.ranges.key in
    let got : map.find int_cmp key items ≡ map.get c.args.self.now.rows key = sym (get-map_of items key c.self.invariant) ∙ ap (λ m. map.get m key) rows in
    λ absent.
    let none : map.get c.args.self.now.rows key ≡ None = sym got ∙ ap (λ k. map.find int_cmp k items) (sym same) ∙ absent in
    let spare : vec_capacity c.self.inside.rows - vec_len c.self.inside.rows ≡ c.args.self.now.spare = ap (λ (s : Stored). s.spare) c.self.view_is in
    let some : 1 ≤ c.args.self.now.spare = c.requires (subst (λ o. IsNone o) (sym none) refl) in
    omega arith

pub invariant_of-self : goal.invariant_of-self
invariant_of-self c =
    let items : List (ℤ × List Value) = c.self.inside.rows.items in
    let rows : map_of items ≡ c.args.self.now.rows = ap (λ (s : Stored). s.rows) c.self.view_is in
    let key : ℤ = c.args.key in
    let same : to_z w64 (of_z w64 key) ≡ key = to_z-of_z w64 key c.ranges.key in
    subst Rises (sym (c.put.ensures.items ∙ ap (λ k. map.put int_cmp k c.args.row items) same)) (put_rises key c.args.row items c.self.invariant)

pub returns-clause-former : goal.returns-clause-former
returns-clause-former c =
    let items : List (ℤ × List Value) = c.self.inside.rows.items in
    let rows : map_of items ≡ c.args.self.now.rows = ap (λ (s : Stored). s.rows) c.self.view_is in
    let key : ℤ = c.args.key in
    let same : to_z w64 (of_z w64 key) ≡ key = to_z-of_z w64 key c.ranges.key in
    let got : map.find int_cmp key items ≡ map.get c.args.self.now.rows key = sym (get-map_of items key c.self.invariant) ∙ ap (λ m. map.get m key) rows in
    c.put.ensures.former ∙ ap (λ k. map.find int_cmp k items) same ∙ got

pub returns-clause-rows : goal.returns-clause-rows
returns-clause-rows c =
    let items : List (ℤ × List Value) = c.self.inside.rows.items in
    let rows : map_of items ≡ c.args.self.now.rows = ap (λ (s : Stored). s.rows) c.self.view_is in
    let key : ℤ = c.args.key in
    let same : to_z w64 (of_z w64 key) ≡ key = to_z-of_z w64 key c.ranges.key in
    ap map_of (c.put.ensures.items ∙ ap (λ k. map.put int_cmp k c.args.row items) same) ∙ put-map_of key c.args.row items c.self.invariant ∙ ap (λ m. map.insert m key c.args.row) rows
