-- The elements of an array, read one after the other.
use Rattle.std.proofs.Common.{◌≡◌, ℕ, ◌+◌, ◌<◌, ◌≤◌, List, [], ◌∷◌, ◌++◌, map, length, take, drop, get_or, refl, sym, ◌∙◌, ap, subst, arith, append_assoc, take-append-drop}
use Rattle.std.proofs.lemmas.Grind.{common_steps}
use Rattle.std.proofs.lemmas.List.{take_more, take_all}
use Rattle.serde_json.specs.Data.{Data, Items, no_items, item}
use Rattle.serde_json.specs.View.{view, items_view}
use Rattle.serde_json.specs.declared.value.Value.{Value}
use Rattle.mig_json.specs.declared.faults.JsonFault.{JsonFault}
use Rattle.mig_json.specs.Demand.{Demand, AreMet, FirstUnmet}
use Rattle.mig_json.specs.Kind.{item_demands, AreItems}
use Rattle.mig_json.proofs.Demands.{unmet_front, unmet_back, met_append}

-- the values that these elements are
abbrev pub seen : List Value → List Data
seen vs = map view vs

pub seen_length : (j : ℕ) (vs : List Value) → j ≤ length vs → length (seen (take j vs)) ≡ j
seen_length j vs h = grind (arith, common_steps)

module _ {T : Type 0} (demands : List Data → Data → List Demand) (Is : List Data → Data → T → Type 0) where
  items_append : (before : List Data) (vs ws : List Value) →
      item_demands demands before (items_view (vs ++ ws)) ≡ item_demands demands before (items_view vs) ++ item_demands demands (before ++ seen vs) (items_view ws)
  items_append before [] ws = ap (λ (front : List Data). item_demands demands front (items_view ws)) (sym (append_none before))
    where
      append_none : (xs : List Data) → xs ++ [] ≡ xs
      append_none [] = refl
      append_none (x ∷ xs) = ap (λ (ys : List Data). x ∷ ys) (append_none xs)
  items_append before (v ∷ vs) ws =
      ap (λ (rest : List Demand). demands before (view v) ++ rest) (items_append (before ++ view v ∷ []) vs ws)
      ∙ sym (append_assoc (demands before (view v)) (item_demands demands (before ++ view v ∷ []) (items_view vs)) (item_demands demands ((before ++ view v ∷ []) ++ seen vs) (items_view ws)))
      ∙ ap (λ (front : List Data). (demands before (view v) ++ item_demands demands (before ++ view v ∷ []) (items_view vs)) ++ item_demands demands front (items_view ws)) (append_assoc before (view v ∷ []) (seen vs))

  are_append : (before : List Data) (vs : List Value) (v : Value) (xs : List T) (x : T) → AreItems Is before (items_view vs) xs → Is (before ++ seen vs) (view v) x → AreItems Is before (items_view (vs ++ v ∷ [])) (xs ++ x ∷ [])
  are_append before [] v xs x h k =
      let P : List Data → Type 0 = λ front. Is front (view v) x in
      (x, [], subst P (append_none before) k, refl, ap (λ (zs : List T). zs ++ x ∷ []) h)
    where
      append_none : (xs : List Data) → xs ++ [] ≡ xs
      append_none [] = refl
      append_none (x ∷ xs) = ap (λ (ys : List Data). x ∷ ys) (append_none xs)
  are_append before (w ∷ vs) v xs x h k =
      let P : List Data → Type 0 = λ front. Is front (view v) x in
      let there = subst P (sym (append_assoc before (view w ∷ []) (seen vs))) k in
      (h.0, h.1 ++ x ∷ [], h.2, are_append (before ++ view w ∷ []) vs v h.1 x h.3 there, ap (λ (zs : List T). zs ++ x ∷ []) h.4)

  -- The first j elements were read.
  pub record Read (j : ℕ) (vs : List Value) (xs : List T) : Type 0 where
    pub met : AreMet (item_demands demands [] (items_view (take j vs)))
    pub are : AreItems Is [] (items_view (take j vs)) xs

  pub more : (vs : List Value) (j : ℕ) (v : Value) (xs : List T) (x : T) → j < length vs → v ≡ get_or vs j v → Read j vs xs →
      AreMet (demands (seen (take j vs)) (view v)) × Is (seen (take j vs)) (view v) x → Read (j + 1) vs (xs ++ x ∷ [])
  more vs j v xs x h is so_far got =
      let one : take (j + 1) vs ≡ take j vs ++ v ∷ [] = take_more vs j v h ∙ ap (λ (w : Value). take j vs ++ w ∷ []) (sym is) in
      let both : List Value → Type 0 = λ us. AreMet (item_demands demands [] (items_view us)) × AreItems Is [] (items_view us) (xs ++ x ∷ []) in
      let split = items_append [] (take j vs) (v ∷ []) in
      let met : AreMet (item_demands demands (seen (take j vs)) (items_view (v ∷ []))) = met_append (demands (seen (take j vs)) (view v)) [] got.0 tt in
      let all : AreMet (item_demands demands [] (items_view (take j vs ++ v ∷ []))) =
      subst AreMet (sym split) (met_append (item_demands demands [] (items_view (take j vs))) (item_demands demands (seen (take j vs)) (items_view (v ∷ []))) so_far.met met) in
      let made = subst both (sym one) (all, are_append [] (take j vs) v xs x so_far.are got.1) in
      record { met = made.0; are = made.1 }

  pub fails : (vs : List Value) (j : ℕ) (v : Value) (xs : List T) (f : JsonFault) → j < length vs → v ≡ get_or vs j v → Read j vs xs →
      FirstUnmet (demands (seen (take j vs)) (view v)) f → FirstUnmet (item_demands demands [] (items_view vs)) f
  fails vs j v xs f h is so_far unmet =
      let parted : vs ≡ take j vs ++ v ∷ drop (j + 1) vs =
      sym (take-append-drop (j + 1) vs) ∙ ap (λ (front : List Value). front ++ drop (j + 1) vs) (take_more vs j v h) ∙ append_assoc (take j vs) (get_or vs j v ∷ []) (drop (j + 1) vs)
      ∙ ap (λ (w : Value). take j vs ++ w ∷ drop (j + 1) vs) (sym is) in
      let split = items_append [] (take j vs) (v ∷ drop (j + 1) vs) in
      let here = unmet_front (demands (seen (take j vs)) (view v)) (item_demands demands (seen (take j vs) ++ view v ∷ []) (items_view (drop (j + 1) vs))) f unmet in
      let all = unmet_back (item_demands demands [] (items_view (take j vs))) (item_demands demands (seen (take j vs)) (items_view (v ∷ drop (j + 1) vs))) f so_far.met here in
      let P : List Demand → Type 0 = λ ds. FirstUnmet ds f in
      let Q : List Value → Type 0 = λ us. FirstUnmet (item_demands demands [] (items_view us)) f in
      subst Q (sym parted) (subst P (sym split) all)

  pub begun : (vs : List Value) → Read 0 vs []
  begun vs = record { met = tt; are = refl }

  pub done : (vs : List Value) (j : ℕ) (xs : List T) → length vs ≤ j → Read j vs xs → AreMet (item_demands demands [] (items_view vs)) × AreItems Is [] (items_view vs) xs
  done vs j xs h so_far =
      let both : List Value → Type 0 = λ us. AreMet (item_demands demands [] (items_view us)) × AreItems Is [] (items_view us) xs in subst both (take_all j vs h) (so_far.met, so_far.are)

-- Elements each of which is made of a value, and those values.
pub made_of : {T V : Type 0} (Is : Data → V → Type 0) (made : V → T) (before : List Data) (ds : Items) (xs : List T) → AreItems (λ before d x. (v : V) × Is d v × (x ≡ made v)) before ds xs →
    (vs : List V) × AreItems (λ before. Is) before ds vs × (xs ≡ map made vs)
made_of Is made before no_items xs h = ([], refl, h)
made_of {T} {V} Is made before (item d ds) xs h =
    let rest = made_of Is made (before ++ d ∷ []) ds h.1 h.3 in
    let v : V = h.2.0 in
    (v ∷ rest.0, (v, rest.0, h.2.1, rest.1, refl), h.4 ∙ ap (λ (x : T). x ∷ h.1) h.2.2 ∙ ap (λ (ys : List T). made v ∷ ys) rest.2)
