-- The seats of a new latch, one after another.
use Rattle.std.proofs.Common.{◌≡◌, ℕ, zero, suc, ◌+◌, ◌⊎◌, inl, inr, ⊎_elim, List, [], ◌∷◌, ◌++◌, length, sym, refl, ap, ◌∙◌, subst, arith}
use mathlib.Core.Option.{some, some-injective, some-ne-none}
use lib.ListN.{get_elem?}
use Rattle.std.specs.Prelude.{Option}
use Rattle.atomic_table.specs.declared.shared.Seat.{Seat}
use Rattle.atomic_table.specs.Table.{Me}
use Rattle.latch.specs.declared.view.View.{View}
use Rattle.latch.specs.Lists.{upward}
use Rattle.latch.specs.Origin.{Origin}
use Rattle.latch.specs.Views.{fresh, cut, one_place}
use Rattle.latch.specs.Seats.{IsNew, AreNew}

at_end : {A : Type 0} (l : List A) (a b : A) (j : ℕ) → get_elem? (l ++ a ∷ []) j ≡ some b → (get_elem? l j ≡ some b) ⊎ ((j ≡ length l) × (a ≡ b))
at_end [] a b zero e = inr (refl, some-injective a b e)
at_end [] a b (suc j) e = absurd (some-ne-none b (sym e))
at_end (x ∷ xs) a b zero e = inl e
at_end (x ∷ xs) a b (suc j) e = ⊎_elim (λ (h : get_elem? xs j ≡ some b). inl h) (λ (h : (j ≡ length xs) × (a ≡ b)). inr ((let g = h.0 in omega arith), h.1)) (at_end xs a b j e)

module _ {T B I : Type 0} (based : T → B) (latch : Origin T) (log : List I) where
  abbrev S : Type 0
  S = Seat (Option T) (View B I)

  abbrev M : Type 0
  M = Me (Option T) (View B I)

  -- a seat of these places that has done nothing yet
  abbrev pub with_places : List ℕ → M
  with_places places = (fresh log (based latch.first) places, [])

  pub is_new : (k : ℕ) (s : S) → s.table_id ≡ latch.table → s.me ≡ with_places (k ∷ []) → IsNew based latch k log s
  is_new k s own is = record {
    own = (own, ap (λ (m : M). m.0.base) is);
    free = (ap (λ (m : M). m.0.stage) is, ap (λ (m : M). m.1) is);
    has_place = ap (λ (m : M). m.0.places) is;
    has_seen = ap (λ (m : M). m.0.seen) is;
  }

  pub none_new : (xs : List S) → xs ≡ [] → AreNew based latch log xs
  none_new xs is k s e = absurd (some-ne-none s (sym e ∙ ap (λ (l : List S). get_elem? l k) is))

  pub one_more : (n : ℕ) (xs ys : List S) (s : S) → length xs ≡ n → AreNew based latch log xs → ys ≡ xs ++ s ∷ [] → IsNew based latch n log s → AreNew based latch log ys
  one_more n xs ys s long old is new k t e =
      ⊎_elim (λ (h : get_elem? xs k ≡ some t). old k t h) (λ (h : (k ≡ length xs) × (s ≡ t)). subst (λ (y : ℕ × S). IsNew based latch y.0 log y.1) (λ i. (sym (h.0 ∙ long) i, h.1 i)) new)
      (at_end xs s t k (ap (λ (l : List S). get_elem? l k) (sym is) ∙ e))

  pub all_places : (me : M) (n count : ℕ) → me ≡ with_places (upward 0 count) → suc n ≡ count → me ≡ with_places (upward 0 (suc n))
  all_places me n count all is = all ∙ ap (λ (k : ℕ). with_places (upward 0 k)) (sym is)

  -- the place that a cut gives
  pub cut_one : (me other : M) (n m : ℕ) → me ≡ with_places (upward n (suc m)) → other ≡ (one_place me.0, []) → other ≡ with_places (n ∷ [])
  cut_one me other n m is cut_off = cut_off ∙ ap (λ (q : M). (one_place q.0, [])) is

  -- and what is left
  pub cut_rest : (me new : M) (n m m' : ℕ) → me ≡ with_places (upward n (suc m)) → new ≡ (cut me.0, me.1) → m ≡ suc m' → new ≡ with_places (upward (n + 1) (suc m'))
  cut_rest me new n m m' is left fewer = left ∙ (ap (λ (q : M). (cut q.0, q.1)) is ∙ ap (λ (k : ℕ). with_places (upward (n + 1) k)) fewer)

  pub one_left : (me : M) (n m : ℕ) → me ≡ with_places (upward n (suc m)) → m ≡ 0 → me ≡ with_places (n ∷ [])
  one_left me n m is none = is ∙ ap (λ (k : ℕ). with_places (upward n (suc k))) none
