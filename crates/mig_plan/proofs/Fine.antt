-- What is known where a list of faults has none.
use Rattle.std.proofs.Common.{◌≡◌, ℕ, zero, suc, List, [], ◌∷◌, Bool, true, false, not, Option, Some, None, Ok, if◌then◌else◌, map, ap, refl, subst}
use Rattle.std.specs.Prelude.{slice_index_or, slice_get}
use Rattle.std.specs.List.{filter, list_any}
use Rattle.std.specs.Option.{ok_or, option_or}
use Rattle.mig_lens.specs.declared.faults.PlanFault.{PlanFault}
use Rattle.mig_plan.specs.Versions.{first, when, without_fault}
use Rattle.mig_plan.proofs.Each.{Each}
use Rattle.mig_plan.proofs.Names.{neither}

pub or_none : {T : Type 0} (a b : Option T) → option_or a b ≡ None → (a ≡ None) × (b ≡ None)
or_none None b h = (refl, h)
or_none (Some x) b h = cc

pub all_none : (fs : List (Option PlanFault)) → first fs ≡ None → (k : ℕ) → slice_index_or fs k None ≡ None
all_none [] h k = refl
all_none (f ∷ fs) h zero = (or_none f (first fs) h).0
all_none (f ∷ fs) h (suc k) = all_none fs (or_none f (first fs) h).1 k

pub when_none : (b : Bool) (f : PlanFault) → when b f ≡ None → b ≡ false
when_none true f h = cc
when_none false f h = refl

pub not_false : (b : Bool) → not b ≡ false → b ≡ true
not_false true h = refl
not_false false h = cc

pub not_true : (b : Bool) → not b ≡ true → b ≡ false
not_true true h = cc
not_true false h = refl

pub ok_or_ok : {T E : Type 0} (o : Option T) (e : E) (x : T) → ok_or o e ≡ Ok x → o ≡ Some x
ok_or_ok None e x h = cc
ok_or_ok (Some y) e x h = let is : y ≡ x = cc in ap Some is

pub without_fault_ok : {T : Type 0} (fault : Option PlanFault) (value x : T) → without_fault fault value ≡ Ok x → (fault ≡ None) × (value ≡ x)
without_fault_ok None value x h = (refl, cc)
without_fault_ok (Some f) value x h = cc

pub each_not : {X : Type 0} (p : X → Bool) (xs : List X) → list_any p xs ≡ false → Each (λ x. p x ≡ false) xs
each_not p [] h = tt
each_not p (x ∷ xs) h =
    let parts = neither (p x) (list_any p xs) h in
    (parts.0, each_not p xs parts.1)

pub each_at : {X : Type 0} (P : X → Type 0) (xs : List X) (k : ℕ) (x : X) → slice_get xs k ≡ Some x → Each P xs → P x
each_at P [] k x h e = cc
each_at P (y ∷ xs) zero x h e = let is : y ≡ x = cc in subst P is e.0
each_at P (y ∷ xs) (suc k) x h e = each_at P xs k x h e.1

pub each_filtered : {X : Type 0} (P : X → Type 0) (q : X → Bool) (xs : List X) → Each P xs → Each (λ x. P x × (q x ≡ true)) (filter q xs)
each_filtered P q [] h = tt
each_filtered P q (x ∷ xs) h = by_test (each_filtered P q xs h.1) (q x) refl
  where
    by_test : Each (λ x. P x × (q x ≡ true)) (filter q xs) → (b : Bool) → q x ≡ b → Each (λ x. P x × (q x ≡ true)) (if b then x ∷ filter q xs else filter q xs)
    by_test more true g = ((h.0, g), more)
    by_test more false g = more

-- Where no element has a fault, each has none.
pub each_fine : {X : Type 0} (fault : X → Option PlanFault) (xs : List X) → first (map fault xs) ≡ None → Each (λ x. fault x ≡ None) xs
each_fine fault [] h = tt
each_fine fault (x ∷ xs) h =
    let parts = or_none (fault x) (first (map fault xs)) h in
    (parts.0, each_fine fault xs parts.1)
