-- What an outcome of several parts says of each.
use Rattle.roll_core.proofs.Words.{Bool, true, false, not, ◌||◌, IfOk, ◌∙◌, option_map, ◌≡◌, Option, Some, None, Result, Ok, Err, ap, refl, subst, and_then, and_then_ok, guarded, map_fault, ok_same, without}

pub none_mapped : {X Y : Type 0} (f : X → Y) (o : Option X) → option_map f o ≡ None → o ≡ None
none_mapped f None e = refl
none_mapped f (Some x) e = cc

-- ---- tests

pub left_of : (a b : Bool) → (a || b) ≡ true → b ≡ false → a ≡ true
left_of true b h e = refl
left_of false b h e = cc

pub not_true : (b : Bool) → ¬ (b ≡ true) → b ≡ false
not_true true h = absurd (h refl)
not_true false h = refl

pub not_is : (b : Bool) → not b ≡ true → b ≡ false
not_is true h = cc
not_is false h = refl

-- ---- outcomes

pub guarded_ok : {T E : Type 0} (fault : Option E) (next : Result T E) (y : T) → guarded fault next ≡ Ok y → (fault ≡ None) × (next ≡ Ok y)
guarded_ok None next y h = (refl, h)
guarded_ok (Some fault) next y h = cc

pub without_ok : {T E : Type 0} (fault : Option E) (x y : T) → without fault x ≡ Ok y → (fault ≡ None) × (x ≡ y)
without_ok None x y h = (refl, ok_same x y h)
without_ok (Some fault) x y h = cc

pub map_fault_ok : {T E F : Type 0} (of : E → F) (r : Result T E) (x : T) → map_fault of r ≡ Ok x → r ≡ Ok x
map_fault_ok of (Ok y) x h = cc
map_fault_ok of (Err fault) x h = cc

-- What is done with a value that is accepted is accepted, and refused where the value is.
pub ok_by : {T U E : Type 0} (r : Result T E) (o : T → Option E) (done : T → U) (x : T) → and_then r (λ y. without (o y) y) ≡ Ok x → and_then r (λ y. without (o y) (done y)) ≡ Ok (done x)
ok_by r o done x h =
    let step = and_then_ok r (λ y. without (o y) y) x h in
    let made = without_ok (o step.0) step.0 x step.2 in
    subst (λ x. and_then r (λ y. without (o y) (done y)) ≡ Ok (done x)) made.1 (ap (λ q. and_then q (λ y. without (o y) (done y))) step.1 ∙ ap (λ f. without f (done step.0)) made.0)

pub err_by : {T U E : Type 0} (r : Result T E) (o : T → Option E) (done : T → U) (fault : E) → and_then r (λ y. without (o y) y) ≡ Err fault → and_then r (λ y. without (o y) (done y)) ≡ Err fault
err_by (Ok y) o done fault h =
    elim (o y) as (λ f. without f y ≡ Err fault → without f (done y) ≡ Err fault) [ None ↦ λ e. cc | Some other ↦ λ e. let same : other ≡ fault = cc in ap Err same ] h
err_by (Err e) o done fault h = let same : e ≡ fault = cc in ap Err same

-- What holds of every value that may come holds of the one that does.
pub then_holds : {T U E : Type 0} (P : U → Type 0) (r : Result T E) (next : T → Result U E) → ((x : T) → IfOk (next x) P) → IfOk (and_then r next) P
then_holds P (Ok x) next h = h x
then_holds P (Err e) next h = tt

pub guarded_holds : {T E : Type 0} (P : T → Type 0) (fault : Option E) (next : Result T E) → IfOk next P → IfOk (guarded fault next) P
guarded_holds P None next h = h
guarded_holds P (Some fault) next h = tt

pub without_holds : {T E : Type 0} (P : T → Type 0) (fault : Option E) (x : T) → P x → IfOk (without fault x) P
without_holds P None x p = p
without_holds P (Some fault) x p = tt
