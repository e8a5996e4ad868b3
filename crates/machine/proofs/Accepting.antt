-- Where there is a value nothing was wrong.
use Rattle.std.proofs.Common.{◌≡◌, List, [], ◌∷◌, Bool, true, false, if◌then◌else◌, Option, Some, None, Result, Ok, Err, map, refl, subst, option_map}
use Rattle.std.specs.List.{AllByRecursion as Each}
use Rattle.std.specs.Option.{ok_or}
use Rattle.sql_base.specs.Laws.{and_then_ok, ok_same}
use Rattle.sql_base.specs.Outcome.{and_then, every}
use Rattle.row_rules.specs.Outcome.{guarded, map_fault, without}

pub without_ok : {T E : Type 0} (fault : Option E) (x y : T) → without fault x ≡ Ok y → (fault ≡ None) × (x ≡ y)
without_ok None x y h = (refl, ok_same x y h)
without_ok (Some fault) x y h = cc

pub guarded_ok : {T E : Type 0} (fault : Option E) (next : Result T E) (y : T) → guarded fault next ≡ Ok y → (fault ≡ None) × (next ≡ Ok y)
guarded_ok None next y h = (refl, h)
guarded_ok (Some fault) next y h = cc

pub map_fault_ok : {T E F : Type 0} (of : E → F) (r : Result T E) (x : T) → map_fault of r ≡ Ok x → r ≡ Ok x
map_fault_ok of (Ok y) x h = cc
map_fault_ok of (Err fault) x h = cc

pub ok_or_ok : {T E : Type 0} (o : Option T) (fault : E) (x : T) → ok_or o fault ≡ Ok x → o ≡ Some x
ok_or_ok None fault x h = cc
ok_or_ok (Some y) fault x h = cc

pub map_none : {X Y : Type 0} (f : X → Y) (o : Option X) → option_map f o ≡ None → o ≡ None
map_none f None h = refl
map_none f (Some x) h = cc

-- Where a test would have given something and nothing is given, it is false.
pub if_none : {X : Type 0} (test : Bool) (x : X) → (if test then Some x else None) ≡ None → test ≡ false
if_none true x h = cc
if_none false x h = refl

-- What holds of each value holds of all of them.
pub every_each : {X Y E : Type 0} (f : X → Result Y E) (P : Y → Type 0) → ((x : X) (y : Y) → f x ≡ Ok y → P y) → (xs : List X) (ys : List Y) → every (map f xs) ≡ Ok ys → Each P ys
every_each f P h [] ys e = subst (Each P) (ok_same [] ys e) tt
every_each f P h (x ∷ xs) ys e =
    let first = and_then_ok (f x) (λ y. and_then (every (map f xs)) (λ ys. Ok (y ∷ ys))) ys e in
    let rest = and_then_ok (every (map f xs)) (λ ys. Ok (first.0 ∷ ys)) ys first.2 in
    subst (Each P) (ok_same (first.0 ∷ rest.0) ys rest.2) (h x first.0 first.1, every_each f P h xs rest.0 rest.1)
