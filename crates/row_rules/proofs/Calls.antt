-- One more call of a list of calls.
use Rattle.std.proofs.lemmas.Grind.{common_steps}
use Rattle.std.specs.List.{zip}
use Rattle.std.proofs.Common.{◌≡◌, ◌≤◌, ℕ, List, [], ◌∷◌, ◌++◌, Result, Ok, Err, drop, length, map, refl, sym, ap, append_assoc, arith}
use Rattle.sql_base.specs.Outcome.{and_then, every}
use Rattle.row_rules.specs.Changes.{put_all}
use Rattle.row_rules.specs.Outcome.{Answers}
use Rattle.row_rules.specs.Words.{Cause, Change, Kept, Put}
use Rattle.row_rules.specs.declared.stops.Stop.{Stop}
use Rattle.row_rules.specs.declared.stops.Stop.TheVariants.{Because, NoMemory}

-- what so many changes come to with the rest, which may be refused
abbrev pub after : List Change → Result (List Change) Cause → Result (List Change) Cause
after done rest = and_then rest (λ more. Ok (done ++ more))

pub stops_at : {A : Type 0} (h : A → Result Kept Cause) (x : A) (xs : List A) (done : List Change) (stop : Stop Cause) → Answers (h x) (Err stop)
    → Answers (after done (put_all (every (map h (x ∷ xs))))) (Err stop)
stops_at h x xs done (Because cause) now = rw now refl
stops_at h x xs done NoMemory now = tt

pub goes_on : {A : Type 0} (h : A → Result Kept Cause) (x : A) (xs : List A) (done : List Change) (row : Kept) → h x ≡ Ok row
    → after done (put_all (every (map h (x ∷ xs)))) ≡ after (done ++ Put row ∷ []) (put_all (every (map h xs)))
goes_on h x xs done row now = rw now (by_rest (every (map h xs)))
  where
    by_rest : (rest : Result (List Kept) Cause) →
        after done (put_all (and_then rest (λ rows. Ok (row ∷ rows)))) ≡ after (done ++ Put row ∷ []) (put_all rest)
    by_rest (Ok rows) = ap (λ all. Ok all) (sym (append_assoc done (Put row ∷ []) (map Put rows)))
    by_rest (Err cause) = refl

-- A step that may be refused, and the next one.
pub went_on : {T U E : Type 0} (wanted : Result T E) (next : T → Result U E) (value : T) (r : Result U (Stop E)) → wanted ≡ Ok value → Answers (next value) r → Answers (and_then wanted next) r
went_on wanted next value r h n = rw h n

pub stopped : {T U E : Type 0} (wanted : Result T E) (next : T → Result U E) (stop : Stop E) → Answers wanted (Err stop) → Answers (and_then wanted next) (Err stop)
stopped wanted next (Because cause) h = rw h refl
stopped wanted next NoMemory h = tt

pub every_stops : {A B E : Type 0} (f : A → Result B E) (x : A) (xs : List A) (done : List B) (stop : Stop E) → Answers (f x) (Err stop)
    → Answers (and_then (every (map f (x ∷ xs))) (λ rest. Ok (done ++ rest))) (Err stop)
every_stops f x xs done (Because cause) h = rw h refl
every_stops f x xs done NoMemory h = tt

zip_none : {A B : Type 0} (xs : List A) → zip {K = A} {X = B} xs [] ≡ []
zip_none [] = refl
zip_none (x ∷ xs) = refl

-- Two lists beside each other have nothing past the end of the second.
pub zip_past : {A B : Type 0} (xs : List A) (ys : List B) (at : ℕ) → length ys ≤ at → zip (drop at xs) (drop at ys) ≡ []
zip_past xs ys at h = let none : drop at ys ≡ [] = grind (arith, common_steps, h) in rw none (zip_none (drop at xs))
