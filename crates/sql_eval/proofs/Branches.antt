-- What CASE and coalesce come to is of the one type of their branches.
use Rattle.std.proofs.Common.{◌≡◌, List, [], ◌∷◌, Bool, true, false, Option, Some, None, Ok, Err, Result, if◌then◌else◌, refl}
use Rattle.sql_base.specs.declared.values.Value.{Value}
use Rattle.sql_base.specs.declared.values.Value.TheVariants.{Null, Int, Text, Bool as Truth}
use Rattle.sql_base.specs.declared.values.Ty.{Ty}
use Rattle.sql_base.specs.declared.values.Ty.TheVariants as ty
use Rattle.sql_base.specs.declared.faults.TypeFault.{TypeFault}
use Rattle.sql_base.specs.declared.faults.TypeFault.TheVariants.{Mismatch}
use Rattle.sql_base.specs.Outcome.{and_then}
use Rattle.sql_eval.specs.Value.{Outcome, is_null, is_truth}
use Rattle.sql_eval.specs.Typing.{Typed, TypedArm, same, fits, agreed, one_type, case_type}
use Rattle.sql_base.specs.Fit.{has_type}
use Rattle.sql_eval.specs.Laws.{Suits, Sound}
use Rattle.sql_eval.proofs.Operators.{sound_fault}

null_only : (t : Option Ty) (v : Value) → has_type None v ≡ true → has_type t v ≡ true
null_only t Null h = refl
null_only t (Int n) h = cc
null_only t (Text s) h = cc
null_only t (Truth b) h = cc

same_type : (a b : Ty) (v : Value) → same a b ≡ true → has_type (Some b) v ≡ true → has_type (Some a) v ≡ true
same_type ty.Bigint ty.Bigint v e h = h
same_type ty.Text ty.Text v e h = h
same_type ty.Boolean ty.Boolean v e h = h
same_type ty.Bigint ty.Text v e h = cc
same_type ty.Bigint ty.Boolean v e h = cc
same_type ty.Text ty.Bigint v e h = cc
same_type ty.Text ty.Boolean v e h = cc
same_type ty.Boolean ty.Bigint v e h = cc
same_type ty.Boolean ty.Text v e h = cc

pub agreed_left : (a b : Option Ty) (v : Value) → has_type a v ≡ true → Suits (agreed a b) v
agreed_left None b v h = null_only b v h
agreed_left (Some a) b v h = elim (fits a b) as (λ w. Suits (if w then Ok (Some a) else Err Mismatch) v) [ true ↦ h | false ↦ tt ]

fitting : (a : Ty) (b : Option Ty) (v : Value) → fits a b ≡ true → has_type b v ≡ true → has_type (Some a) v ≡ true
fitting a None v e h = null_only (Some a) v h
fitting a (Some b) v e h = same_type a b v e h

agreed_right : (a b : Option Ty) (v : Value) → has_type b v ≡ true → Suits (agreed a b) v
agreed_right None b v h = h
agreed_right (Some a) b v h = by_fitting (fits a b) refl
  where
    by_fitting : (w : Bool) → fits a b ≡ w → Suits (if w then Ok (Some a) else Err Mismatch) v
    by_fitting true e = fitting a b v e h
    by_fitting false e = tt

-- a type that suits goes on to suit
after : (t : Typed) (v : Value) (next : Option Ty → Typed) → Suits t v → ((a : Option Ty) → has_type a v ≡ true → Suits (next a) v) → Suits (and_then t next) v
after (Ok a) v next h f = f a h
after (Err e) v next h f = tt

pub one_kept : (so_far : Option Ty) (ts : List (Option Ty)) (v : Value) → has_type so_far v ≡ true → Suits (one_type so_far ts) v
one_kept so_far [] v h = h
one_kept so_far (t ∷ ts) v h = after (agreed so_far t) v (λ both. one_type both ts) (agreed_left so_far t v h) (λ both k. one_kept both ts v k)

case_kept : (so_far : Option Ty) (arms : List (Option Ty × Option Ty)) (other : Option Ty) (v : Value) → has_type so_far v ≡ true → Suits (case_type so_far arms other) v
case_kept so_far [] other v h = agreed_left so_far other v h
case_kept so_far (arm ∷ arms) other v h =
    elim (fits ty.Boolean arm.0) as (λ b. Suits (if b then and_then (agreed so_far arm.1) (λ both. case_type both arms other) else Err Mismatch) v) [
      | true ↦ after (agreed so_far arm.1) v (λ both. case_type both arms other) (agreed_left so_far arm.1 v h) (λ both k. case_kept both arms other v k)
      | false ↦ tt
    ]

sound_next : (t : Typed) (next : Option Ty → Typed) (r : Outcome) → ((a : Option Ty) → Sound (next a) r) → Sound (and_then t next) r
sound_next (Ok a) next r f = f a
sound_next (Err e) next r f = sound_fault e r

-- ---- coalesce

pub coalesce_step : (t : Typed) (ts : Result (List (Option Ty)) TypeFault) (r values : Outcome) → Sound t r → ((so_far : Option Ty) → Sound (and_then ts (one_type so_far)) values) → (so_far : Option Ty) → Sound (and_then (and_then t (λ x. and_then ts (λ xs. Ok (x ∷ xs)))) (one_type so_far)) (and_then r (λ x. if is_null x then values else Ok x))
coalesce_step (Err f) ts r values h more so_far = sound_fault f (and_then r (λ x. if is_null x then values else Ok x))
coalesce_step (Ok t) (Err f) r values h more so_far = sound_fault f (and_then r (λ x. if is_null x then values else Ok x))
coalesce_step (Ok t) (Ok ts) (Err e) values h more so_far = tt
coalesce_step (Ok t) (Ok ts) (Ok x) values h more so_far =
    elim (is_null x) as (λ b. Sound (and_then (agreed so_far t) (λ both. one_type both ts)) (if b then values else Ok x)) [
      | true ↦ sound_next (agreed so_far t) (λ both. one_type both ts) values more
      | false ↦ after (agreed so_far t) x (λ both. one_type both ts) (agreed_right so_far t x h) (λ both k. one_kept both ts x k)
    ]

-- ---- CASE

abbrev pub branch_of : TypedArm → Typed
branch_of a = and_then a (λ types. Ok types.1)

pub sound_arm : (test gives : Typed) (r : Outcome) → Sound gives r → Sound (branch_of (and_then test (λ t. and_then gives (λ b. Ok (t, b))))) r
sound_arm (Err f) gives r h = sound_fault f r
sound_arm (Ok t) (Err f) r h = sound_fault f r
sound_arm (Ok t) (Ok b) r h = h

pub case_step : (a : TypedArm) (ts : Result (List (Option Ty × Option Ty)) TypeFault) (u : Typed) (test gives values : Outcome) → Sound (branch_of a) gives → ((so_far : Option Ty) → Sound (and_then ts (λ xs. and_then u (case_type so_far xs))) values) → (so_far : Option Ty) → Sound (and_then (and_then a (λ x. and_then ts (λ xs. Ok (x ∷ xs)))) (λ xs. and_then u (case_type so_far xs))) (and_then test (λ x. if is_truth true x then gives else values))
case_step (Err f) ts u test gives values h more so_far = sound_fault f (and_then test (λ x. if is_truth true x then gives else values))
case_step (Ok a) (Err f) u test gives values h more so_far = sound_fault f (and_then test (λ x. if is_truth true x then gives else values))
case_step (Ok a) (Ok ts) (Err f) test gives values h more so_far = sound_fault f (and_then test (λ x. if is_truth true x then gives else values))
case_step (Ok a) (Ok ts) (Ok u) (Err e) gives values h more so_far = tt
case_step (Ok a) (Ok ts) (Ok u) (Ok x) gives values h more so_far =
    elim (fits ty.Boolean a.0) as (λ b. Sound (if b then and_then (agreed so_far a.1) rest else Err Mismatch) (if is_truth true x then gives else values)) [
      | true ↦ elim (is_truth true x) as (λ b. Sound (and_then (agreed so_far a.1) rest) (if b then gives else values)) [
        | true ↦ by_branch gives h
        | false ↦ sound_next (agreed so_far a.1) rest values more
      ]
      | false ↦ sound_fault Mismatch (if is_truth true x then gives else values)
    ]
  where
    rest : Option Ty → Typed
    rest both = case_type both ts u

    by_branch : (r : Outcome) → Sound (Ok a.1) r → Sound (and_then (agreed so_far a.1) rest) r
    by_branch (Err e) k = tt
    by_branch (Ok v) k = after (agreed so_far a.1) v rest (agreed_right so_far a.1 v k) (λ both j. case_kept both ts u v j)

pub sound_else : (so_far : Option Ty) (t : Typed) (r : Outcome) → Sound t r → Sound (and_then t (agreed so_far)) r
sound_else so_far (Err f) r h = sound_fault f r
sound_else so_far (Ok t) (Err e) h = tt
sound_else so_far (Ok t) (Ok v) h = agreed_right so_far t v h
