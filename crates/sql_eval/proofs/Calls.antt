-- What functions and casts come to is of their types.
use Rattle.std.proofs.Common.{◌≡◌, ℕ, List, [], ◌∷◌, Bool, true, false, Option, Some, None, Ok, Err, Result, if◌then◌else◌, refl, arith, map, ◌==◌, pos, length}
use Rattle.std.specs.Char.{to_ascii_lowercase}
use Rattle.std.specs.Str.{chars}
use Rattle.sql_base.specs.declared.values.Value.{Value}
use Rattle.sql_base.specs.declared.values.Value.TheVariants.{Null, Int, Text, Bool as Truth}
use Rattle.sql_base.specs.declared.values.Ty.{Ty}
use Rattle.sql_base.specs.declared.values.Ty.TheVariants as ty
use Rattle.sql_base.specs.declared.exprs.Func.{Func}
use Rattle.sql_base.specs.declared.exprs.Func.TheVariants as func
use Rattle.sql_base.specs.declared.faults.EvalFault.{EvalFault}
use Rattle.sql_base.specs.declared.faults.TypeFault.{TypeFault}
use Rattle.sql_base.specs.declared.faults.TypeFault.TheVariants.{Mismatch}
use Rattle.sql_eval.specs.Cast.{cast, called, nullif, read_number, read_digits, read_bigint, read_boolean, signed, with_sign, trimmed}
use Rattle.sql_base.specs.Outcome.{and_then}
use Rattle.sql_eval.specs.Value.{Outcome, alike}
use Rattle.sql_eval.specs.Typing.{Typed, agreed, one_type, call_type, casts}
use Rattle.sql_base.specs.Fit.{has_type}
use Rattle.sql_eval.specs.Laws.{Suits, Sound}
use Rattle.sql_eval.proofs.Operators.{sound_fault, sound_form, sound_whole}
use Rattle.sql_eval.proofs.Branches.{agreed_left, one_kept}

abbrev Agree : List (Option Ty) → List Value → Type 0
Agree [] [] = Unit {0}
Agree (t ∷ ts) (v ∷ vs) = (has_type t v ≡ true) × Agree ts vs
Agree [] (v ∷ vs) = ⊥
Agree (t ∷ ts) [] = ⊥

abbrev pub AllAgree : Result (List (Option Ty)) TypeFault → Result (List Value) EvalFault → Type 0
AllAgree (Ok ts) (Ok vs) = Agree ts vs
AllAgree (Ok ts) (Err e) = Unit {0}
AllAgree (Err f) r = Unit {0}

pub every_step : (t : Typed) (r : Outcome) (ts : Result (List (Option Ty)) TypeFault) (rs : Result (List Value) EvalFault) → Sound t r → AllAgree ts rs → AllAgree (and_then t (λ x. and_then ts (λ xs. Ok (x ∷ xs)))) (and_then r (λ x. and_then rs (λ xs. Ok (x ∷ xs))))
every_step (Err f) r ts rs h k = tt
every_step (Ok t) r (Err f) rs h k = tt
every_step (Ok t) (Err e) (Ok ts) rs h k = tt
every_step (Ok t) (Ok v) (Ok ts) (Err e) h k = tt
every_step (Ok t) (Ok v) (Ok ts) (Ok vs) h k = (h, k)

sound_nullif : (a b : Option Ty) (v w : Value) → has_type a v ≡ true → Suits (agreed a b) (nullif v w)
sound_nullif a b v w h =
    elim (alike v w) as (λ c. Suits (agreed a b) (if c then Null else v)) [
      | true ↦ agreed_left a b Null refl
      | false ↦ agreed_left a b v h
    ]

sound_upper : (vs : List Value) → Sound (Ok (Some ty.Text)) (called func.Upper vs)
sound_upper [] = refl
sound_upper (Text t ∷ []) = refl
sound_upper (Text t ∷ w ∷ vs) = refl
sound_upper (Null ∷ vs) = refl
sound_upper (Int n ∷ vs) = refl
sound_upper (Truth b ∷ vs) = refl

sound_lower : (vs : List Value) → Sound (Ok (Some ty.Text)) (called func.Lower vs)
sound_lower [] = refl
sound_lower (Text t ∷ []) = refl
sound_lower (Text t ∷ w ∷ vs) = refl
sound_lower (Null ∷ vs) = refl
sound_lower (Int n ∷ vs) = refl
sound_lower (Truth b ∷ vs) = refl

sound_trim : (vs : List Value) → Sound (Ok (Some ty.Text)) (called func.Trim vs)
sound_trim [] = refl
sound_trim (Text t ∷ []) = refl
sound_trim (Text t ∷ w ∷ vs) = refl
sound_trim (Null ∷ vs) = refl
sound_trim (Int n ∷ vs) = refl
sound_trim (Truth b ∷ vs) = refl

sound_length : (vs : List Value) → Sound (Ok (Some ty.Bigint)) (called func.Length vs)
sound_length [] = refl
sound_length (Text t ∷ []) = sound_whole (pos (length (chars t)))
sound_length (Text t ∷ w ∷ vs) = refl
sound_length (Null ∷ vs) = refl
sound_length (Int n ∷ vs) = refl
sound_length (Truth b ∷ vs) = refl

sound_null : (t : Typed) → Suits t Null → (vs : List Value) → Sound t (called func.Coalesce vs)
sound_null t h [] = h
sound_null t h (Text s ∷ []) = h
sound_null t h (Text s ∷ w ∷ vs) = h
sound_null t h (Null ∷ vs) = h
sound_null t h (Int n ∷ vs) = h
sound_null t h (Truth b ∷ vs) = h

sound_call : (f : Func) (us : List (Option Ty)) (vs : List Value) → Agree us vs → Sound (call_type f us) (called f vs)
sound_call func.Coalesce us vs k = sound_null (one_type None us) (one_kept None us Null refl) vs
sound_call func.Nullif [] vs k = sound_fault Mismatch (called func.Nullif vs)
sound_call func.Nullif (a ∷ []) vs k = sound_fault Mismatch (called func.Nullif vs)
sound_call func.Nullif (a ∷ b ∷ []) [] k = absurd k
sound_call func.Nullif (a ∷ b ∷ []) (v ∷ []) k = absurd k.1
sound_call func.Nullif (a ∷ b ∷ []) (v ∷ w ∷ []) k = sound_nullif a b v w k.0
sound_call func.Nullif (a ∷ b ∷ []) (v ∷ w ∷ x ∷ vs) k = absurd k.1.1
sound_call func.Nullif (a ∷ b ∷ c ∷ us) vs k = sound_fault Mismatch (called func.Nullif vs)
sound_call func.Upper [] vs k = sound_fault Mismatch (called func.Upper vs)
sound_call func.Upper (a ∷ []) vs k = sound_form ty.Text ty.Text a (called func.Upper vs) (sound_upper vs)
sound_call func.Upper (a ∷ b ∷ us) vs k = sound_fault Mismatch (called func.Upper vs)
sound_call func.Lower [] vs k = sound_fault Mismatch (called func.Lower vs)
sound_call func.Lower (a ∷ []) vs k = sound_form ty.Text ty.Text a (called func.Lower vs) (sound_lower vs)
sound_call func.Lower (a ∷ b ∷ us) vs k = sound_fault Mismatch (called func.Lower vs)
sound_call func.Trim [] vs k = sound_fault Mismatch (called func.Trim vs)
sound_call func.Trim (a ∷ []) vs k = sound_form ty.Text ty.Text a (called func.Trim vs) (sound_trim vs)
sound_call func.Trim (a ∷ b ∷ us) vs k = sound_fault Mismatch (called func.Trim vs)
sound_call func.Length [] vs k = sound_fault Mismatch (called func.Length vs)
sound_call func.Length (a ∷ []) vs k = sound_form ty.Text ty.Bigint a (called func.Length vs) (sound_length vs)
sound_call func.Length (a ∷ b ∷ us) vs k = sound_fault Mismatch (called func.Length vs)

pub sound_all : (f : Func) (ts : Result (List (Option Ty)) TypeFault) (rs : Result (List Value) EvalFault) → AllAgree ts rs → Sound (and_then ts (call_type f)) (and_then rs (called f))
sound_all f (Err e) rs k = sound_fault e (and_then rs (called f))
sound_all f (Ok ts) (Err e) k = tt
sound_all f (Ok ts) (Ok vs) k = sound_call f ts vs k

-- ---- casts

sound_number : (negative : Bool) (bs : List ℕ) → Sound (Ok (Some ty.Bigint)) (read_number negative bs)
sound_number negative [] = tt
sound_number negative (b ∷ bs) = elim (read_digits 0 (b ∷ bs)) as (λ n. Sound (Ok (Some ty.Bigint)) (signed negative n)) [ None ↦ tt | Some n ↦ sound_whole (with_sign negative n) ]

sound_bigint : (bs : List ℕ) → Sound (Ok (Some ty.Bigint)) (read_bigint bs)
sound_bigint [] = tt
sound_bigint (b ∷ bs) =
    elim (b == 45) as (λ c. Sound (Ok (Some ty.Bigint)) (if c then read_number true bs else (if b == 43 then read_number false bs else read_number false (b ∷ bs)))) [
      | true ↦ sound_number true bs
      | false ↦ elim (b == 43) as (λ c. Sound (Ok (Some ty.Bigint)) (if c then read_number false bs else read_number false (b ∷ bs))) [ true ↦ sound_number false bs | false ↦ sound_number false (b ∷ bs) ]
    ]

sound_boolean : (bs : List ℕ) → Sound (Ok (Some ty.Boolean)) (read_boolean bs)
sound_boolean bs = grind arith

sound_cast : (v : Value) (to : Ty) → Sound (Ok (Some to)) (cast v to)
sound_cast Null to = refl
sound_cast (Int n) ty.Bigint = refl
sound_cast (Int n) ty.Text = refl
sound_cast (Int n) ty.Boolean = refl
sound_cast (Text t) ty.Bigint = sound_bigint (trimmed t)
sound_cast (Text t) ty.Text = refl
sound_cast (Text t) ty.Boolean = sound_boolean (map to_ascii_lowercase (trimmed t))
sound_cast (Truth b) ty.Bigint = refl
sound_cast (Truth b) ty.Text = refl
sound_cast (Truth b) ty.Boolean = refl

pub sound_cast_of : (t : Typed) (r : Outcome) (to : Ty) → Sound (and_then t (λ a. if casts a to then Ok (Some to) else Err Mismatch)) (and_then r (λ x. cast x to))
sound_cast_of (Err f) r to = sound_fault f (and_then r (λ x. cast x to))
sound_cast_of (Ok a) (Err e) to = tt
sound_cast_of (Ok a) (Ok x) to = elim (casts a to) as (λ c. Sound (if c then Ok (Some to) else Err Mismatch) (cast x to)) [ true ↦ sound_cast x to | false ↦ sound_fault Mismatch (cast x to) ]
