-- What the operators come to is of the operators' types.
use Rattle.std.proofs.Common.{◌≡◌, ℤ, Bool, true, false, Option, Some, None, Ok, Err, if◌then◌else◌, refl, arith, ◌+ℤ◌, ◌-ℤ◌, ◌*ℤ◌, pos, negsuc, zero, suc, length, ◌++◌, int_div, int_rem, nat_le, neg_ℤ}
use Rattle.std.specs.declared.cmp.Ordering.{Ordering}
use Rattle.std.specs.declared.cmp.Ordering.TheVariants.{Less, Equal, Greater}
use Rattle.sql_base.specs.declared.values.Value.{Value}
use Rattle.sql_base.specs.declared.values.Value.TheVariants.{Null, Int, Text, Bool as Truth}
use Rattle.sql_base.specs.declared.values.Ty.{Ty}
use Rattle.sql_base.specs.declared.values.Ty.TheVariants as ty
use Rattle.sql_base.specs.declared.exprs.BinOp.{BinOp}
use Rattle.sql_base.specs.declared.exprs.BinOp.TheVariants as op
use Rattle.sql_base.specs.declared.faults.EvalFault.TheVariants as fault
use Rattle.sql_base.specs.declared.faults.TypeFault.{TypeFault}
use Rattle.sql_base.specs.declared.faults.TypeFault.TheVariants.{Mismatch}
use Rattle.sql_base.specs.Outcome.{and_then}
use Rattle.sql_eval.specs.Value.{Outcome, whole, fits_i64, divided, negated, inverted, joined, accepts, value_cmp, concat, computed, arithmetic, settles, applied, max_text, is_null}
use Rattle.sql_eval.specs.Typing.{Typed, fits, agreed, form, form2, binary_type}
use Rattle.sql_eval.specs.Eval.{binary}
use Rattle.sql_base.specs.Fit.{has_type}
use Rattle.sql_eval.specs.Laws.{Suits, Sound}

pub sound_fault : (f : TypeFault) (r : Outcome) → Sound (Err f) r
sound_fault f (Ok v) = tt
sound_fault f (Err e) = tt

pub sound_form : (wanted gives : Ty) (t : Option Ty) (r : Outcome) → Sound (Ok (Some gives)) r → Sound (form wanted gives t) r
sound_form wanted gives t (Err e) h = tt
sound_form wanted gives t (Ok v) h = elim (fits wanted t) as (λ b. Suits (if b then Ok (Some gives) else Err Mismatch) v) [ true ↦ h | false ↦ tt ]

pub sound_whole : (z : ℤ) → Sound (Ok (Some ty.Bigint)) (whole z)
sound_whole z = elim (fits_i64 z) as (λ b. Sound (Ok (Some ty.Bigint)) (if b then Ok (Int z) else Err fault.Range)) [ true ↦ refl | false ↦ tt ]

sound_negated : (v : Value) → Sound (Ok (Some ty.Bigint)) (negated v)
sound_negated (Int n) = sound_whole (neg_ℤ n)
sound_negated Null = refl
sound_negated (Text t) = refl
sound_negated (Truth b) = refl

sound_inverted : (v : Value) → has_type (Some ty.Boolean) (inverted v) ≡ true
sound_inverted (Int n) = refl
sound_inverted Null = refl
sound_inverted (Text t) = refl
sound_inverted (Truth b) = refl

pub sound_not : (t : Typed) (r : Outcome) → Sound (and_then t (form ty.Boolean ty.Boolean)) (and_then r (λ x. Ok (inverted x)))
sound_not (Err f) r = sound_fault f _
sound_not (Ok t) (Err e) = tt
sound_not (Ok t) (Ok v) = sound_form ty.Boolean ty.Boolean t (Ok (inverted v)) (sound_inverted v)

sound_joined : (ruling : Bool) (x y : Value) → has_type (Some ty.Boolean) (joined ruling x y) ≡ true
sound_joined ruling x y = grind arith

sound_divided : (by : ℤ → ℤ → ℤ) (m n : ℤ) → Sound (Ok (Some ty.Bigint)) (divided by m n)
sound_divided by m (pos zero) = tt
sound_divided by m (pos (suc n)) = sound_whole (by m (pos (suc n)))
sound_divided by m (negsuc n) = sound_whole (by m (negsuc n))

sound_computed : (o : BinOp) (m n : ℤ) → Sound (Ok (Some ty.Bigint)) (computed o m n)
sound_computed op.Add m n = sound_whole (m +ℤ n)
sound_computed op.Sub m n = sound_whole (m -ℤ n)
sound_computed op.Mul m n = sound_whole (m *ℤ n)
sound_computed op.Div m n = sound_divided int_div m n
sound_computed op.Rem m n = sound_divided int_rem m n
sound_computed _ m n = refl

sound_arithmetic : (o : BinOp) (x y : Value) → Sound (Ok (Some ty.Bigint)) (arithmetic o x y)
sound_arithmetic o (Int m) (Int n) = sound_computed o m n
sound_arithmetic o (Int m) Null = refl
sound_arithmetic o (Int m) (Text t) = refl
sound_arithmetic o (Int m) (Truth b) = refl
sound_arithmetic o Null y = refl
sound_arithmetic o (Text t) y = refl
sound_arithmetic o (Truth b) y = refl

sound_concat : (x y : Value) → Sound (Ok (Some ty.Text)) (concat x y)
sound_concat (Text s) (Text t) = elim (nat_le (length (s ++ t)) max_text) as (λ b. Sound (Ok (Some ty.Text)) (if b then Ok (Text (s ++ t)) else Err fault.TooLong)) [ true ↦ refl | false ↦ tt ]
sound_concat (Text s) Null = refl
sound_concat (Text s) (Int n) = refl
sound_concat (Text s) (Truth b) = refl
sound_concat Null y = refl
sound_concat (Int n) y = refl
sound_concat (Truth b) y = refl

sound_accepts : (less equal greater : Bool) (r : Option Ordering) → has_type (Some ty.Boolean) (accepts less equal greater r) ≡ true
sound_accepts less equal greater None = refl
sound_accepts less equal greater (Some Less) = refl
sound_accepts less equal greater (Some Equal) = refl
sound_accepts less equal greater (Some Greater) = refl

sound_form2 : (wanted gives : Ty) (t u : Option Ty) (r : Outcome) → Sound (Ok (Some gives)) r → Sound (form2 wanted gives t u) r
sound_form2 wanted gives t u r h =
    elim (form wanted gives t) as (λ w. Sound (and_then w (λ _. form wanted gives u)) r) [ Ok x ↦ sound_form wanted gives u r h | Err f ↦ sound_fault f r ]

sound_agreed : (t u : Option Ty) (r : Outcome) → Sound (Ok (Some ty.Boolean)) r → Sound (and_then (agreed t u) (λ _. Ok (Some ty.Boolean))) r
sound_agreed t u r h = elim (agreed t u) as (λ w. Sound (and_then w (λ _. Ok (Some ty.Boolean))) r) [ Ok x ↦ h | Err f ↦ sound_fault f r ]

sound_applied : (o : BinOp) (t u : Option Ty) (x y : Value) → Sound (binary_type o t u) (applied o x y)
sound_applied op.Or t u x y = sound_form2 ty.Boolean ty.Boolean t u (Ok (joined true x y)) (sound_joined true x y)
sound_applied op.And t u x y = sound_form2 ty.Boolean ty.Boolean t u (Ok (joined false x y)) (sound_joined false x y)
sound_applied op.Eq t u x y = sound_agreed t u (Ok (accepts false true false (value_cmp x y))) (sound_accepts false true false (value_cmp x y))
sound_applied op.Ne t u x y = sound_agreed t u (Ok (accepts true false true (value_cmp x y))) (sound_accepts true false true (value_cmp x y))
sound_applied op.Lt t u x y = sound_agreed t u (Ok (accepts true false false (value_cmp x y))) (sound_accepts true false false (value_cmp x y))
sound_applied op.Le t u x y = sound_agreed t u (Ok (accepts true true false (value_cmp x y))) (sound_accepts true true false (value_cmp x y))
sound_applied op.Gt t u x y = sound_agreed t u (Ok (accepts false false true (value_cmp x y))) (sound_accepts false false true (value_cmp x y))
sound_applied op.Ge t u x y = sound_agreed t u (Ok (accepts false true true (value_cmp x y))) (sound_accepts false true true (value_cmp x y))
sound_applied op.Concat t u x y = sound_form2 ty.Text ty.Text t u (concat x y) (sound_concat x y)
sound_applied op.Add t u x y = sound_form2 ty.Bigint ty.Bigint t u (arithmetic op.Add x y) (sound_arithmetic op.Add x y)
sound_applied op.Sub t u x y = sound_form2 ty.Bigint ty.Bigint t u (arithmetic op.Sub x y) (sound_arithmetic op.Sub x y)
sound_applied op.Mul t u x y = sound_form2 ty.Bigint ty.Bigint t u (arithmetic op.Mul x y) (sound_arithmetic op.Mul x y)
sound_applied op.Div t u x y = sound_form2 ty.Bigint ty.Bigint t u (arithmetic op.Div x y) (sound_arithmetic op.Div x y)
sound_applied op.Rem t u x y = sound_form2 ty.Bigint ty.Bigint t u (arithmetic op.Rem x y) (sound_arithmetic op.Rem x y)

-- The left operand that decides is a truth.
settled : (o : BinOp) (t u : Option Ty) (x : Value) → settles o x ≡ true → Sound (binary_type o t u) (Ok x)
settled op.Or t u x h = sound_form2 ty.Boolean ty.Boolean t u (Ok x) (grind (arith, h))
settled op.And t u x h = sound_form2 ty.Boolean ty.Boolean t u (Ok x) (grind (arith, h))
settled op.Eq t u x h = cc
settled op.Ne t u x h = cc
settled op.Lt t u x h = cc
settled op.Le t u x h = cc
settled op.Gt t u x h = cc
settled op.Ge t u x h = cc
settled op.Concat t u x h = cc
settled op.Add t u x h = cc
settled op.Sub t u x h = cc
settled op.Mul t u x h = cc
settled op.Div t u x h = cc
settled op.Rem t u x h = cc

pub sound_binary : (o : BinOp) (t u : Typed) (r s : Outcome) → Sound (and_then t (λ x. and_then u (binary_type o x))) (binary o r s)
sound_binary o (Err f) u r s = sound_fault f (binary o r s)
sound_binary o (Ok t) (Err f) r s = sound_fault f (binary o r s)
sound_binary o (Ok t) (Ok u) (Err e) s = tt
sound_binary o (Ok t) (Ok u) (Ok x) s = by_settling (settles o x) refl
  where
    right : (s : Outcome) → Sound (binary_type o t u) (and_then s (applied o x))
    right (Err e) = tt
    right (Ok y) = sound_applied o t u x y

    by_settling : (b : Bool) → settles o x ≡ b → Sound (binary_type o t u) (if b then Ok x else and_then s (applied o x))
    by_settling true h = settled o t u x h
    by_settling false h = right s

pub sound_neg : (t : Typed) (r : Outcome) → Sound (and_then t (form ty.Bigint ty.Bigint)) (and_then r negated)
sound_neg (Err f) r = sound_fault f (and_then r negated)
sound_neg (Ok t) (Err e) = tt
sound_neg (Ok t) (Ok v) = sound_form ty.Bigint ty.Bigint t (negated v) (sound_negated v)

pub sound_is_null : (t : Typed) (r : Outcome) → Sound (and_then t (λ _. Ok (Some ty.Boolean))) (and_then r (λ x. Ok (Truth (is_null x))))
sound_is_null (Err f) r = sound_fault f (and_then r (λ x. Ok (Truth (is_null x))))
sound_is_null (Ok t) (Err e) = tt
sound_is_null (Ok t) (Ok v) = refl
