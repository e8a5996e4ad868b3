-- Texts as other values, and other values as texts.
-- PostgreSQL manual, 4.2.9 Type Casts and 9.4 String Functions and Operators; which texts a cast takes is our own.
use Rattle.std.specs.Prelude.{ℕ, ◌+◌, ◌-◌, ◌*◌, ℤ, pos, neg_ℤ, Bool, true, false, ◌==◌, reverse, List, [], ◌∷◌, map, codes, length, Option, Some, None, Ok, Err, if◌then◌else◌}
use Rattle.std.specs.Char.{is_ascii_digit, to_ascii_lowercase, to_ascii_uppercase}
use Rattle.std.specs.Fmt.{signed_decimal}
use Rattle.std.specs.Str.{bytes_eq, chars}
use Rattle.sql_base.specs.declared.values.Value.{Value}
use Rattle.sql_base.specs.declared.values.Value.TheVariants.{Null, Int, Text, Bool as Truth}
use Rattle.sql_base.specs.declared.values.Ty.{Ty}
use Rattle.sql_base.specs.declared.values.Ty.TheVariants as ty
use Rattle.sql_base.specs.declared.exprs.Func.{Func}
use Rattle.sql_base.specs.declared.exprs.Func.TheVariants as func
use Rattle.sql_base.specs.declared.faults.EvalFault.TheVariants as fault
use Rattle.sql_eval.specs.Value.{Outcome, whole, alike}

abbrev pub trim_front : List ℕ → List ℕ
trim_front [] = []
trim_front (b ∷ bs) = if b == 32 then trim_front bs else b ∷ bs

abbrev pub trim_back : List ℕ → List ℕ
trim_back bs = reverse (trim_front (reverse bs))

-- without spaces, which are the byte 32 and no other blank, at both ends
abbrev pub trimmed : List ℕ → List ℕ
trimmed bs = trim_back (trim_front bs)

-- ---- text to bigint: spaces, an optional sign, one or more digits, spaces

-- the number that n begins and these digits continue, if they are digits
abbrev pub read_digits : ℕ → List ℕ → Option ℕ
read_digits n [] = Some n
read_digits n (b ∷ bs) = if is_ascii_digit b then read_digits (10 * n + (b - 48)) bs else None

abbrev pub with_sign : Bool → ℕ → ℤ
with_sign true n = neg_ℤ (pos n)
with_sign false n = pos n

-- a text that is no number is 22P02, and a number out of range 22003
abbrev pub signed : Bool → Option ℕ → Outcome
signed negative None = Err fault.BadText
signed negative (Some n) = whole (with_sign negative n)

abbrev pub read_number : Bool → List ℕ → Outcome
read_number negative [] = Err fault.BadText
read_number negative (b ∷ bs) = signed negative (read_digits 0 (b ∷ bs))

-- an optional sign, and then digits
abbrev pub read_bigint : List ℕ → Outcome
read_bigint [] = Err fault.BadText
read_bigint (b ∷ bs) = if b == 45 then read_number true bs else (if b == 43 then read_number false bs else read_number false (b ∷ bs))

-- ---- text to boolean: `t`, `true`, `f`, `false`, in letters of either case; fewer than 8.6 Boolean Type has

abbrev pub read_boolean : List ℕ → Outcome
read_boolean bs =
    if bytes_eq bs (codes "t") then Ok (Truth true) else (if bytes_eq bs (codes "true") then Ok (Truth true) else (if bytes_eq bs (codes "f") then Ok (Truth false) else (if bytes_eq bs (codes "false") then Ok (Truth false) else Err fault.BadText)))

-- ---- all casts

-- A bigint as a text is decimal without leading zeros, with `-` in front of a negative number. NULL stays NULL.
abbrev pub cast : Value → Ty → Outcome
cast (Int n) ty.Bigint = Ok (Int n)
cast (Int n) ty.Text = Ok (Text (signed_decimal n))
cast (Text t) ty.Text = Ok (Text t)
cast (Text t) ty.Bigint = read_bigint (trimmed t)
cast (Text t) ty.Boolean = read_boolean (map to_ascii_lowercase (trimmed t))
cast (Truth b) ty.Boolean = Ok (Truth b)
cast (Truth b) ty.Text = Ok (Text (if b then codes "true" else codes "false"))
cast _ to = Ok Null

-- ---- functions

-- PostgreSQL manual, 9.18.3 NULLIF: NULL where `a = b` is true, else a.
abbrev pub nullif : Value → Value → Value
nullif a b = if alike a b then Null else a

-- `upper` and `lower` change ASCII letters alone (our own); `length` counts code points.
abbrev pub text_call : Func → List ℕ → Outcome
text_call func.Upper t = Ok (Text (map to_ascii_uppercase t))
text_call func.Lower t = Ok (Text (map to_ascii_lowercase t))
text_call func.Trim t = Ok (Text (trimmed t))
text_call func.Length t = whole (pos (length (chars t)))
text_call _ t = Ok Null

abbrev pub called : Func → List Value → Outcome
called func.Nullif (a ∷ b ∷ []) = Ok (nullif a b)
called f (Text t ∷ []) = text_call f t
called f _ = Ok Null
