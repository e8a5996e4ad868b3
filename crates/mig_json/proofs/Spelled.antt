-- Names and the canonical texts of expressions are UTF-8.
use Rattle.std.proofs.Common.{◌≡◌, ℕ, suc, ◌<◌, ◌≤◌, List, [], ◌∷◌, ◌++◌, length, get_or, Bool, true, false, ◌==◌, if◌then◌else◌, pos, negsuc, inl, inr, refl, sym, ap, ap₂, ◌∙◌, subst, arith, append_assoc, append-nil, map, codes, IsUtf8}
use Rattle.std.proofs.lemmas.Bool.{and_parts, cases_lt, eqb-true}
use Rattle.std.proofs.lemmas.Fmt.{IsAscii-signed}
use Rattle.std.proofs.lemmas.Str.{IsUtf8-append, IsUtf8-nil, IsUtf8-encode, IsUtf8-from_ascii, IsUtf8-from_is_utf8, encode_ascii, inside_one}
use Rattle.std.specs.List.{concat, flat_map, list_all}
use Rattle.std.specs.Str.{byte}
use lib.Utf8.{scalar, scalars, encode, encodes, low_scalar}
use Rattle.json.proofs.Printed.Utf8.{are_ascii, IsUtf8-are_ascii}
use Rattle.sql_base.specs.declared.exprs.Arm.{Arm}
use Rattle.sql_base.specs.declared.exprs.BinOp.{BinOp}
use Rattle.sql_base.specs.declared.exprs.BinOp.TheVariants as op
use Rattle.sql_base.specs.declared.exprs.Expr.{Expr}
use Rattle.sql_base.specs.declared.exprs.Expr.TheOpen.{Expr-F, Arm-F}
use Rattle.sql_base.specs.declared.exprs.Expr.TheViews.{roll-Expr, roll-Arm}
use Rattle.sql_base.specs.declared.exprs.Expr.TheFolds.{fold-roll-Expr, fold-roll-Arm, map-Expr, map-Arm}
use Rattle.sql_base.specs.declared.exprs.Func.{Func}
use Rattle.sql_base.specs.declared.exprs.Func.TheVariants as func
use Rattle.sql_base.specs.declared.values.Ty.{Ty}
use Rattle.sql_base.specs.declared.values.Ty.TheVariants as ty
use Rattle.sql_base.specs.declared.values.Value.{Value}
use Rattle.sql_base.specs.declared.values.Value.TheVariants.{Null, Int, Text, Bool as Truth}
use Rattle.sql_text.specs.Keys.{is_reserved}
use Rattle.sql_text.specs.Laws as tree
use Rattle.sql_text.specs.Laws.{HasText, ArmsHaveText, AllHaveText, IsLiteral}
use Rattle.sql_text.specs.Lexing.{is_name, is_small_byte, is_short_text}
use Rattle.sql_text.specs.Printing.{spelled, spelled_step, spelled_arm, spelled_arm_step, literal_text, name_text, operator_text, type_name, function_name, joined, doubled}

-- ---- pieces

ascii_then : (x : ℕ) (xs : List ℕ) → x < 128 → IsUtf8 xs → IsUtf8 (x ∷ xs)
ascii_then x xs small u = IsUtf8-append (x ∷ []) xs (subst IsUtf8 (encode_ascii x small) (IsUtf8-encode x (low_scalar x (omega arith)))) u

around : (before text behind : List ℕ) → are_ascii before ≡ true → IsUtf8 text → IsUtf8 behind → IsUtf8 (before ++ (text ++ behind))
around before text behind first u last = IsUtf8-append before (text ++ behind) (IsUtf8-are_ascii before first) (IsUtf8-append text behind u last)

-- ---- quotes that are written twice

doubled_low : (c : ℕ) → c < 128 → IsUtf8 (doubled c)
doubled_low c small = by_test (c == byte "'")
  where
    by_test : (b : Bool) → IsUtf8 (if b then c ∷ c ∷ [] else c ∷ [])
    by_test true = ascii_then c (c ∷ []) small (ascii_then c [] small IsUtf8-nil)
    by_test false = ascii_then c [] small IsUtf8-nil

doubled_byte : (x : ℕ) → 128 ≤ x → doubled x ≡ x ∷ []
doubled_byte x high = by_test (x == 39) refl
  where
    by_test : (b : Bool) → (x == 39) ≡ b → (if b then x ∷ x ∷ [] else x ∷ []) ≡ x ∷ []
    by_test true e = absurd (omega (arith, eqb-true x 39 e))
    by_test false e = refl

doubled_high : (xs : List ℕ) → ((k : ℕ) → k < length xs → 128 ≤ get_or xs k 0) → flat_map doubled xs ≡ xs
doubled_high [] h = refl
doubled_high (x ∷ xs) h = ap₂ (λ (a b : List ℕ). a ++ b) (doubled_byte x (h 0 (omega arith))) (doubled_high xs (λ k below. h (suc k) (omega arith)))

doubled-append : (xs ys : List ℕ) → flat_map doubled (xs ++ ys) ≡ flat_map doubled xs ++ flat_map doubled ys
doubled-append [] ys = refl
doubled-append (x ∷ xs) ys = ap (λ l. doubled x ++ l) (doubled-append xs ys) ∙ sym (append_assoc (doubled x) _ _)

doubled_char : (c : ℕ) → scalar c ≡ true → IsUtf8 (flat_map doubled (encode c))
doubled_char c ok = elim (cases_lt c 128) [
  | inl small ↦ rw (encode_ascii c small, append-nil) (doubled_low c small)
  | inr big ↦
      let high : (k : ℕ) → k < length (encode c) → 128 ≤ get_or (encode c) k 0 = λ k below. elim (cases_lt (get_or (encode c) k 0) 128) [
        | inl low ↦ absurd (omega (arith, inside_one c [] (encode c) k (sym (append-nil _)) below low))
        | inr h ↦ h
      ] in
      subst IsUtf8 (sym (doubled_high (encode c) high)) (IsUtf8-encode c ok)
]

doubled_chars : (cs : List ℕ) → scalars cs ≡ true → IsUtf8 (flat_map doubled (encodes cs))
doubled_chars [] e = IsUtf8-nil
doubled_chars (c ∷ cs) e =
    let p = and_parts _ _ e in
    subst IsUtf8 (sym (doubled-append (encode c) (encodes cs))) (IsUtf8-append _ _ (doubled_char c p.0) (doubled_chars cs p.1))

doubled_text : (s : List ℕ) → IsUtf8 s → IsUtf8 (flat_map doubled s)
doubled_text s u = subst (λ l. IsUtf8 (flat_map doubled l)) u.1.1 (doubled_chars u.0 u.1.0)

-- ---- words and names

operator_ascii : (o : BinOp) → are_ascii (operator_text o) ≡ true
operator_ascii op.Or = refl
operator_ascii op.And = refl
operator_ascii op.Eq = refl
operator_ascii op.Ne = refl
operator_ascii op.Lt = refl
operator_ascii op.Le = refl
operator_ascii op.Gt = refl
operator_ascii op.Ge = refl
operator_ascii op.Concat = refl
operator_ascii op.Add = refl
operator_ascii op.Sub = refl
operator_ascii op.Mul = refl
operator_ascii op.Div = refl
operator_ascii op.Rem = refl

pub type_ascii : (to : Ty) → are_ascii (type_name to) ≡ true
type_ascii ty.Bigint = refl
type_ascii ty.Text = refl
type_ascii ty.Boolean = refl

function_ascii : (f : Func) → are_ascii (function_name f) ≡ true
function_ascii func.Coalesce = refl
function_ascii func.Nullif = refl
function_ascii func.Upper = refl
function_ascii func.Lower = refl
function_ascii func.Trim = refl
function_ascii func.Length = refl

-- Bytes that pass a test which only ASCII passes are UTF-8.
pub ascii_by : (p : ℕ → Bool) → ((b : ℕ) → p b ≡ true → b < 128) → (bs : List ℕ) → list_all p bs ≡ true → IsUtf8 bs
ascii_by p low [] e = IsUtf8-nil
ascii_by p low (b ∷ bs) e = let both = and_parts _ _ e in ascii_then b bs (low b both.0) (ascii_by p low bs both.1)

small_low : (b : ℕ) → is_small_byte b ≡ true → b < 128
unfolding is_small_byte
small_low b e = grind (arith, e)

name_is_utf8 : (name : List ℕ) → is_name name ≡ true → IsUtf8 name
unfolding is_name
name_is_utf8 name e = ascii_by is_small_byte small_low name (and_parts _ _ (and_parts _ _ (and_parts _ _ e).0).0).0

name_utf8 : (name : List ℕ) → is_name name ≡ true → IsUtf8 (name_text name)
name_utf8 name e = by_test (is_reserved name)
  where
    by_test : (b : Bool) → IsUtf8 (if b then codes "\"" ++ (name ++ codes "\"") else name)
    by_test true = around (codes "\"") name (codes "\"") refl (name_is_utf8 name e) (IsUtf8-are_ascii (codes "\"") refl)
    by_test false = name_is_utf8 name e

short_utf8 : (text : List ℕ) → is_short_text text ≡ true → IsUtf8 text
unfolding is_short_text
short_utf8 text e = IsUtf8-from_is_utf8 text (and_parts _ _ (and_parts _ _ e).0).0

literal_utf8 : (v : Value) → IsLiteral v → IsUtf8 (literal_text v)
literal_utf8 Null h = IsUtf8-are_ascii (codes "NULL") refl
literal_utf8 (Int (pos n)) h = IsUtf8-from_ascii _ (IsAscii-signed (pos n) (omega (arith, h)))
literal_utf8 (Int (negsuc n)) h = IsUtf8-from_ascii _ (IsAscii-signed (negsuc n) (omega (arith, h)))
literal_utf8 (Text text) h = around (codes "'") (flat_map doubled text) (codes "'") refl (doubled_text text (short_utf8 text h)) (IsUtf8-are_ascii (codes "'") refl)
literal_utf8 (Truth true) h = IsUtf8-are_ascii (codes "TRUE") refl
literal_utf8 (Truth false) h = IsUtf8-are_ascii (codes "FALSE") refl

-- ---- expressions

spelled_at : (x : Expr-F Expr Arm) → spelled (roll-Expr x) ≡ spelled_step (map-Expr Expr Arm (List ℕ) (List ℕ) spelled spelled_arm x)
unfolding spelled spelled_arm
spelled_at x = fold-roll-Expr (List ℕ) (List ℕ) spelled_step spelled_arm_step x

spelled_arm_at : (x : Arm-F Expr Arm) → spelled_arm (roll-Arm x) ≡ spelled_arm_step (map-Arm Expr Arm (List ℕ) (List ℕ) spelled spelled_arm x)
unfolding spelled spelled_arm
spelled_arm_at x = fold-roll-Arm (List ℕ) (List ℕ) spelled_step spelled_arm_step x

ascii : (bs : List ℕ) → are_ascii bs ≡ true → IsUtf8 bs
ascii bs e = IsUtf8-are_ascii bs e

right_utf8 : (o : BinOp) (b : List ℕ) → IsUtf8 b → IsUtf8 (codes " " ++ (operator_text o ++ (codes " " ++ (b ++ codes ")"))))
right_utf8 o b h = around (codes " ") (operator_text o) (codes " " ++ (b ++ codes ")")) refl (ascii _ (operator_ascii o)) (around (codes " ") b (codes ")") refl h (ascii (codes ")") refl))

cast_utf8 : (a : List ℕ) (to : Ty) → IsUtf8 a → IsUtf8 (codes "CAST(" ++ (a ++ (codes " AS " ++ (type_name to ++ codes ")"))))
cast_utf8 a to h = around (codes "CAST(") a (codes " AS " ++ (type_name to ++ codes ")")) refl h (around (codes " AS ") (type_name to) (codes ")") refl (ascii _ (type_ascii to)) (ascii (codes ")") refl))

arm_utf8 : (a : Arm) → IsUtf8 (spelled a.when) → IsUtf8 (spelled a.gives) → IsUtf8 (spelled_arm a)
unfolding denote.Hole.Carrier.roll
arm_utf8 a h j =
    let x : Arm-F Expr Arm = record { when = a.when; gives = a.gives } in
    rw (spelled_arm_at x) (around (codes "WHEN ") (spelled a.when) (codes " THEN " ++ (spelled a.gives ++ codes " ")) refl h (around (codes " THEN ") (spelled a.gives) (codes " ") refl j (ascii (codes " ") refl)))

case_utf8 : (arms other : List ℕ) → IsUtf8 arms → IsUtf8 other → IsUtf8 (codes "CASE " ++ (arms ++ (codes "ELSE " ++ (other ++ codes " END"))))
case_utf8 arms other h j = around (codes "CASE ") arms (codes "ELSE " ++ (other ++ codes " END")) refl h (around (codes "ELSE ") other (codes " END") refl j (ascii (codes " END") refl))

call_utf8 : (f : Func) (args : List ℕ) → IsUtf8 args → IsUtf8 (function_name f ++ (codes "(" ++ (args ++ codes ")")))
call_utf8 f args h = IsUtf8-append (function_name f) _ (ascii _ (function_ascii f)) (around (codes "(") args (codes ")") refl h (ascii (codes ")") refl))

mutual
  unfolding roll-Expr denote.Hole.Carrier.roll

  pub spelled_utf8 : {a : Expr} → HasText a → IsUtf8 (spelled a)
  spelled_utf8 (tree.lit {v = v} h) = rw (spelled_at (Expr-F.Lit v)) (literal_utf8 v h)
  spelled_utf8 (tree.col {name = name} h) = rw (spelled_at (Expr-F.Col name)) (name_utf8 name h)
  spelled_utf8 (tree.not {a = a} h) = rw (spelled_at (Expr-F.Not a)) (around (codes "(NOT ") (spelled a) (codes ")") refl (spelled_utf8 h) (ascii (codes ")") refl))
  spelled_utf8 (tree.minus {a = a} h) = rw (spelled_at (Expr-F.Neg a)) (around (codes "(- ") (spelled a) (codes ")") refl (spelled_utf8 h) (ascii (codes ")") refl))
  spelled_utf8 (tree.is_null {a = a} h) = rw (spelled_at (Expr-F.IsNull a)) (around (codes "(") (spelled a) (codes " IS NULL)") refl (spelled_utf8 h) (ascii (codes " IS NULL)") refl))
  spelled_utf8 (tree.binary {o = o} {a = a} {b = b} h j) = rw (spelled_at (Expr-F.Bin o a b)) (around (codes "(") (spelled a) _ refl (spelled_utf8 h) (right_utf8 o (spelled b) (spelled_utf8 j)))
  spelled_utf8 (tree.cast {a = a} {to = to} h) = rw (spelled_at (Expr-F.Cast a to)) (cast_utf8 (spelled a) to (spelled_utf8 h))
  spelled_utf8 (tree.case {arms = arms} {other = other} some h j) = rw (spelled_at (Expr-F.Case arms other)) (case_utf8 (concat (map spelled_arm arms)) (spelled other) (arms_utf8 h) (spelled_utf8 j))
  spelled_utf8 (tree.call {f = f} {args = args} takes h) = rw (spelled_at (Expr-F.Call f args)) (call_utf8 f (joined [] (map spelled args)) (all_utf8 [] IsUtf8-nil h))

  arms_utf8 : {arms : List Arm} → ArmsHaveText arms → IsUtf8 (concat (map spelled_arm arms))
  arms_utf8 tree.no_arm = IsUtf8-nil
  arms_utf8 (tree.arm {a = a} {arms = arms} h j more) = IsUtf8-append (spelled_arm a) (concat (map spelled_arm arms)) (arm_utf8 a (spelled_utf8 h) (spelled_utf8 j)) (arms_utf8 more)

  all_utf8 : (before : List ℕ) → IsUtf8 before → {args : List Expr} → AllHaveText args → IsUtf8 (joined before (map spelled args))
  all_utf8 before first tree.no_more = IsUtf8-nil
  all_utf8 before first (tree.one_more {a = a} {args = args} h more) =
      IsUtf8-append before _ first (IsUtf8-append (spelled a) _ (spelled_utf8 h) (all_utf8 (codes ", ") (ascii (codes ", ") refl) more))
