-- Evaluating wants no memory by its definition: by induction over the tree.
use Rattle.std.proofs.Common.{◌≢◌, ℕ, zero, suc, List, [], ◌∷◌, ◌++◌, Bool, true, false, Option, Some, None, Result, Ok, Err, if◌then◌else◌, length, map, subst}
use Rattle.std.specs.Prelude.{ℤ, pos, negsuc, ◌+ℤ◌, ◌-ℤ◌, ◌*ℤ◌, neg_ℤ, int_div, int_rem, nat_le, ◌==◌, codes}
use Rattle.std.specs.Char.{to_ascii_lowercase}
use Rattle.std.specs.Str.{bytes_eq, chars}
use Rattle.sql_base.specs.declared.values.Value.{Value}
use Rattle.sql_base.specs.declared.values.Value.TheVariants.{Null, Int, Text, Bool as Truth}
use Rattle.sql_base.specs.declared.values.Ty.{Ty}
use Rattle.sql_base.specs.declared.values.Ty.TheVariants as ty
use Rattle.sql_base.specs.declared.exprs.Expr.{Expr}
use Rattle.sql_base.specs.declared.exprs.Arm.{Arm}
use Rattle.sql_base.specs.declared.exprs.Expr.TheOpen.{Expr-F, Arm-F}
use Rattle.sql_base.specs.declared.exprs.Expr.TheViews.{roll-Expr, roll-Arm}
use Rattle.sql_base.specs.declared.exprs.Expr.TheFolds.{ind-Expr, fold-roll-Expr, fold-roll-Arm, map-Expr, map-Arm}
use Rattle.sql_base.specs.declared.exprs.BinOp.{BinOp}
use Rattle.sql_base.specs.declared.exprs.BinOp.TheVariants as op
use Rattle.sql_base.specs.declared.exprs.Func.{Func}
use Rattle.sql_base.specs.declared.exprs.Func.TheVariants as func
use Rattle.sql_base.specs.declared.faults.EvalFault.{EvalFault}
use Rattle.sql_base.specs.declared.faults.EvalFault.TheVariants as fault
use Rattle.sql_base.specs.declared.shapes.Shape.{Shape}
use Rattle.sql_base.specs.Laws.{OnlyFaults, faults_either, faults_then}
use Rattle.sql_base.specs.Outcome.{and_then, every}
use Rattle.sql_eval.specs.Cast.{called, cast, read_bigint, read_boolean, read_digits, read_number, signed, text_call, trimmed, with_sign}
use Rattle.sql_eval.specs.Eval as valued
use Rattle.sql_eval.specs.Eval.{binary, call, case, coalesce, eval, eval_arm, eval_step}
use Rattle.sql_eval.specs.Laws.{EvaluatingWantsNothing}
use Rattle.sql_eval.specs.Value.{Outcome, applied, arithmetic, computed, concat, divided, fits_i64, is_null, is_truth, max_text, negated, settles, whole}

abbrev OfValues : EvalFault → Type 0
OfValues fault.DivZero = Unit {0}
OfValues fault.Range = Unit {0}
OfValues fault.BadText = Unit {0}
OfValues fault.TooLong = Unit {0}
OfValues fault.NoMemory = ⊥

abbrev Fine : {T : Type 0} → Result T EvalFault → Type 0
Fine r = OnlyFaults OfValues r

next_fine : {T U : Type 0} (r : Result T EvalFault) (next : T → Result U EvalFault) → Fine r → ((x : T) → Fine (next x)) → Fine (and_then r next)
next_fine r next h more = faults_then OfValues r next h more

either_fine : (test : Bool) (a b : Outcome) → Fine a → Fine b → Fine (if test then a else b)
either_fine test a b h k = faults_either OfValues test a b h k

-- ---- operators

whole_fine : (z : ℤ) → Fine (whole z)
whole_fine z = either_fine (fits_i64 z) (Ok (Int z)) (Err fault.Range) tt tt

divided_fine : (by : ℤ → ℤ → ℤ) (m n : ℤ) → Fine (divided by m n)
divided_fine by m (pos zero) = tt
divided_fine by m (pos (suc n)) = whole_fine (by m (pos (suc n)))
divided_fine by m (negsuc n) = whole_fine (by m (negsuc n))

negated_fine : (v : Value) → Fine (negated v)
negated_fine (Int n) = whole_fine (neg_ℤ n)
negated_fine Null = tt
negated_fine (Text t) = tt
negated_fine (Truth b) = tt

computed_fine : (o : BinOp) (m n : ℤ) → Fine (computed o m n)
computed_fine op.Add m n = whole_fine (m +ℤ n)
computed_fine op.Sub m n = whole_fine (m -ℤ n)
computed_fine op.Mul m n = whole_fine (m *ℤ n)
computed_fine op.Div m n = divided_fine int_div m n
computed_fine op.Rem m n = divided_fine int_rem m n
computed_fine _ m n = tt

arithmetic_fine : (o : BinOp) (x y : Value) → Fine (arithmetic o x y)
arithmetic_fine o (Int m) (Int n) = computed_fine o m n
arithmetic_fine o (Int m) Null = tt
arithmetic_fine o (Int m) (Text t) = tt
arithmetic_fine o (Int m) (Truth b) = tt
arithmetic_fine o Null y = tt
arithmetic_fine o (Text t) y = tt
arithmetic_fine o (Truth b) y = tt

concat_fine : (x y : Value) → Fine (concat x y)
concat_fine (Text s) (Text t) = either_fine (nat_le (length (s ++ t)) max_text) (Ok (Text (s ++ t))) (Err fault.TooLong) tt tt
concat_fine (Text s) Null = tt
concat_fine (Text s) (Int n) = tt
concat_fine (Text s) (Truth b) = tt
concat_fine Null y = tt
concat_fine (Int n) y = tt
concat_fine (Truth b) y = tt

applied_fine : (o : BinOp) (x y : Value) → Fine (applied o x y)
applied_fine op.Or x y = tt
applied_fine op.And x y = tt
applied_fine op.Eq x y = tt
applied_fine op.Ne x y = tt
applied_fine op.Lt x y = tt
applied_fine op.Le x y = tt
applied_fine op.Gt x y = tt
applied_fine op.Ge x y = tt
applied_fine op.Concat x y = concat_fine x y
applied_fine op.Add x y = arithmetic_fine op.Add x y
applied_fine op.Sub x y = arithmetic_fine op.Sub x y
applied_fine op.Mul x y = arithmetic_fine op.Mul x y
applied_fine op.Div x y = arithmetic_fine op.Div x y
applied_fine op.Rem x y = arithmetic_fine op.Rem x y

binary_fine : (o : BinOp) (left right : Outcome) → Fine left → Fine right → Fine (binary o left right)
binary_fine o left right h k =
    next_fine left (λ x. if settles o x then Ok x else and_then right (applied o x)) h (λ x. either_fine (settles o x) (Ok x) (and_then right (applied o x)) tt (next_fine right (applied o x) k (applied_fine o x)))

-- ---- casts and functions

signed_fine : (negative : Bool) (n : Option ℕ) → Fine (signed negative n)
signed_fine negative None = tt
signed_fine negative (Some n) = whole_fine (with_sign negative n)

number_fine : (negative : Bool) (bs : List ℕ) → Fine (read_number negative bs)
number_fine negative [] = tt
number_fine negative (b ∷ bs) = signed_fine negative (read_digits 0 (b ∷ bs))

bigint_fine : (bs : List ℕ) → Fine (read_bigint bs)
bigint_fine [] = tt
bigint_fine (b ∷ bs) =
    either_fine (b == 45) (read_number true bs) (if b == 43 then read_number false bs else read_number false (b ∷ bs)) (number_fine true bs) (either_fine (b == 43) (read_number false bs) (read_number false (b ∷ bs)) (number_fine false bs) (number_fine false (b ∷ bs)))

boolean_fine : (bs : List ℕ) → Fine (read_boolean bs)
boolean_fine bs =
    either_fine (bytes_eq bs (codes "t")) (Ok (Truth true)) _ tt (either_fine (bytes_eq bs (codes "true")) (Ok (Truth true)) _ tt (either_fine (bytes_eq bs (codes "f")) (Ok (Truth false)) _ tt (either_fine (bytes_eq bs (codes "false")) (Ok (Truth false)) (Err fault.BadText) tt tt)))

cast_fine : (v : Value) (to : Ty) → Fine (cast v to)
cast_fine Null to = tt
cast_fine (Int n) ty.Bigint = tt
cast_fine (Int n) ty.Text = tt
cast_fine (Int n) ty.Boolean = tt
cast_fine (Text t) ty.Bigint = bigint_fine (trimmed t)
cast_fine (Text t) ty.Text = tt
cast_fine (Text t) ty.Boolean = boolean_fine (map to_ascii_lowercase (trimmed t))
cast_fine (Truth b) ty.Bigint = tt
cast_fine (Truth b) ty.Text = tt
cast_fine (Truth b) ty.Boolean = tt

text_fine : (f : Func) (t : List ℕ) → Fine (text_call f t)
text_fine func.Coalesce t = tt
text_fine func.Nullif t = tt
text_fine func.Upper t = tt
text_fine func.Lower t = tt
text_fine func.Trim t = tt
text_fine func.Length t = whole_fine (pos (length (chars t)))

called_fine : (f : Func) (vs : List Value) → Fine (called f vs)
called_fine func.Coalesce [] = tt
called_fine func.Coalesce (Text t ∷ []) = text_fine func.Coalesce t
called_fine func.Coalesce (Text t ∷ w ∷ vs) = tt
called_fine func.Coalesce (Null ∷ vs) = tt
called_fine func.Coalesce (Int n ∷ vs) = tt
called_fine func.Coalesce (Truth b ∷ vs) = tt
called_fine func.Upper [] = tt
called_fine func.Upper (Text t ∷ []) = text_fine func.Upper t
called_fine func.Upper (Text t ∷ w ∷ vs) = tt
called_fine func.Upper (Null ∷ vs) = tt
called_fine func.Upper (Int n ∷ vs) = tt
called_fine func.Upper (Truth b ∷ vs) = tt
called_fine func.Lower [] = tt
called_fine func.Lower (Text t ∷ []) = text_fine func.Lower t
called_fine func.Lower (Text t ∷ w ∷ vs) = tt
called_fine func.Lower (Null ∷ vs) = tt
called_fine func.Lower (Int n ∷ vs) = tt
called_fine func.Lower (Truth b ∷ vs) = tt
called_fine func.Trim [] = tt
called_fine func.Trim (Text t ∷ []) = text_fine func.Trim t
called_fine func.Trim (Text t ∷ w ∷ vs) = tt
called_fine func.Trim (Null ∷ vs) = tt
called_fine func.Trim (Int n ∷ vs) = tt
called_fine func.Trim (Truth b ∷ vs) = tt
called_fine func.Length [] = tt
called_fine func.Length (Text t ∷ []) = text_fine func.Length t
called_fine func.Length (Text t ∷ w ∷ vs) = tt
called_fine func.Length (Null ∷ vs) = tt
called_fine func.Length (Int n ∷ vs) = tt
called_fine func.Length (Truth b ∷ vs) = tt
called_fine func.Nullif [] = tt
called_fine func.Nullif (Text t ∷ []) = tt
called_fine func.Nullif (Null ∷ []) = tt
called_fine func.Nullif (Int n ∷ []) = tt
called_fine func.Nullif (Truth b ∷ []) = tt
called_fine func.Nullif (v ∷ w ∷ []) = tt
called_fine func.Nullif (Text t ∷ w ∷ x ∷ vs) = tt
called_fine func.Nullif (Null ∷ w ∷ x ∷ vs) = tt
called_fine func.Nullif (Int n ∷ w ∷ x ∷ vs) = tt
called_fine func.Nullif (Truth b ∷ w ∷ x ∷ vs) = tt

-- ---- the whole tree

module _ (shape : Shape) (row : List Value) where
  abbrev P : Expr → Type 0
  P e = Fine (eval shape row e)

  abbrev Q : Arm → Type 0
  Q a = Fine (eval_arm shape row a).0 × Fine (eval_arm shape row a).1

  everything : (ys : List ((e : Expr) × P e)) → Fine (every (map (eval shape row) (map (λ e. e.0) ys)))
  everything [] = tt
  everything (y ∷ ys) =
      let rest = every (map (eval shape row) (map (λ e. e.0) ys)) in
      next_fine (eval shape row y.0) (λ x. and_then rest (λ xs. Ok (x ∷ xs))) y.1 (λ x. next_fine rest (λ xs. Ok (x ∷ xs)) (everything ys) (λ xs. tt))

  coalesced : (ys : List ((e : Expr) × P e)) → Fine (coalesce (map (eval shape row) (map (λ e. e.0) ys)))
  coalesced [] = tt
  coalesced (y ∷ ys) =
      let rest = coalesce (map (eval shape row) (map (λ e. e.0) ys)) in
      next_fine (eval shape row y.0) (λ x. if is_null x then rest else Ok x) y.1 (λ x. either_fine (is_null x) rest (Ok x) (coalesced ys) tt)

  chosen : (other : Outcome) → Fine other → (ys : List ((a : Arm) × Q a)) → Fine (case (map (eval_arm shape row) (map (λ a. a.0) ys)) other)
  chosen other h [] = h
  chosen other h (y ∷ ys) =
      let arm = eval_arm shape row y.0 in
      let rest = case (map (eval_arm shape row) (map (λ a. a.0) ys)) other in
      next_fine arm.0 (λ x. if is_truth true x then arm.1 else rest) y.1.0 (λ x. either_fine (is_truth true x) arm.1 rest y.1.1 (chosen other h ys))

  at : (x : Expr-F Expr Arm) → Fine (eval_step shape row (map-Expr Expr Arm Outcome (Outcome × Outcome) (eval shape row) (eval_arm shape row) x)) → P (roll-Expr x)
  unfolding eval eval_arm
  at x h = rw (fold-roll-Expr Outcome (Outcome × Outcome) (eval_step shape row) valued.arm_step x) h

  called_of : (f : Func) (ys : List ((e : Expr) × P e)) → Fine (and_then (every (map (eval shape row) (map (λ e. e.0) ys))) (called f))
  called_of f ys = next_fine (every (map (eval shape row) (map (λ e. e.0) ys))) (called f) (everything ys) (called_fine f)

  level : (y : Expr-F ((e : Expr) × P e) ((a : Arm) × Q a)) → P (roll-Expr (map-Expr ((e : Expr) × P e) ((a : Arm) × Q a) Expr Arm (λ e. e.0) (λ a. a.0) y))
  level (Expr-F.Lit v) = at (Expr-F.Lit v) tt
  level (Expr-F.Col name) = at (Expr-F.Col name) tt
  level (Expr-F.Not a) = at (Expr-F.Not a.0) (next_fine (eval shape row a.0) _ a.1 (λ x. tt))
  level (Expr-F.Neg a) = at (Expr-F.Neg a.0) (next_fine (eval shape row a.0) negated a.1 negated_fine)
  level (Expr-F.IsNull a) = at (Expr-F.IsNull a.0) (next_fine (eval shape row a.0) _ a.1 (λ x. tt))
  level (Expr-F.Bin op a b) = at (Expr-F.Bin op a.0 b.0) (binary_fine op (eval shape row a.0) (eval shape row b.0) a.1 b.1)
  level (Expr-F.Cast a to) = at (Expr-F.Cast a.0 to) (next_fine (eval shape row a.0) (λ x. cast x to) a.1 (λ x. cast_fine x to))
  level (Expr-F.Case arms other) = at (Expr-F.Case (map (λ a. a.0) arms) other.0) (chosen (eval shape row other.0) other.1 arms)
  level (Expr-F.Call func.Coalesce args) = at (Expr-F.Call func.Coalesce (map (λ e. e.0) args)) (coalesced args)
  level (Expr-F.Call func.Nullif args) = at (Expr-F.Call func.Nullif (map (λ e. e.0) args)) (called_of func.Nullif args)
  level (Expr-F.Call func.Upper args) = at (Expr-F.Call func.Upper (map (λ e. e.0) args)) (called_of func.Upper args)
  level (Expr-F.Call func.Lower args) = at (Expr-F.Call func.Lower (map (λ e. e.0) args)) (called_of func.Lower args)
  level (Expr-F.Call func.Trim args) = at (Expr-F.Call func.Trim (map (λ e. e.0) args)) (called_of func.Trim args)
  level (Expr-F.Call func.Length args) = at (Expr-F.Call func.Length (map (λ e. e.0) args)) (called_of func.Length args)

  arm_level : (y : Arm-F ((e : Expr) × P e) ((a : Arm) × Q a)) → Q (roll-Arm (map-Arm ((e : Expr) × P e) ((a : Arm) × Q a) Expr Arm (λ e. e.0) (λ a. a.0) y))
  unfolding eval eval_arm
  arm_level y =
      let values = fold-roll-Arm Outcome (Outcome × Outcome) (eval_step shape row) valued.arm_step (map-Arm ((e : Expr) × P e) ((a : Arm) × Q a) Expr Arm (λ e. e.0) (λ a. a.0) y) in
      rw values (y.when.1, y.gives.1)

  fine : (e : Expr) → P e
  fine e = ind-Expr P Q (λ x y is. subst (λ z. P (roll-Expr z)) is (level y)) (λ x y is. subst (λ z. Q (roll-Arm z)) is (arm_level y)) e

never : (r : Outcome) → Fine r → r ≢ Err fault.NoMemory
never r h e = subst Fine e h

pub evaluating_wants_nothing : EvaluatingWantsNothing
evaluating_wants_nothing shape row e = never (eval shape row e) (fine shape row e)
