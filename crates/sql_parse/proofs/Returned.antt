-- The canonical text of a tree reads as that tree, and each tree that a text reads as has one.
use Rattle.std.proofs.Common.{◌≡◌, ℕ, suc, zero, ◌≤◌, ◌^◌, List, [], ◌∷◌, ◌++◌, Bool, true, false, if◌then◌else◌, Some, pos, negsuc, neg_ℤ, refl, sym, ap, ◌∙◌, subst, arith, append_assoc, append-nil, map, length, length-append}
use Rattle.std.specs.List.{flat_map, AllByRecursion}
use Rattle.sql_base.specs.declared.values.Value.{Value}
use Rattle.sql_base.specs.declared.values.Value.TheVariants as v
use Rattle.sql_base.specs.declared.values.Ty.{Ty}
use Rattle.sql_base.specs.declared.values.Ty.TheVariants as ty
use Rattle.sql_base.specs.declared.exprs.BinOp.{BinOp}
use Rattle.sql_base.specs.declared.exprs.BinOp.TheVariants as op
use Rattle.sql_base.specs.declared.exprs.Func.{Func}
use Rattle.sql_base.specs.declared.exprs.Func.TheVariants as func
use Rattle.sql_base.specs.declared.exprs.Expr.{Expr}
use Rattle.sql_base.specs.declared.exprs.Expr.TheVariants as e
use Rattle.sql_base.specs.declared.exprs.Arm.{Arm}
use Rattle.sql_base.specs.declared.exprs.Expr.TheOpen.{Expr-F, Arm-F}
use Rattle.sql_base.specs.declared.exprs.Expr.TheViews.{roll-Expr, roll-Arm}
use Rattle.sql_base.specs.declared.exprs.Expr.TheFolds.{fold-roll-Expr, fold-roll-Arm, map-Expr, map-Arm}
use Rattle.sql_text.specs.declared.keys.Key.TheVariants as k
use Rattle.sql_text.specs.declared.tokens.Sign.TheVariants as s
use Rattle.sql_text.specs.declared.tokens.Token.{Token}
use Rattle.sql_text.specs.declared.tokens.Token.TheVariants as t
use Rattle.sql_text.specs.Keys.{is_reserved}
use Rattle.sql_text.specs.Printing.{written, written_step, written_arm, written_arm_step, literal_tokens, name_token, operator_token, type_name, function_name, separated}
use Rattle.sql_text.specs.Laws as h
use Rattle.sql_text.specs.Laws.{HasText, ArmsHaveText, AllHaveText, IsLiteral, IsProper, takes}
use Rattle.sql_parse.specs.Grammar as g
use Rattle.sql_parse.specs.Grammar.{Reads, ReadsArms, ReadsAll, infix_of, level, left, right, function_named, type_named}

-- ---- one level of the tokens

written_at : (x : Expr-F Expr Arm) → written (roll-Expr x) ≡ written_step (map-Expr Expr Arm (List Token) (List Token) written written_arm x)
unfolding written written_arm
written_at x = fold-roll-Expr (List Token) (List Token) written_step written_arm_step x

written_arm_at : (x : Arm-F Expr Arm) → written_arm (roll-Arm x) ≡ written_arm_step (map-Arm Expr Arm (List Token) (List Token) written written_arm x)
unfolding written written_arm
written_arm_at x = fold-roll-Arm (List Token) (List Token) written_step written_arm_step x

arm_written : (a : Arm) → written_arm a ≡ t.Key k.When ∷ (written a.when ++ t.Key k.Then ∷ written a.gives)
unfolding denote.Hole.Carrier.roll
arm_written a = let x : Arm-F Expr Arm = record { when = a.when; gives = a.gives } in written_arm_at x

-- ---- literals and names

literal_reads : (x : Value) → IsLiteral x → (l : ℕ) → Reads l (literal_tokens x) (e.Lit x)
literal_reads v.Null few l = g.null
literal_reads (v.Int (pos n)) few l = g.int few
literal_reads (v.Int (negsuc n)) few l = g.minus_int {n = suc n} (omega (arith, few))
literal_reads (v.Text x) few l = g.text
literal_reads (v.Bool true) few l = g.yes
literal_reads (v.Bool false) few l = g.no

name_reads : (name : List ℕ) (l : ℕ) → Reads l (name_token name ∷ []) (e.Col name)
name_reads name l = by_test (is_reserved name)
  where
    by_test : (b : Bool) → Reads l ((if b then t.Quoted name else t.Name name) ∷ []) (e.Col name)
    by_test true = g.quoted
    by_test false = g.column

operator_stands : (o : BinOp) → infix_of (operator_token o) ≡ Some o
operator_stands op.Or = refl
operator_stands op.And = refl
operator_stands op.Eq = refl
operator_stands op.Ne = refl
operator_stands op.Lt = refl
operator_stands op.Le = refl
operator_stands op.Gt = refl
operator_stands op.Ge = refl
operator_stands op.Concat = refl
operator_stands op.Add = refl
operator_stands op.Sub = refl
operator_stands op.Mul = refl
operator_stands op.Div = refl
operator_stands op.Rem = refl

type_stands : (to : Ty) → type_named (type_name to) ≡ Some to
unfolding type_named
type_stands ty.Bigint = refl
type_stands ty.Text = refl
type_stands ty.Boolean = refl

function_stands : (f : Func) → function_named (function_name f) ≡ Some f
unfolding function_named
function_stands func.Coalesce = refl
function_stands func.Nullif = refl
function_stands func.Upper = refl
function_stands func.Lower = refl
function_stands func.Trim = refl
function_stands func.Length = refl

-- ---- forms in parentheses

null_test_reads : {xs : List Token} {a : Expr} (l : ℕ) → Reads 4 xs a → Reads l (t.Sign s.Open ∷ (xs ++ t.Key k.Is ∷ t.Key k.Null ∷ t.Sign s.Close ∷ [])) (e.IsNull a)
null_test_reads {xs} {a} l r =
    let P : List Token → Type 0 = λ ts. Reads l (t.Sign s.Open ∷ ts) (e.IsNull a) in
    subst P (append_assoc xs (t.Key k.Is ∷ t.Key k.Null ∷ []) (t.Sign s.Close ∷ [])) (g.parens {xs = xs ++ t.Key k.Is ∷ t.Key k.Null ∷ []} (g.is_null (omega arith) r))

binary_reads : {xs ys : List Token} {a b : Expr} (o : BinOp) (l : ℕ) → Reads (left o) xs a → Reads (right o) ys b →
    Reads l (t.Sign s.Open ∷ (xs ++ operator_token o ∷ (ys ++ t.Sign s.Close ∷ []))) (e.Bin o a b)
binary_reads {xs} {ys} {a} {b} o l r i =
    let P : List Token → Type 0 = λ ts. Reads l (t.Sign s.Open ∷ ts) (e.Bin o a b) in
    subst P (append_assoc xs (operator_token o ∷ ys) (t.Sign s.Close ∷ [])) (g.parens {xs = xs ++ operator_token o ∷ ys} (g.binary (operator_token o) (operator_stands o) (omega arith) r i))

-- ---- all forms

takes_some : (f : Func) → takes f 0 → ⊥
takes_some func.Coalesce few = omega (arith, few)
takes_some func.Nullif few = absurd (omega (arith, few))
takes_some func.Upper few = absurd (omega (arith, few))
takes_some func.Lower few = absurd (omega (arith, few))
takes_some func.Trim few = absurd (omega (arith, few))
takes_some func.Length few = absurd (omega (arith, few))

arm_first : (a : Arm) (us : List Token) {arms : List Arm} → ReadsArms ((t.Key k.When ∷ (written a.when ++ t.Key k.Then ∷ written a.gives)) ++ us) arms → ReadsArms (written_arm a ++ us) arms
arm_first a us r = rw (arm_written a) r

mutual
  unfolding roll-Expr denote.Hole.Carrier.roll

  written_reads : {a : Expr} → HasText a → (l : ℕ) → Reads l (written a) a
  written_reads (h.lit {v = x} few) l = rw (written_at (Expr-F.Lit x)) (literal_reads x few l)
  written_reads (h.col {name = name} few) l = rw (written_at (Expr-F.Col name)) (name_reads name l)
  written_reads (h.not {a = a} i) l = rw (written_at (Expr-F.Not a)) (g.parens {xs = t.Key k.Not ∷ written a} (g.not {l = 0} (omega arith) (written_reads i 3)))
  written_reads (h.minus {a = a} i) l = rw (written_at (Expr-F.Neg a)) (g.parens {xs = t.Minus false ∷ written a} (g.minus {l = 0} (omega arith) (written_reads i 9)))
  written_reads (h.is_null {a = a} i) l = rw (written_at (Expr-F.IsNull a)) (null_test_reads l (written_reads i 4))
  written_reads (h.binary {o = o} {a = a} {b = b} i j) l = rw (written_at (Expr-F.Bin o a b)) (binary_reads o l (written_reads i (left o)) (written_reads j (right o)))
  written_reads (h.cast {a = a} {to = to} i) l = rw (written_at (Expr-F.Cast a to)) (g.cast (type_name to) (type_stands to) (written_reads i 0))
  written_reads (h.case {arms = []} {other = other} some i j) l = absurd (omega (arith, some))
  written_reads (h.case {arms = a ∷ arms} {other = other} some (h.arm w i more) j) l =
      rw (written_at (Expr-F.Case (a ∷ arms) other)) (g.case (arm_first a _ (more_arms (g.first_arm {a = a} (written_reads w 0) (written_reads i 0)) more)) (written_reads j 0))
  written_reads (h.call {f = f} {args = []} few i) l = absurd (takes_some f few)
  written_reads (h.call {f = f} {args = a ∷ args} few (h.one_more i more)) l =
      rw (written_at (Expr-F.Call f (a ∷ args))) (g.call (function_name f) (function_stands f) few (more_args (g.first_one (written_reads i 0)) more))

  more_arms : {xs : List Token} {arms more : List Arm} → ReadsArms xs arms → ArmsHaveText more → ReadsArms (xs ++ flat_map (λ ts. ts) (map written_arm more)) (arms ++ more)
  more_arms {xs} {arms} r h.no_arm = rw (append-nil xs, append-nil arms) r
  more_arms {xs} {arms} r (h.arm {a = a} {arms = more} w i rest) =
      let next = more_arms (g.next_arm {a = a} r (written_reads w 0) (written_reads i 0)) rest in
      let P : List Token → List Arm → Type 0 = λ ts bs. ReadsArms ts bs in
      let Q : List Arm → Type 0 = λ bs. ReadsArms (xs ++ (written_arm a ++ flat_map (λ ts. ts) (map written_arm more))) bs in
      let R : List Token → Type 0 = λ ts. ReadsArms ts ((arms ++ a ∷ []) ++ more) in
      subst Q (append_assoc arms (a ∷ []) more) (subst R (ap (λ us. (xs ++ us) ++ flat_map (λ ts. ts) (map written_arm more)) (sym (arm_written a)) ∙ append_assoc xs (written_arm a) (flat_map (λ ts. ts) (map written_arm more))) next)

  more_args : {xs : List Token} {args more : List Expr} → ReadsAll xs args → AllHaveText more → ReadsAll (xs ++ separated (t.Sign s.Comma ∷ []) (map written more)) (args ++ more)
  more_args {xs} {args} r h.no_more = rw (append-nil xs, append-nil args) r
  more_args {xs} {args} r (h.one_more {a = a} {args = more} i rest) =
      let next = more_args (g.next_one r (written_reads i 0)) rest in
      let Q : List Expr → Type 0 = λ bs. ReadsAll (xs ++ (t.Sign s.Comma ∷ (written a ++ separated (t.Sign s.Comma ∷ []) (map written more)))) bs in
      let R : List Token → Type 0 = λ ts. ReadsAll ts ((args ++ a ∷ []) ++ more) in
      subst Q (append_assoc args (a ∷ []) more) (subst R (append_assoc xs (t.Sign s.Comma ∷ written a) (separated (t.Sign s.Comma ∷ []) (map written more))) next)

pub written_reads_whole : {a : Expr} → HasText a → Reads 0 (written a) a
written_reads_whole i = written_reads i 0

-- ---- what a text reads as

pub front : (xs ys : List Token) → AllByRecursion IsProper (xs ++ ys) → AllByRecursion IsProper xs
front [] ys all = tt
front (x ∷ xs) ys all = (all.0, front xs ys (all.1))

behind : (xs ys : List Token) → AllByRecursion IsProper (xs ++ ys) → AllByRecursion IsProper ys
behind [] ys all = all
behind (x ∷ xs) ys all = behind xs ys (all.1)

rest : (x : Token) (xs : List Token) → AllByRecursion IsProper (x ∷ xs) → AllByRecursion IsProper xs
rest x xs all = all.1

first : (x : Token) (xs : List Token) → AllByRecursion IsProper (x ∷ xs) → IsProper x
first x xs all = all.0

negative_fits : (n : ℕ) → n ≤ 2 ^ 63 → IsLiteral (v.Int (neg_ℤ (pos n)))
negative_fits zero few = omega arith
negative_fits (suc n) few = omega (arith, few)

arms_snoc : {arms : List Arm} (a : Arm) → ArmsHaveText arms → HasText a.when → HasText a.gives → ArmsHaveText (arms ++ a ∷ [])
arms_snoc a h.no_arm w i = h.arm w i h.no_arm
arms_snoc a (h.arm v j more) w i = h.arm v j (arms_snoc a more w i)

all_snoc : {args : List Expr} {a : Expr} → AllHaveText args → HasText a → AllHaveText (args ++ a ∷ [])
all_snoc h.no_more i = h.one_more i h.no_more
all_snoc (h.one_more j more) i = h.one_more j (all_snoc more i)

some_arm : {xs : List Token} {arms : List Arm} → ReadsArms xs arms → 1 ≤ length arms
some_arm (g.first_arm r i) = omega arith
some_arm (g.next_arm {arms = arms} {a = a} r w i) = rw (length-append arms (a ∷ [])) (omega arith)

mutual
  has_text : {l : ℕ} {ts : List Token} {a : Expr} → Reads l ts a → AllByRecursion IsProper ts → HasText a
  has_text (g.int few) all = h.lit few
  has_text (g.minus_int {n = n} few) all = h.lit (negative_fits n few)
  has_text (g.text {x = x}) all = h.lit (first (t.Text x) [] all)
  has_text g.yes all = h.lit tt
  has_text g.no all = h.lit tt
  has_text g.null all = h.lit tt
  has_text (g.column {name = name}) all = h.col (first (t.Name name) [] all)
  has_text (g.quoted {name = name}) all = h.col (first (t.Quoted name) [] all)
  has_text (g.parens {xs = xs} r) all = has_text r (front xs _ (rest (t.Sign s.Open) (xs ++ t.Sign s.Close ∷ []) all))
  has_text (g.minus {xs = xs} low r) all = h.minus (has_text r (rest (t.Minus false) xs all))
  has_text (g.not {xs = xs} low r) all = h.not (has_text r (rest (t.Key k.Not) xs all))
  has_text (g.is_null {xs = xs} low r) all = h.is_null (has_text r (front xs _ all))
  has_text (g.is_not_null {xs = xs} low r) all = h.not (h.is_null (has_text r (front xs _ all)))
  has_text (g.typed {xs = xs} name is low r) all = h.cast (has_text r (front xs _ all))
  has_text (g.cast {xs = xs} name is r) all =
      let tail = t.Key k.As ∷ t.Name name ∷ t.Sign s.Close ∷ [] in
      h.cast (has_text r (front xs tail (rest (t.Sign s.Open) (xs ++ tail) (rest (t.Key k.Cast) (t.Sign s.Open ∷ (xs ++ tail)) all))))
  has_text (g.case {xs = xs} {ys = ys} r i) all =
      let tail = ys ++ t.Key k.End ∷ [] in
      let inner = rest (t.Key k.Case) (xs ++ t.Key k.Else ∷ tail) all in
      h.case (some_arm r) (arms_have r (front xs (t.Key k.Else ∷ tail) inner)) (has_text i (front ys (t.Key k.End ∷ []) (rest (t.Key k.Else) tail (behind xs (t.Key k.Else ∷ tail) inner))))
  has_text (g.case_alone {xs = xs} r) all = h.case (some_arm r) (arms_have r (front xs (t.Key k.End ∷ []) (rest (t.Key k.Case) (xs ++ t.Key k.End ∷ []) all))) (h.lit tt)
  has_text (g.call {xs = xs} name is many r) all =
      let tail = xs ++ t.Sign s.Close ∷ [] in
      h.call many (all_have r (front xs (t.Sign s.Close ∷ []) (rest (t.Sign s.Open) tail (rest (t.Name name) (t.Sign s.Open ∷ tail) all))))
  has_text (g.binary x {xs = xs} {ys = ys} is low r i) all = h.binary (has_text r (front xs (x ∷ ys) all)) (has_text i (rest x ys (behind xs (x ∷ ys) all)))

  arms_have : {ts : List Token} {arms : List Arm} → ReadsArms ts arms → AllByRecursion IsProper ts → ArmsHaveText arms
  arms_have (g.first_arm {xs = xs} {ys = ys} r i) all =
      let inner = rest (t.Key k.When) (xs ++ t.Key k.Then ∷ ys) all in
      h.arm (has_text r (front xs (t.Key k.Then ∷ ys) inner)) (has_text i (rest (t.Key k.Then) ys (behind xs (t.Key k.Then ∷ ys) inner))) h.no_arm
  arms_have (g.next_arm {xs = xs} {ys = ys} {zs = zs} {a = a} r w i) all =
      let inner = rest (t.Key k.When) (ys ++ t.Key k.Then ∷ zs) (behind xs (t.Key k.When ∷ (ys ++ t.Key k.Then ∷ zs)) all) in
      arms_snoc a (arms_have r (front xs (t.Key k.When ∷ (ys ++ t.Key k.Then ∷ zs)) all)) (has_text w (front ys (t.Key k.Then ∷ zs) inner)) (has_text i (rest (t.Key k.Then) zs (behind ys (t.Key k.Then ∷ zs) inner)))

  all_have : {ts : List Token} {args : List Expr} → ReadsAll ts args → AllByRecursion IsProper ts → AllHaveText args
  all_have (g.first_one r) all = h.one_more (has_text r all) h.no_more
  all_have (g.next_one {xs = xs} {ys = ys} r i) all = all_snoc (all_have r (front xs (t.Sign s.Comma ∷ ys) all)) (has_text i (rest (t.Sign s.Comma) ys (behind xs (t.Sign s.Comma ∷ ys) all)))

pub has_its_text : {l : ℕ} {ts : List Token} {a : Expr} → Reads l ts a → AllByRecursion IsProper ts → HasText a
has_its_text r all = has_text r all
