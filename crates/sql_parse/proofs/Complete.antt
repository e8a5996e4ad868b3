-- Each text that the grammar has is gone through, to its tree.
use Rattle.std.proofs.Common.{◌≡◌, ℕ, suc, ◌+◌, ◌<◌, ◌≤◌, ◌^◌, max, length-append, List, [], ◌∷◌, ◌++◌, true, false, Option, Some, None, pos, neg_ℤ, map, length, if◌then◌else◌, refl, sym, ◌∙◌, ap, arith, append_assoc, nat_le, nat_lt}
use Rattle.std.proofs.lemmas.Bool.{le-leb, lt-leb, eq-eqb}
use Rattle.std.proofs.lemmas.List.{map-append, length-map}
use Rattle.sql_base.specs.declared.values.Value.TheVariants as v
use Rattle.sql_base.specs.declared.exprs.BinOp.{BinOp}
use Rattle.sql_base.specs.declared.exprs.BinOp.TheVariants as op
use Rattle.sql_base.specs.declared.exprs.Func.{Func}
use Rattle.sql_base.specs.declared.exprs.Func.TheVariants as func
use Rattle.sql_base.specs.declared.exprs.Expr.{Expr}
use Rattle.sql_base.specs.declared.exprs.Expr.TheVariants as e
use Rattle.sql_base.specs.declared.exprs.Arm.{Arm}
use Rattle.sql_base.specs.Tree.{depth}
use Rattle.sql_text.specs.declared.keys.Key.TheVariants as k
use Rattle.sql_text.specs.declared.tokens.Sign.TheVariants as s
use Rattle.sql_text.specs.declared.tokens.Token.{Token}
use Rattle.sql_text.specs.declared.tokens.Token.TheVariants as t
use Rattle.sql_text.specs.Laws.{takes}
use Rattle.sql_parse.specs.declared.machine.Part.{Part}
use Rattle.sql_parse.specs.declared.machine.Part.TheVariants.{Whole}
use Rattle.sql_parse.specs.declared.machine.Open.{Open}
use Rattle.sql_parse.specs.declared.machine.Open.TheVariants as p
use Rattle.sql_parse.specs.declared.machine.Operand.{Operand}
use Rattle.sql_parse.specs.declared.machine.State.{State}
use Rattle.sql_parse.specs.declared.machine.State.TheVariants as q
use Rattle.sql_parse.specs.Grammar.{infix_of, level, left, right, function_named, Reads, ReadsAll, ReadsArms, IsText, int, minus_int, text, yes, no, null, column, quoted, parens, minus, not, is_null, is_not_null, typed, cast, case, case_alone, call, binary, first_arm, next_arm, first_one, next_one}
use Rattle.sql_parse.specs.Machine.{hole, hole_of, leaf, with_one, with_two, call_of, case_of, filled, level_of, settled, with_operator, with_is, with_type, takes_these, takes_more, by_close, by_comma, by_as, by_when, by_then, by_else, by_end, by_last, named, wanted, minus_then, cast_to, with_name, step, then_step, run}
use Rattle.sql_parse.proofs.Capped.{cap, cap_arm, cap_lit, cap_col, cap_neg, cap_not, cap_is_null, cap_cast, cap_bin, cap_call, cap_case}

pub run-append : (most : ℕ) (r : Option State) (xs ys : List Token) → run most r (xs ++ ys) ≡ run most (run most r xs) ys
run-append most r [] ys = refl
run-append most r (x ∷ xs) ys = run-append most (then_step most r x) xs ys

pub run-none : (most : ℕ) (xs : List Token) → run most None xs ≡ None
run-none most [] = refl
run-none most (x ∷ xs) = run-none most xs

test_le : (a b : ℕ) → a ≤ b → nat_le a b ≡ true
test_le a b h = le-leb a b h

test_gt : (a b : ℕ) → b < a → nat_le a b ≡ false
test_gt a b h = lt-leb a b h

-- the tokens that may come next after something of level l: an operator only if its left operand may have that level
abbrev pub FitsAs : ℕ → Token → Option BinOp → Type 0
FitsAs l x (Some o) = left o ≤ l
FitsAs l (t.Key k.Is) None = 4 ≤ l
FitsAs l (t.Sign s.Cast) None = 10 ≤ l
FitsAs l (t.Sign s.Open) None = ⊥
FitsAs l x None = Unit {0}

abbrev pub Fits : ℕ → Token → Type 0
Fits l x = FitsAs l x (infix_of x)

-- ---- the table

level_left : (o : BinOp) → level o ≤ left o
level_left op.Or = omega arith
level_left op.And = omega arith
level_left op.Eq = omega arith
level_left op.Ne = omega arith
level_left op.Lt = omega arith
level_left op.Le = omega arith
level_left op.Gt = omega arith
level_left op.Ge = omega arith
level_left op.Concat = omega arith
level_left op.Add = omega arith
level_left op.Sub = omega arith
level_left op.Mul = omega arith
level_left op.Div = omega arith
level_left op.Rem = omega arith

level_right : (o : BinOp) → right o ≡ level o + 1
level_right op.Or = refl
level_right op.And = refl
level_right op.Eq = refl
level_right op.Ne = refl
level_right op.Lt = refl
level_right op.Le = refl
level_right op.Gt = refl
level_right op.Ge = refl
level_right op.Concat = refl
level_right op.Add = refl
level_right op.Sub = refl
level_right op.Mul = refl
level_right op.Div = refl
level_right op.Rem = refl

level_not : (o : BinOp) → left o ≤ 3 → level o < 3
level_not op.Or h = omega arith
level_not op.And h = omega arith
level_not op.Eq h = absurd (omega arith)
level_not op.Ne h = absurd (omega arith)
level_not op.Lt h = absurd (omega arith)
level_not op.Le h = absurd (omega arith)
level_not op.Gt h = absurd (omega arith)
level_not op.Ge h = absurd (omega arith)
level_not op.Concat h = absurd (omega arith)
level_not op.Add h = absurd (omega arith)
level_not op.Sub h = absurd (omega arith)
level_not op.Mul h = absurd (omega arith)
level_not op.Div h = absurd (omega arith)
level_not op.Rem h = absurd (omega arith)

left_small : (o : BinOp) → left o ≤ 8
left_small op.Or = omega arith
left_small op.And = omega arith
left_small op.Eq = omega arith
left_small op.Ne = omega arith
left_small op.Lt = omega arith
left_small op.Le = omega arith
left_small op.Gt = omega arith
left_small op.Ge = omega arith
left_small op.Concat = omega arith
left_small op.Add = omega arith
left_small op.Sub = omega arith
left_small op.Mul = omega arith
left_small op.Div = omega arith
left_small op.Rem = omega arith

left_right_small : (o : BinOp) → (left o ≤ 11) × (right o ≤ 11)
left_right_small o = (omega (arith, left_small o), omega (arith, left_small o, level_left o, level_right o))

-- ---- one more token

-- parts whose hole is filled as soon as something looser comes
abbrev pub IsOperator : Open → Type 0
IsOperator p.Not = Unit {0}
IsOperator p.Neg = Unit {0}
IsOperator (p.Left o a) = Unit {0}
IsOperator _ = ⊥

stays : (most limit : ℕ) (st : List Open) (a : Part) (l : ℕ) → hole st ≤ limit → settled most limit st a l ≡ record { stack = st; tree = a; level = l }
stays most limit [] a l h = refl
stays most limit (f ∷ st) a l h = rw (test_le (hole_of f) limit h) refl

fills : (most limit : ℕ) (f : Open) (st : List Open) (a : Part) (l : ℕ) → limit < hole_of f → settled most limit (f ∷ st) a l ≡ settled most limit st (filled most f a) (level_of f)
fills most limit f st a l h = rw (test_gt (hole_of f) limit h) refl

fits_more : (l m : ℕ) (x : Token) → l ≤ m → Fits l x → Fits m x
fits_more l m (t.Key k.Or) h j = omega arith
fits_more l m (t.Key k.And) h j = omega arith
fits_more l m (t.Sign s.Eq) h j = omega arith
fits_more l m (t.Sign s.Ne) h j = omega arith
fits_more l m (t.Sign s.Lt) h j = omega arith
fits_more l m (t.Sign s.Le) h j = omega arith
fits_more l m (t.Sign s.Gt) h j = omega arith
fits_more l m (t.Sign s.Ge) h j = omega arith
fits_more l m (t.Sign s.Concat) h j = omega arith
fits_more l m (t.Sign s.Plus) h j = omega arith
fits_more l m (t.Minus b) h j = omega arith
fits_more l m (t.Sign s.Star) h j = omega arith
fits_more l m (t.Sign s.Slash) h j = omega arith
fits_more l m (t.Sign s.Percent) h j = omega arith
fits_more l m (t.Key k.Is) h j = omega arith
fits_more l m (t.Sign s.Cast) h j = omega arith
fits_more l m (t.Sign s.Open) h j = absurd j
fits_more l m _ h j = tt

-- The level of an operand says no more than that an operator may follow.
settled_level : (most limit : ℕ) (st : List Open) (a : Part) (l m : ℕ) (take : Operand → Option State) →
    ((st : List Open) (a : Part) → take (record { stack = st; tree = a; level = m }) ≡ take (record { stack = st; tree = a; level = l })) →
    take (settled most limit st a m) ≡ take (settled most limit st a l)
settled_level most limit [] a l m take same = same [] a
settled_level most limit (f ∷ st) a l m take same =
    elim (nat_le (hole_of f) limit) as (λ b.
    take (if b then record { stack = f ∷ st; tree = a; level = m } else settled most limit st (filled most f a) (level_of f))
    ≡ take (if b then record { stack = f ∷ st; tree = a; level = l } else settled most limit st (filled most f a) (level_of f)))
    [ true ↦ same (f ∷ st) a | false ↦ refl ]

same_op : (most : ℕ) (o : BinOp) (st : List Open) (a : Part) (l m : ℕ) → l ≤ m → left o ≤ l →
    with_operator o (settled most (level o) st a m) ≡ with_operator o (settled most (level o) st a l)
same_op most o st a l m h j = settled_level most (level o) st a l m (with_operator o)
    (λ st a. rw (test_le (left o) m (omega arith), test_le (left o) l j) refl)

same_step : (most : ℕ) (st : List Open) (a : Part) (l m : ℕ) (x : Token) → l ≤ m → Fits l x → step most (q.Have st a m) x ≡ step most (q.Have st a l) x
same_step most st a l m (t.Key k.Or) h j = same_op most op.Or st a l m h j
same_step most st a l m (t.Key k.And) h j = same_op most op.And st a l m h j
same_step most st a l m (t.Sign s.Eq) h j = same_op most op.Eq st a l m h j
same_step most st a l m (t.Sign s.Ne) h j = same_op most op.Ne st a l m h j
same_step most st a l m (t.Sign s.Lt) h j = same_op most op.Lt st a l m h j
same_step most st a l m (t.Sign s.Le) h j = same_op most op.Le st a l m h j
same_step most st a l m (t.Sign s.Gt) h j = same_op most op.Gt st a l m h j
same_step most st a l m (t.Sign s.Ge) h j = same_op most op.Ge st a l m h j
same_step most st a l m (t.Sign s.Concat) h j = same_op most op.Concat st a l m h j
same_step most st a l m (t.Sign s.Plus) h j = same_op most op.Add st a l m h j
same_step most st a l m (t.Minus b) h j = same_op most op.Sub st a l m h j
same_step most st a l m (t.Sign s.Star) h j = same_op most op.Mul st a l m h j
same_step most st a l m (t.Sign s.Slash) h j = same_op most op.Div st a l m h j
same_step most st a l m (t.Sign s.Percent) h j = same_op most op.Rem st a l m h j
same_step most st a l m (t.Key k.Is) h j = settled_level most 4 st a l m with_is (λ st a. rw (test_le 4 m (omega arith), test_le 4 l j) refl)
same_step most st a l m (t.Sign s.Cast) h j = settled_level most 10 st a l m with_type (λ st a. rw (test_le 10 m (omega arith), test_le 10 l j) refl)
same_step most st a l m (t.Sign s.Close) h j = settled_level most 0 st a l m (λ x. by_close most x.stack x.tree) (λ st a. refl)
same_step most st a l m (t.Sign s.Comma) h j = settled_level most 0 st a l m (λ x. by_comma x.stack x.tree) (λ st a. refl)
same_step most st a l m (t.Key k.As) h j = settled_level most 0 st a l m (λ x. by_as x.stack x.tree) (λ st a. refl)
same_step most st a l m (t.Key k.When) h j = settled_level most 0 st a l m (λ x. by_when x.stack x.tree) (λ st a. refl)
same_step most st a l m (t.Key k.Then) h j = settled_level most 0 st a l m (λ x. by_then x.stack x.tree) (λ st a. refl)
same_step most st a l m (t.Key k.Else) h j = settled_level most 0 st a l m (λ x. by_else x.stack x.tree) (λ st a. refl)
same_step most st a l m (t.Key k.End) h j = settled_level most 0 st a l m (λ x. by_end most x.stack x.tree) (λ st a. refl)
same_step most st a l m t.End h j = settled_level most 0 st a l m (λ x. by_last x.stack x.tree) (λ st a. refl)
same_step most st a l m _ h j = refl

-- An operator that may follow a filled part is looser than the part's hole.
tighter : (o : BinOp) (f : Open) → IsOperator f → left o ≤ level_of f → level o < hole_of f
tighter o p.Not i h = level_not o h
tighter o p.Neg i h = omega (arith, level_left o, left_small o)
tighter o (p.Left r a) i h = omega (arith, level_left o, level_right r)
tighter o _ i h = absurd i

some_hole : (f : Open) → IsOperator f → 0 < hole_of f
some_hole p.Not i = omega arith
some_hole p.Neg i = omega arith
some_hole (p.Left o a) i = omega (arith, level_right o)
some_hole _ i = absurd i

is_hole : (f : Open) → IsOperator f → 4 ≤ level_of f → 4 < hole_of f
is_hole p.Not i h = absurd (omega arith)
is_hole p.Neg i h = omega arith
is_hole (p.Left o a) i h = omega (arith, level_right o)
is_hole _ i h = absurd i

cast_hole : (f : Open) → IsOperator f → 10 ≤ level_of f → 10 < hole_of f
cast_hole p.Not i h = absurd (omega arith)
cast_hole p.Neg i h = absurd (omega arith)
cast_hole (p.Left o a) i h = absurd (omega (arith, level_left o, left_small o))
cast_hole _ i h = absurd i

filled_step : (most : ℕ) (f : Open) (st : List Open) (a : Part) (l : ℕ) (x : Token) → IsOperator f → Fits (level_of f) x →
    step most (q.Have (f ∷ st) a l) x ≡ step most (q.Have st (filled most f a) (level_of f)) x
filled_step most f st a l (t.Key k.Or) i j = rw (fills most 1 f st a l (tighter op.Or f i j)) refl
filled_step most f st a l (t.Key k.And) i j = rw (fills most 2 f st a l (tighter op.And f i j)) refl
filled_step most f st a l (t.Sign s.Eq) i j = rw (fills most 5 f st a l (tighter op.Eq f i j)) refl
filled_step most f st a l (t.Sign s.Ne) i j = rw (fills most 5 f st a l (tighter op.Ne f i j)) refl
filled_step most f st a l (t.Sign s.Lt) i j = rw (fills most 5 f st a l (tighter op.Lt f i j)) refl
filled_step most f st a l (t.Sign s.Le) i j = rw (fills most 5 f st a l (tighter op.Le f i j)) refl
filled_step most f st a l (t.Sign s.Gt) i j = rw (fills most 5 f st a l (tighter op.Gt f i j)) refl
filled_step most f st a l (t.Sign s.Ge) i j = rw (fills most 5 f st a l (tighter op.Ge f i j)) refl
filled_step most f st a l (t.Sign s.Concat) i j = rw (fills most 6 f st a l (tighter op.Concat f i j)) refl
filled_step most f st a l (t.Sign s.Plus) i j = rw (fills most 7 f st a l (tighter op.Add f i j)) refl
filled_step most f st a l (t.Minus b) i j = rw (fills most 7 f st a l (tighter op.Sub f i j)) refl
filled_step most f st a l (t.Sign s.Star) i j = rw (fills most 8 f st a l (tighter op.Mul f i j)) refl
filled_step most f st a l (t.Sign s.Slash) i j = rw (fills most 8 f st a l (tighter op.Div f i j)) refl
filled_step most f st a l (t.Sign s.Percent) i j = rw (fills most 8 f st a l (tighter op.Rem f i j)) refl
filled_step most f st a l (t.Key k.Is) i j = rw (fills most 4 f st a l (is_hole f i j)) refl
filled_step most f st a l (t.Sign s.Cast) i j = rw (fills most 10 f st a l (cast_hole f i j)) refl
filled_step most f st a l (t.Sign s.Close) i j = rw (fills most 0 f st a l (some_hole f i)) refl
filled_step most f st a l (t.Sign s.Comma) i j = rw (fills most 0 f st a l (some_hole f i)) refl
filled_step most f st a l (t.Key k.As) i j = rw (fills most 0 f st a l (some_hole f i)) refl
filled_step most f st a l (t.Key k.When) i j = rw (fills most 0 f st a l (some_hole f i)) refl
filled_step most f st a l (t.Key k.Then) i j = rw (fills most 0 f st a l (some_hole f i)) refl
filled_step most f st a l (t.Key k.Else) i j = rw (fills most 0 f st a l (some_hole f i)) refl
filled_step most f st a l (t.Key k.End) i j = rw (fills most 0 f st a l (some_hole f i)) refl
filled_step most f st a l t.End i j = rw (fills most 0 f st a l (some_hole f i)) refl
filled_step most f st a l _ i j = refl

-- what an operator's token does after its left operand
shifted : (most : ℕ) (x : Token) (o : BinOp) → infix_of x ≡ Some o → (st : List Open) (a : Part) → hole st ≤ level o →
    step most (q.Have st a (left o)) x ≡ Some (q.Want (p.Left o a ∷ st))
shifted most x o is st a h = rw (is, stays most (level o) st a (left o) h, test_le (left o) (left o) (omega arith)) refl

fits_self : (x : Token) (o : BinOp) → infix_of x ≡ Some o → Fits (left o) x
fits_self x o is = rw is (omega arith)

not_begins : (most : ℕ) (st : List Open) → hole st ≤ 3 → step most (q.Want st) (t.Key k.Not) ≡ Some (q.Want (p.Not ∷ st))
not_begins most st h = rw (test_le (hole st) 3 h) refl

-- a name of a function is a column where no `(` follows
named_step : (most : ℕ) (st : List Open) (f : Func) (name : List ℕ) (l : ℕ) (x : Token) → Fits l x → step most (q.Named st f name) x ≡ step most (q.Have st (leaf (e.Col name)) 11) x
named_step most st f name l (t.Sign s.Open) h = absurd h
named_step most st f name l _ h = refl

column_step : (most : ℕ) (st : List Open) (name : List ℕ) (l : ℕ) (x : Token) → Fits l x → then_step most (named st name (function_named name)) x ≡ step most (q.Have st (leaf (e.Col name)) 11) x
column_step most st name l x h = by_function (function_named name)
  where
    by_function : (f : Option Func) → then_step most (named st name f) x ≡ step most (q.Have st (leaf (e.Col name)) 11) x
    by_function None = refl
    by_function (Some f) = named_step most st f name l x h

-- ---- how many arguments

these : (f : Func) (n : ℕ) → takes f n → takes_these f n ≡ true
these func.Coalesce n h = le-leb 1 n h
these func.Nullif n h = eq-eqb n 2 h
these func.Upper n h = eq-eqb n 1 h
these func.Lower n h = eq-eqb n 1 h
these func.Trim n h = eq-eqb n 1 h
these func.Length n h = eq-eqb n 1 h

more_than : (f : Func) (n m : ℕ) → takes f n → 1 ≤ m → m < n → takes_more f m ≡ true
more_than func.Coalesce n m h some few = refl
more_than func.Nullif n m h some few = eq-eqb m 1 (omega arith)
more_than func.Upper n m h some few = absurd (omega arith)
more_than func.Lower n m h some few = absurd (omega arith)
more_than func.Trim n m h some few = absurd (omega arith)
more_than func.Length n m h some few = absurd (omega arith)

lt_test : (a b : ℕ) → a < b → nat_lt a b ≡ true
lt_test a b h = le-leb (suc a) b h

int_step : (st : List Open) (n : ℕ) → n < 2 ^ 63 → wanted st (t.Int n) ≡ Some (q.Have st (leaf (e.Lit (v.Int (pos n)))) 11)
int_step st n few = rw (lt_test n (2 ^ 63) few) refl

minus_step : (st : List Open) (n : ℕ) → n ≤ 2 ^ 63 → minus_then st (t.Int n) ≡ Some (q.Have st (leaf (e.Lit (v.Int (neg_ℤ (pos n))))) 11)
minus_step st n few = rw (test_le n (2 ^ 63) few) refl

is_step : (most : ℕ) (st : List Open) (a : Part) → hole st ≤ 4 → step most (q.Have st a 4) (t.Key k.Is) ≡ Some (q.Is st a)
is_step most st a h = rw (stays most 4 st a 4 h) refl

cast_step : (most : ℕ) (st : List Open) (a : Part) → hole st ≤ 10 → step most (q.Have st a 10) (t.Sign s.Cast) ≡ Some (q.Typed st a)
cast_step most st a h = rw (stays most 10 st a 10 h) refl

-- ---- steps that close parts

comma_step : (most : ℕ) (f : Func) (args : List Part) (st : List Open) (a : Part) → takes_more f (length args + 1) ≡ true →
    step most (q.Have (p.Call f args ∷ st) a 0) (t.Sign s.Comma) ≡ Some (q.Want (p.Call f (args ++ a ∷ []) ∷ st))
comma_step most f args st a h = rw h refl

close_step : (most : ℕ) (f : Func) (args : List Part) (st : List Open) (a : Part) → takes_these f (length args + 1) ≡ true →
    step most (q.Have (p.Call f args ∷ st) a 0) (t.Sign s.Close) ≡ Some (q.Have st (call_of most f (args ++ a ∷ [])) 11)
close_step most f args st a h = rw h refl

longer : (args : List Expr) (a : Expr) → length (args ++ a ∷ []) ≡ length args + 1
longer args a = length-append args (a ∷ [])

mapped : (most : ℕ) (args : List Expr) (a : Expr) → map (cap most) args ++ cap most a ∷ [] ≡ map (cap most) (args ++ a ∷ [])
mapped most args a = sym (map-append (cap most) args (a ∷ []))

mapped_arms : (most : ℕ) (arms : List Arm) (a : Arm) → map (cap_arm most) arms ++ cap_arm most a ∷ [] ≡ map (cap_arm most) (arms ++ a ∷ [])
mapped_arms most arms a = sym (map-append (cap_arm most) arms (a ∷ []))

counted : (most : ℕ) (args : List Expr) → length (map (cap most) args) ≡ length args
counted most args = length-map args (cap most)

-- commas may stand behind so many arguments
abbrev Commas : Func → ℕ → Type 0
Commas f n = (m : ℕ) → 1 ≤ m → m < n → takes_more f m ≡ true

-- Once the tokens of a form are gone through, and another comes, the form is there.
mutual
  pub complete : (most : ℕ) (room : 1 ≤ most) → {l : ℕ} {ts : List Token} {a : Expr} → Reads l ts a → (st : List Open) (x : Token) (rest : List Token) →
      l ≤ 11 → hole st ≤ l → Fits l x →
      run most (Some (q.Want st)) (ts ++ x ∷ rest) ≡ run most (step most (q.Have st (cap most a) l) x) rest
  complete most room {l} (int {n = n} few) st x rest small h j =
      ap (λ r. run most (then_step most r x) rest) (int_step st n few)
      ∙ rw (cap_lit most room (v.Int (pos n))) (ap (λ r. run most r rest) (same_step most st (leaf (e.Lit (v.Int (pos n)))) l 11 x small j))
  complete most room {l} (minus_int {n = n} few) st x rest small h j =
      ap (λ r. run most (then_step most r x) rest) (minus_step st n few)
      ∙ rw (cap_lit most room (v.Int (neg_ℤ (pos n)))) (ap (λ r. run most r rest) (same_step most st (leaf (e.Lit (v.Int (neg_ℤ (pos n))))) l 11 x small j))
  complete most room {l} (text {x = w}) st x rest small h j = rw (cap_lit most room (v.Text w)) (ap (λ r. run most r rest) (same_step most st (leaf (e.Lit (v.Text w))) l 11 x small j))
  complete most room {l} yes st x rest small h j = rw (cap_lit most room (v.Bool true)) (ap (λ r. run most r rest) (same_step most st (leaf (e.Lit (v.Bool true))) l 11 x small j))
  complete most room {l} no st x rest small h j = rw (cap_lit most room (v.Bool false)) (ap (λ r. run most r rest) (same_step most st (leaf (e.Lit (v.Bool false))) l 11 x small j))
  complete most room {l} null st x rest small h j = rw (cap_lit most room v.Null) (ap (λ r. run most r rest) (same_step most st (leaf (e.Lit v.Null)) l 11 x small j))
  complete most room {l} (column {name = name}) st x rest small h j =
      rw (cap_col most room name) (ap (λ r. run most r rest) (column_step most st name l x j ∙ same_step most st (leaf (e.Col name)) l 11 x small j))
  complete most room {l} (quoted {name = name}) st x rest small h j = rw (cap_col most room name) (ap (λ r. run most r rest) (same_step most st (leaf (e.Col name)) l 11 x small j))
  complete most room {l} (parens {xs = xs} {a = a} r) st x rest small h j =
      rw append_assoc (complete most room r (p.Paren ∷ st) (t.Sign s.Close) (x ∷ rest) (omega arith) (omega arith) tt
      ∙ ap (λ r. run most r rest) (same_step most st (cap most a) l 11 x small j))
  complete most room {l} (minus {xs = xs} {a = a} low r) st x rest small h j =
      complete most room r (p.Neg ∷ st) x rest (omega arith) (omega arith) (fits_more l 9 x low j)
      ∙ ap (λ r. run most r rest) (filled_step most p.Neg st (cap most a) 9 x tt (fits_more l 9 x low j) ∙ same_step most st (with_one most e.Neg (cap most a)) l 9 x low j ∙ ap (λ b. step most (q.Have st b l) x) (cap_neg most a))
  complete most room {l} (not {xs = xs} {a = a} low r) st x rest small h j =
      ap (λ r. run most r (xs ++ x ∷ rest)) (not_begins most st (omega arith))
      ∙ complete most room r (p.Not ∷ st) x rest (omega arith) (omega arith) (fits_more l 3 x low j)
      ∙ ap (λ r. run most r rest) (filled_step most p.Not st (cap most a) 3 x tt (fits_more l 3 x low j) ∙ same_step most st (with_one most e.Not (cap most a)) l 3 x low j ∙ ap (λ b. step most (q.Have st b l) x) (cap_not most a))
  complete most room {l} (is_null {xs = xs} {a = a} low r) st x rest small h j =
      rw append_assoc (complete most room r st (t.Key k.Is) (t.Key k.Null ∷ x ∷ rest) (omega arith) (omega arith) (omega arith)
      ∙ ap (λ r. run most r (t.Key k.Null ∷ x ∷ rest)) (is_step most st (cap most a) (omega arith))
      ∙ ap (λ r. run most r rest) (same_step most st (with_one most e.IsNull (cap most a)) l 4 x low j ∙ ap (λ b. step most (q.Have st b l) x) (cap_is_null most a)))
  complete most room {l} (is_not_null {xs = xs} {a = a} low r) st x rest small h j =
      rw append_assoc (complete most room r st (t.Key k.Is) (t.Key k.Not ∷ t.Key k.Null ∷ x ∷ rest) (omega arith) (omega arith) (omega arith)
      ∙ ap (λ r. run most r (t.Key k.Not ∷ t.Key k.Null ∷ x ∷ rest)) (is_step most st (cap most a) (omega arith))
      ∙ ap (λ r. run most r rest) (same_step most st (with_one most e.Not (with_one most e.IsNull (cap most a))) l 4 x low j
      ∙ ap (λ b. step most (q.Have st b l) x) (ap (with_one most e.Not) (cap_is_null most a) ∙ cap_not most (e.IsNull a))))
  complete most room {l} (typed {xs = xs} {a = a} name {to = to} is low r) st x rest small h j =
      rw append_assoc (complete most room r st (t.Sign s.Cast) (t.Name name ∷ x ∷ rest) (omega arith) (omega arith) (omega arith)
      ∙ ap (λ r. run most r (t.Name name ∷ x ∷ rest)) (cast_step most st (cap most a) (omega arith))
      ∙ ap (λ o. run most (then_step most (cast_to most st (cap most a) 10 o) x) rest) is
      ∙ ap (λ r. run most r rest) (same_step most st (with_one most (λ b. e.Cast b to) (cap most a)) l 10 x low j ∙ ap (λ b. step most (q.Have st b l) x) (cap_cast most a to)))
  complete most room {l} (cast {xs = xs} {a = a} name {to = to} is r) st x rest small h j =
      rw append_assoc (complete most room r (p.CastOf ∷ st) (t.Key k.As) (t.Name name ∷ t.Sign s.Close ∷ x ∷ rest) (omega arith) (omega arith) tt
      ∙ ap (λ o. run most (then_step most (then_step most (with_name st (cap most a) o) (t.Sign s.Close)) x) rest) is
      ∙ ap (λ r. run most r rest) (same_step most st (with_one most (λ b. e.Cast b to) (cap most a)) l 11 x small j ∙ ap (λ b. step most (q.Have st b l) x) (cap_cast most a to)))
  complete most room {l} (case {xs = xs} {ys = ys} {arms = arms} {other = other} r i) st x rest small h j =
      simp append_assoc (arms_else most room r st (ys ++ t.Key k.End ∷ x ∷ rest)
      ∙ complete most room i (p.Else (map (cap_arm most) arms) ∷ st) (t.Key k.End) (x ∷ rest) (omega arith) (omega arith) tt
      ∙ ap (λ r. run most r rest) (same_step most st (case_of most (map (cap_arm most) arms) (cap most other)) l 11 x small j ∙ ap (λ b. step most (q.Have st b l) x) (cap_case most arms other)))
  complete most room {l} (case_alone {xs = xs} {arms = arms} r) st x rest small h j =
      rw append_assoc (arms_end most room r st (x ∷ rest)
      ∙ ap (λ r. run most r rest) (same_step most st (case_of most (map (cap_arm most) arms) (leaf (e.Lit v.Null))) l 11 x small j
      ∙ ap (λ b. step most (q.Have st b l) x) (ap (case_of most (map (cap_arm most) arms)) (sym (cap_lit most room v.Null)) ∙ cap_case most arms (e.Lit v.Null))))
  complete most room {l} (call {xs = xs} {args = args} name {f = f} is these_many r) st x rest small h j =
      rw append_assoc (ap (λ o. run most (then_step most (named st name o) (t.Sign s.Open)) (xs ++ t.Sign s.Close ∷ x ∷ rest)) is
      ∙ all_close most room r f st (x ∷ rest) (λ m some few. more_than f (length args) m these_many some few) (these f (length args) these_many)
      ∙ ap (λ r. run most r rest) (same_step most st (call_of most f (map (cap most) args)) l 11 x small j ∙ ap (λ b. step most (q.Have st b l) x) (cap_call most f args)))
  complete most room {l} (binary y {o = o} {xs = xs} {ys = ys} {a = a} {b = b} is low r i) st x rest small h j =
      rw append_assoc (complete most room r st y (ys ++ x ∷ rest) (left_right_small o).0 (omega (arith, level_left o)) (fits_self y o is)
      ∙ ap (λ r. run most r (ys ++ x ∷ rest)) (shifted most y o is st (cap most a) (omega arith))
      ∙ complete most room i (p.Left o (cap most a) ∷ st) x rest (left_right_small o).1 (omega arith) (fits_more l (right o) x (omega (arith, level_right o)) j)
      ∙ ap (λ r. run most r rest) (filled_step most (p.Left o (cap most a)) st (cap most b) (right o) x tt (fits_more l (level o) x low j) ∙ same_step most st (with_two most (e.Bin o) (cap most a) (cap most b)) l (level o) x low j ∙ ap (λ b. step most (q.Have st b l) x) (cap_bin most o a b)))

  -- the arguments of a function, and a comma
  all_then : (most : ℕ) (room : 1 ≤ most) → {ts : List Token} {args : List Expr} → ReadsAll ts args → (f : Func) (st : List Open) (rest : List Token) → Commas f (length args + 1) →
      run most (Some (q.Want (p.Call f [] ∷ st))) (ts ++ t.Sign s.Comma ∷ rest) ≡ run most (Some (q.Want (p.Call f (map (cap most) args) ∷ st))) rest
  all_then most room (first_one {a = a} r) f st rest commas =
      complete most room r (p.Call f [] ∷ st) (t.Sign s.Comma) rest (omega arith) (omega arith) tt
      ∙ ap (λ r. run most r rest) (comma_step most f [] st (cap most a) (commas 1 (omega arith) (omega arith)))
  all_then most room (next_one {ys = ys} {args = args} {a = a} r i) f st rest commas =
      rw append_assoc (all_then most room r f st (ys ++ t.Sign s.Comma ∷ rest) (λ m some few. commas m some (omega (arith, longer args a)))
      ∙ complete most room i (p.Call f (map (cap most) args) ∷ st) (t.Sign s.Comma) rest (omega arith) (omega arith) tt
      ∙ ap (λ r. run most r rest) (comma_step most f (map (cap most) args) st (cap most a) (commas (length (map (cap most) args) + 1) (omega arith) (omega (arith, longer args a, counted most args))))
      ∙ ap (λ ps. run most (Some (q.Want (p.Call f ps ∷ st))) rest) (mapped most args a))

  -- and the closing parenthesis
  all_close : (most : ℕ) (room : 1 ≤ most) → {ts : List Token} {args : List Expr} → ReadsAll ts args → (f : Func) (st : List Open) (rest : List Token) → Commas f (length args) → takes_these f (length args) ≡ true →
      run most (Some (q.Want (p.Call f [] ∷ st))) (ts ++ t.Sign s.Close ∷ rest) ≡ run most (Some (q.Have st (call_of most f (map (cap most) args)) 11)) rest
  all_close most room (first_one {a = a} r) f st rest commas many =
      complete most room r (p.Call f [] ∷ st) (t.Sign s.Close) rest (omega arith) (omega arith) tt
      ∙ ap (λ r. run most r rest) (close_step most f [] st (cap most a) many)
  all_close most room (next_one {ys = ys} {args = args} {a = a} r i) f st rest commas many =
      let count : length (args ++ a ∷ []) ≡ length (map (cap most) args) + 1 = longer args a ∙ ap (λ n. n + 1) (sym (counted most args)) in
      rw append_assoc (all_then most room r f st (ys ++ t.Sign s.Close ∷ rest) (λ m some few. commas m some (omega (arith, longer args a)))
      ∙ complete most room i (p.Call f (map (cap most) args) ∷ st) (t.Sign s.Close) rest (omega arith) (omega arith) tt
      ∙ ap (λ r. run most r rest) (close_step most f (map (cap most) args) st (cap most a) (ap (takes_these f) (sym count) ∙ many))
      ∙ ap (λ ps. run most (Some (q.Have st (call_of most f ps) 11)) rest) (mapped most args a))

  -- the arms of a CASE, and the token behind them
  arms_when : (most : ℕ) (room : 1 ≤ most) → {ts : List Token} {arms : List Arm} → ReadsArms ts arms → (st : List Open) (rest : List Token) →
      run most (Some (q.Case st)) (ts ++ t.Key k.When ∷ rest) ≡ run most (Some (q.Want (p.When (map (cap_arm most) arms) ∷ st))) rest
  arms_when most room (first_arm {ys = ys} {a = a} r i) st rest = rw append_assoc (complete most room r (p.When [] ∷ st) (t.Key k.Then) (ys ++ (t.Key k.When) ∷ rest) (omega arith) (omega arith) tt ∙ complete most room i (p.Then [] (cap most a.when) ∷ st) (t.Key k.When) rest (omega arith) (omega arith) tt)
  arms_when most room (next_arm {ys = ys} {zs = zs} {arms = arms} {a = a} r i w) st rest =
      simp append_assoc (arms_when most room r st (ys ++ t.Key k.Then ∷ (zs ++ t.Key k.When ∷ rest)) ∙ (complete most room i (p.When (map (cap_arm most) arms) ∷ st) (t.Key k.Then) (zs ++ (t.Key k.When) ∷ rest) (omega arith) (omega arith) tt ∙ complete most room w (p.Then (map (cap_arm most) arms) (cap most a.when) ∷ st) (t.Key k.When) rest (omega arith) (omega arith) tt)
      ∙ ap (λ ps. run most (Some (q.Want (p.When ps ∷ st))) rest) (mapped_arms most arms a))

  arms_else : (most : ℕ) (room : 1 ≤ most) → {ts : List Token} {arms : List Arm} → ReadsArms ts arms → (st : List Open) (rest : List Token) →
      run most (Some (q.Case st)) (ts ++ t.Key k.Else ∷ rest) ≡ run most (Some (q.Want (p.Else (map (cap_arm most) arms) ∷ st))) rest
  arms_else most room (first_arm {ys = ys} {a = a} r i) st rest = rw append_assoc (complete most room r (p.When [] ∷ st) (t.Key k.Then) (ys ++ (t.Key k.Else) ∷ rest) (omega arith) (omega arith) tt ∙ complete most room i (p.Then [] (cap most a.when) ∷ st) (t.Key k.Else) rest (omega arith) (omega arith) tt)
  arms_else most room (next_arm {ys = ys} {zs = zs} {arms = arms} {a = a} r i w) st rest =
      simp append_assoc (arms_when most room r st (ys ++ t.Key k.Then ∷ (zs ++ t.Key k.Else ∷ rest)) ∙ (complete most room i (p.When (map (cap_arm most) arms) ∷ st) (t.Key k.Then) (zs ++ (t.Key k.Else) ∷ rest) (omega arith) (omega arith) tt ∙ complete most room w (p.Then (map (cap_arm most) arms) (cap most a.when) ∷ st) (t.Key k.Else) rest (omega arith) (omega arith) tt)
      ∙ ap (λ ps. run most (Some (q.Want (p.Else ps ∷ st))) rest) (mapped_arms most arms a))

  arms_end : (most : ℕ) (room : 1 ≤ most) → {ts : List Token} {arms : List Arm} → ReadsArms ts arms → (st : List Open) (rest : List Token) →
      run most (Some (q.Case st)) (ts ++ t.Key k.End ∷ rest) ≡ run most (Some (q.Have st (case_of most (map (cap_arm most) arms) (leaf (e.Lit v.Null))) 11)) rest
  arms_end most room (first_arm {ys = ys} {a = a} r i) st rest = rw append_assoc (complete most room r (p.When [] ∷ st) (t.Key k.Then) (ys ++ (t.Key k.End) ∷ rest) (omega arith) (omega arith) tt ∙ complete most room i (p.Then [] (cap most a.when) ∷ st) (t.Key k.End) rest (omega arith) (omega arith) tt)
  arms_end most room (next_arm {ys = ys} {zs = zs} {arms = arms} {a = a} r i w) st rest =
      simp append_assoc (arms_when most room r st (ys ++ t.Key k.Then ∷ (zs ++ t.Key k.End ∷ rest)) ∙ (complete most room i (p.When (map (cap_arm most) arms) ∷ st) (t.Key k.Then) (zs ++ (t.Key k.End) ∷ rest) (omega arith) (omega arith) tt ∙ complete most room w (p.Then (map (cap_arm most) arms) (cap most a.when) ∷ st) (t.Key k.End) rest (omega arith) (omega arith) tt)
      ∙ ap (λ ps. run most (Some (q.Have st (case_of most ps (leaf (e.Lit v.Null))) 11)) rest) (mapped_arms most arms a))

-- Each text is gone through, to its tree.
pub text_runs : (most : ℕ) (room : 1 ≤ most) (ts : List Token) (a : Expr) → IsText ts a → run most (Some (q.Want [])) ts ≡ Some (q.Done (cap most a))
text_runs most room ts a it = rw it.ends (complete most room it.reads [] t.End [] (omega arith) (omega arith) tt)

-- No text has two trees: the run with a limit that neither reaches ends in both.
pub one_tree : (ts : List Token) (a b : Expr) → IsText ts a → IsText ts b → a ≡ b
one_tree ts a b one other =
    let most = max (depth a) (depth b) + 1 in
    let first = text_runs most (omega arith) ts a one in let second = text_runs most (omega arith) ts b other in
    let whole : cap most a ≡ Whole a (depth a) = rw (le-leb (depth a) most (omega arith)) refl in
    let same : cap most b ≡ Whole b (depth b) = rw (le-leb (depth b) most (omega arith)) refl in cc
