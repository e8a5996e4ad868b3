-- The reader's way: a stack of open parts, and one step for each token. Trees deeper than the most are given up.
use Rattle.std.specs.Prelude.{ℕ, ◌+◌, ◌^◌, List, [], ◌∷◌, ◌++◌, Bool, true, false, ◌==◌, Option, Some, None, pos, neg_ℤ, nat_le, nat_lt, max, length, if◌then◌else◌}
use Rattle.std.specs.List.{list_all}
use Rattle.sql_base.specs.declared.values.Value.TheVariants as v
use Rattle.sql_base.specs.declared.values.Ty.{Ty}
use Rattle.sql_base.specs.declared.exprs.BinOp.{BinOp}
use Rattle.sql_base.specs.declared.exprs.Func.{Func}
use Rattle.sql_base.specs.declared.exprs.Func.TheVariants as func
use Rattle.sql_base.specs.declared.exprs.Expr.{Expr}
use Rattle.sql_base.specs.declared.exprs.Expr.TheVariants as e
use Rattle.sql_base.specs.declared.exprs.Arm.{Arm}
use Rattle.sql_text.specs.declared.keys.Key.TheVariants as k
use Rattle.sql_text.specs.declared.tokens.Sign.TheVariants as s
use Rattle.sql_text.specs.declared.tokens.Token.{Token}
use Rattle.sql_text.specs.declared.tokens.Token.TheVariants as t
use Rattle.sql_parse.specs.declared.machine.Part.{Part}
use Rattle.sql_parse.specs.declared.machine.Part.TheVariants.{Whole, Deep}
use Rattle.sql_parse.specs.declared.machine.Open.{Open}
use Rattle.sql_parse.specs.declared.machine.Open.TheVariants as p
use Rattle.sql_parse.specs.declared.machine.Operand.{Operand}
use Rattle.sql_parse.specs.declared.machine.State.{State}
use Rattle.sql_parse.specs.declared.machine.State.TheVariants as q
use Rattle.sql_parse.specs.Grammar.{infix_of, level, left, right, function_named, type_named}

-- ---- open parts

-- the loosest level of what may stand in a part's hole
abbrev pub hole_of : Open → ℕ
hole_of p.Not = 3
hole_of p.Neg = 9
hole_of (p.Left o a) = right o
hole_of _ = 0

abbrev pub hole : List Open → ℕ
hole [] = 0
hole (f ∷ st) = hole_of f

-- whether nothing but operators is open
abbrev pub is_inner : Open → Bool
is_inner f = nat_lt 0 (hole_of f)

abbrev pub is_flat : List Open → Bool
is_flat st = list_all is_inner st

-- the level of the filled part
abbrev pub level_of : Open → ℕ
level_of p.Not = 3
level_of p.Neg = 9
level_of (p.Left o a) = level o
level_of _ = 11

-- ---- trees under the limit

-- a literal or a name
abbrev pub leaf : Expr → Part
leaf a = Whole a 1

-- a form of one part, and of two: given up where a part was, or where it would be deeper than the most
abbrev pub with_one : ℕ → (Expr → Expr) → Part → Part
with_one most form (Whole a d) = if nat_lt d most then Whole (form a) (d + 1) else Deep
with_one most form Deep = Deep

abbrev pub with_two : ℕ → (Expr → Expr → Expr) → Part → Part → Part
with_two most form (Whole a d) (Whole b j) = if nat_lt (max d j) most then Whole (form a b) (max d j + 1) else Deep
with_two most form _ _ = Deep

-- a form of so many parts as are there, with the depth of the deepest
abbrev pub with_parts : {X : Type 0} → ℕ → (X → Expr) → Option (X × ℕ) → Part
with_parts most form None = Deep
with_parts most form (Some (parts, d)) = if nat_lt d most then Whole (form parts) (d + 1) else Deep

abbrev pub and_part : Part → Option (List Expr × ℕ) → Option (List Expr × ℕ)
and_part (Whole a d) (Some (args, j)) = Some (a ∷ args, max d j)
and_part _ _ = None

abbrev pub every_part : List Part → Option (List Expr × ℕ)
every_part [] = Some ([], 0)
every_part (a ∷ parts) = and_part a (every_part parts)

abbrev pub and_arm : Part → Part → Option (List Arm × ℕ) → Option (List Arm × ℕ)
and_arm (Whole a d) (Whole b j) (Some (arms, m)) = Some (record { when = a; gives = b } ∷ arms, max (max d j) m)
and_arm _ _ _ = None

abbrev pub every_arm : List (Part × Part) → Option (List Arm × ℕ)
every_arm [] = Some ([], 0)
every_arm ((a, b) ∷ arms) = and_arm a b (every_arm arms)

abbrev pub and_other : Option (List Arm × ℕ) → Part → Option ((List Arm × Expr) × ℕ)
and_other (Some (arms, d)) (Whole a j) = Some ((arms, a), max d j)
and_other _ _ = None

abbrev pub call_of : ℕ → Func → List Part → Part
call_of most f parts = with_parts most (e.Call f) (every_part parts)

abbrev pub case_of : ℕ → List (Part × Part) → Part → Part
case_of most arms other = with_parts most (λ x. e.Case x.0 x.1) (and_other (every_arm arms) other)

-- an open part, its hole filled
abbrev pub filled : ℕ → Open → Part → Part
filled most p.Not b = with_one most e.Not b
filled most p.Neg b = with_one most e.Neg b
filled most (p.Left o a) b = with_two most (e.Bin o) a b
filled most _ b = b

-- The parts whose hole is tighter than the limit are filled.
abbrev pub settled : ℕ → ℕ → List Open → Part → ℕ → Operand
settled most limit [] a l = record { stack = []; tree = a; level = l }
settled most limit (f ∷ st) a l =
    if nat_le (hole_of f) limit then record { stack = f ∷ st; tree = a; level = l } else settled most limit st (filled most f a) (level_of f)

-- ---- after an operand

abbrev pub with_operator : BinOp → Operand → Option State
with_operator o x = if nat_le (left o) x.level then Some (q.Want (p.Left o x.tree ∷ x.stack)) else None

abbrev pub with_is : Operand → Option State
with_is x = if nat_le 4 x.level then Some (q.Is x.stack x.tree) else None

abbrev pub with_type : Operand → Option State
with_type x = if nat_le 10 x.level then Some (q.Typed x.stack x.tree) else None

-- whether a function takes so many arguments, and whether it may take more
abbrev pub takes_these : Func → ℕ → Bool
takes_these func.Coalesce n = nat_le 1 n
takes_these func.Nullif n = n == 2
takes_these _ n = n == 1

abbrev pub takes_more : Func → ℕ → Bool
takes_more func.Coalesce n = true
takes_more func.Nullif n = n == 1
takes_more _ n = false

-- what is closed, or goes on, by a token that is no operator: the whole operand of the innermost open part is there
abbrev pub by_close : ℕ → List Open → Part → Option State
by_close most (p.Paren ∷ st) a = Some (q.Have st a 11)
by_close most (p.Call f args ∷ st) a = if takes_these f (length args + 1) then Some (q.Have st (call_of most f (args ++ a ∷ [])) 11) else None
by_close most _ a = None

abbrev pub by_comma : List Open → Part → Option State
by_comma (p.Call f args ∷ st) a = if takes_more f (length args + 1) then Some (q.Want (p.Call f (args ++ a ∷ []) ∷ st)) else None
by_comma _ a = None

abbrev pub by_as : List Open → Part → Option State
by_as (p.CastOf ∷ st) a = Some (q.CastAs st a)
by_as _ a = None

abbrev pub by_when : List Open → Part → Option State
by_when (p.Then arms w ∷ st) a = Some (q.Want (p.When (arms ++ (w, a) ∷ []) ∷ st))
by_when _ a = None

abbrev pub by_then : List Open → Part → Option State
by_then (p.When arms ∷ st) a = Some (q.Want (p.Then arms a ∷ st))
by_then _ a = None

abbrev pub by_else : List Open → Part → Option State
by_else (p.Then arms w ∷ st) a = Some (q.Want (p.Else (arms ++ (w, a) ∷ []) ∷ st))
by_else _ a = None

abbrev pub by_end : ℕ → List Open → Part → Option State
by_end most (p.Then arms w ∷ st) a = Some (q.Have st (case_of most (arms ++ (w, a) ∷ []) (leaf (e.Lit v.Null))) 11)
by_end most (p.Else arms ∷ st) a = Some (q.Have st (case_of most arms a) 11)
by_end most _ a = None

abbrev pub by_last : List Open → Part → Option State
by_last [] a = Some (q.Done a)
by_last _ a = None

-- a token that is no operator, after an operand
abbrev pub after : ℕ → List Open → Part → ℕ → Token → Option State
after most st a l (t.Key k.Is) = with_is (settled most 4 st a l)
after most st a l (t.Sign s.Cast) = with_type (settled most 10 st a l)
after most st a l (t.Sign s.Close) = let x = settled most 0 st a l in by_close most x.stack x.tree
after most st a l (t.Sign s.Comma) = let x = settled most 0 st a l in by_comma x.stack x.tree
after most st a l (t.Key k.As) = let x = settled most 0 st a l in by_as x.stack x.tree
after most st a l (t.Key k.When) = let x = settled most 0 st a l in by_when x.stack x.tree
after most st a l (t.Key k.Then) = let x = settled most 0 st a l in by_then x.stack x.tree
after most st a l (t.Key k.Else) = let x = settled most 0 st a l in by_else x.stack x.tree
after most st a l (t.Key k.End) = let x = settled most 0 st a l in by_end most x.stack x.tree
after most st a l t.End = let x = settled most 0 st a l in by_last x.stack x.tree
after most st a l _ = None

abbrev pub had : ℕ → List Open → Part → ℕ → Token → Option BinOp → Option State
had most st a l x None = after most st a l x
had most st a l x (Some o) = with_operator o (settled most (level o) st a l)

-- ---- where an operand must come

abbrev pub named : List Open → List ℕ → Option Func → Option State
named st name None = Some (q.Have st (leaf (e.Col name)) 11)
named st name (Some f) = Some (q.Named st f name)

abbrev pub wanted : List Open → Token → Option State
wanted st (t.Int n) = if nat_lt n (2 ^ 63) then Some (q.Have st (leaf (e.Lit (v.Int (pos n)))) 11) else None
wanted st (t.Text x) = Some (q.Have st (leaf (e.Lit (v.Text x))) 11)
wanted st (t.Name name) = named st name (function_named name)
wanted st (t.Quoted name) = Some (q.Have st (leaf (e.Col name)) 11)
wanted st (t.Key k.True) = Some (q.Have st (leaf (e.Lit (v.Bool true))) 11)
wanted st (t.Key k.False) = Some (q.Have st (leaf (e.Lit (v.Bool false))) 11)
wanted st (t.Key k.Null) = Some (q.Have st (leaf (e.Lit v.Null)) 11)
wanted st (t.Key k.Not) = if nat_le (hole st) 3 then Some (q.Want (p.Not ∷ st)) else None
wanted st (t.Key k.Cast) = Some (q.Cast st)
wanted st (t.Key k.Case) = Some (q.Case st)
wanted st (t.Sign s.Open) = Some (q.Want (p.Paren ∷ st))
wanted st (t.Minus true) = Some (q.Minus st)
wanted st (t.Minus false) = Some (q.Want (p.Neg ∷ st))
wanted st _ = None

abbrev pub minus_then : List Open → Token → Option State
minus_then st (t.Int n) = if nat_le n (2 ^ 63) then Some (q.Have st (leaf (e.Lit (v.Int (neg_ℤ (pos n))))) 11) else None
minus_then st _ = None

-- ---- after a key word

abbrev pub is_then : ℕ → List Open → Part → Token → Option State
is_then most st a (t.Key k.Null) = Some (q.Have st (with_one most e.IsNull a) 4)
is_then most st a (t.Key k.Not) = Some (q.IsNot st a)
is_then most st a _ = None

abbrev pub is_not_then : ℕ → List Open → Part → Token → Option State
is_not_then most st a (t.Key k.Null) = Some (q.Have st (with_one most e.Not (with_one most e.IsNull a)) 4)
is_not_then most st a _ = None

abbrev pub cast_to : ℕ → List Open → Part → ℕ → Option Ty → Option State
cast_to most st a l None = None
cast_to most st a l (Some to) = Some (q.Have st (with_one most (λ b. e.Cast b to) a) l)

abbrev pub typed_then : ℕ → List Open → Part → Token → Option State
typed_then most st a (t.Name name) = cast_to most st a 10 (type_named name)
typed_then most st a _ = None

abbrev pub cast_then : List Open → Token → Option State
cast_then st (t.Sign s.Open) = Some (q.Want (p.CastOf ∷ st))
cast_then st _ = None

abbrev pub with_name : List Open → Part → Option Ty → Option State
with_name st a None = None
with_name st a (Some to) = Some (q.CastTo st a to)

abbrev pub cast_as_then : List Open → Part → Token → Option State
cast_as_then st a (t.Name name) = with_name st a (type_named name)
cast_as_then st a _ = None

abbrev pub cast_to_then : ℕ → List Open → Part → Ty → Token → Option State
cast_to_then most st a to (t.Sign s.Close) = Some (q.Have st (with_one most (λ b. e.Cast b to) a) 11)
cast_to_then most st a to _ = None

abbrev pub case_then : List Open → Token → Option State
case_then st (t.Key k.When) = Some (q.Want (p.When [] ∷ st))
case_then st _ = None

-- a name of a function: with `(` a call, and else a column
abbrev pub named_then : ℕ → List Open → Func → List ℕ → Token → Option State
named_then most st f name (t.Sign s.Open) = Some (q.Want (p.Call f [] ∷ st))
named_then most st f name x = had most st (leaf (e.Col name)) 11 x (infix_of x)

abbrev pub step : ℕ → State → Token → Option State
step most (q.Want st) x = wanted st x
step most (q.Minus st) x = minus_then st x
step most (q.Have st a l) x = had most st a l x (infix_of x)
step most (q.Named st f name) x = named_then most st f name x
step most (q.Is st a) x = is_then most st a x
step most (q.IsNot st a) x = is_not_then most st a x
step most (q.Typed st a) x = typed_then most st a x
step most (q.Cast st) x = cast_then st x
step most (q.CastAs st a) x = cast_as_then st a x
step most (q.CastTo st a to) x = cast_to_then most st a to x
step most (q.Case st) x = case_then st x
step most (q.Done a) x = None

abbrev pub then_step : ℕ → Option State → Token → Option State
then_step most None x = None
then_step most (Some r) x = step most r x

-- the state after these tokens, if they can be gone through
abbrev pub run : ℕ → Option State → List Token → Option State
run most r [] = r
run most r (x ∷ xs) = run most (then_step most r x) xs
