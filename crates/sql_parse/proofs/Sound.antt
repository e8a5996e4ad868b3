-- What was gone through is a front of a text, and at its end a text of the tree that was built.
use Rattle.std.proofs.Common.{◌≡◌, ℕ, suc, ◌+◌, ◌<◌, ◌≤◌, ◌^◌, List, [], ◌∷◌, ◌++◌, Bool, true, false, Option, Some, None, pos, neg_ℤ, map, length, if◌then◌else◌, refl, sym, ◌∙◌, ap, subst, arith, append_assoc, append-nil, codes, length-append, ◌⊎◌, inl, inr, nat_le, nat_lt}
use Rattle.std.proofs.lemmas.Bool.{leb-true, leb-false, eqb-true}
use Rattle.std.proofs.lemmas.List.{map-append, length-map}
use Rattle.sql_base.specs.declared.values.Value.{Value}
use Rattle.sql_base.specs.declared.values.Value.TheVariants as v
use Rattle.sql_base.specs.declared.values.Ty.{Ty}
use Rattle.sql_base.specs.declared.values.Ty.TheVariants as ty
use Rattle.sql_base.specs.declared.exprs.BinOp.{BinOp}
use Rattle.sql_base.specs.declared.exprs.BinOp.TheVariants as op
use Rattle.sql_base.specs.declared.exprs.Func.{Func}
use Rattle.sql_base.specs.declared.exprs.Func.TheVariants as func
use Rattle.sql_base.specs.declared.exprs.Expr.{Expr}
use Rattle.sql_base.specs.declared.exprs.Expr.TheVariants as e
use Rattle.sql_base.specs.declared.exprs.Arm.{Arm}
use Rattle.sql_text.specs.declared.keys.Key.TheVariants as k
use Rattle.sql_text.specs.declared.tokens.Sign.TheVariants as s
use Rattle.sql_text.specs.declared.tokens.Token.{Token}
use Rattle.sql_text.specs.declared.tokens.Token.TheVariants as t
use Rattle.sql_text.specs.Laws.{takes}
use Rattle.sql_parse.specs.declared.machine.Part.{Part}
use Rattle.sql_parse.specs.declared.machine.Open.{Open}
use Rattle.sql_parse.specs.declared.machine.Open.TheVariants as p
use Rattle.sql_parse.specs.declared.machine.Operand.{Operand}
use Rattle.sql_parse.specs.declared.machine.State.{State}
use Rattle.sql_parse.specs.declared.machine.State.TheVariants as q
use Rattle.sql_parse.specs.Grammar.{infix_of, level, left, function_named, type_named, Reads, ReadsAll, ReadsArms, IsText, int, minus_int, text, yes, no, null, column, quoted, parens, minus, not, is_null, is_not_null, typed, cast, case, case_alone, call, binary, first_arm, next_arm, first_one, next_one}
use Rattle.sql_parse.specs.Machine.{hole, hole_of, leaf, with_one, with_two, call_of, case_of, filled, level_of, settled, with_operator, with_is, with_type, takes_these, takes_more, by_close, by_comma, by_as, by_when, by_then, by_else, by_end, by_last, named, wanted, minus_then, cast_to, with_name, step, run}
use Rattle.sql_parse.specs.Viable.{Viable}
use Rattle.sql_parse.proofs.Capped.{cap, cap_arm, cap_lit, cap_col, cap_neg, cap_not, cap_is_null, cap_cast, cap_bin, cap_call, cap_case}
use Rattle.sql_parse.proofs.Complete.{run-none}

lower : {l m : ℕ} {ts : List Token} {a : Expr} → m ≤ l → Reads l ts a → Reads m ts a
lower h (int few) = int few
lower h (minus_int few) = minus_int few
lower h text = text
lower h yes = yes
lower h no = no
lower h null = null
lower h column = column
lower h quoted = quoted
lower h (parens r) = parens r
lower h (minus low r) = minus (omega arith) r
lower h (not low r) = not (omega arith) r
lower h (is_null low r) = is_null (omega arith) r
lower h (is_not_null low r) = is_not_null (omega arith) r
lower h (typed name is low r) = typed name is (omega arith) r
lower h (cast name is r) = cast name is r
lower h (case r i) = case r i
lower h (case_alone r) = case_alone r
lower h (call name is many r) = call name is many r
lower h (binary x is low r i) = binary x is (omega arith) r i

-- the tokens that led to the open parts
pub data Opens : List Open → List Token → Type 0 where
  none : Opens [] []
  paren : {st : List Open} {ts : List Token} → Opens st ts → Opens (p.Paren ∷ st) (ts ++ t.Sign s.Open ∷ [])
  not_of : {st : List Open} {ts : List Token} → hole st ≤ 3 → Opens st ts → Opens (p.Not ∷ st) (ts ++ t.Key k.Not ∷ [])
  minus_of : {st : List Open} {ts : List Token} → hole st ≤ 9 → Opens st ts → Opens (p.Neg ∷ st) (ts ++ t.Minus false ∷ [])
  left_of : {st : List Open} {ts xs : List Token} {o : BinOp} {a : Expr} (x : Token) → infix_of x ≡ Some o → hole st ≤ level o →
      Opens st ts → Reads (left o) xs a → Opens (p.Left o (cap 64 a) ∷ st) (ts ++ (xs ++ x ∷ []))
  cast_of : {st : List Open} {ts : List Token} → Opens st ts → Opens (p.CastOf ∷ st) (ts ++ t.Key k.Cast ∷ t.Sign s.Open ∷ [])
  call_first : {st : List Open} {ts : List Token} {f : Func} (name : List ℕ) → function_named name ≡ Some f → Opens st ts → Opens (p.Call f [] ∷ st) (ts ++ t.Name name ∷ t.Sign s.Open ∷ [])
  call_next : {st : List Open} {ts xs : List Token} {f : Func} {args : List Expr} (name : List ℕ) → function_named name ≡ Some f → takes_more f (length args) ≡ true → Opens st ts → ReadsAll xs args →
      Opens (p.Call f (map (cap 64) args) ∷ st) (ts ++ t.Name name ∷ t.Sign s.Open ∷ (xs ++ t.Sign s.Comma ∷ []))
  when_first : {st : List Open} {ts : List Token} → Opens st ts → Opens (p.When [] ∷ st) (ts ++ t.Key k.Case ∷ t.Key k.When ∷ [])
  when_next : {st : List Open} {ts xs : List Token} {arms : List Arm} → Opens st ts → ReadsArms xs arms → Opens (p.When (map (cap_arm 64) arms) ∷ st) (ts ++ t.Key k.Case ∷ (xs ++ t.Key k.When ∷ []))
  then_first : {st : List Open} {ts ys : List Token} {w : Expr} → Opens st ts → Reads 0 ys w → Opens (p.Then [] (cap 64 w) ∷ st) (ts ++ t.Key k.Case ∷ t.Key k.When ∷ (ys ++ t.Key k.Then ∷ []))
  then_next : {st : List Open} {ts xs ys : List Token} {arms : List Arm} {w : Expr} → Opens st ts → ReadsArms xs arms → Reads 0 ys w →
      Opens (p.Then (map (cap_arm 64) arms) (cap 64 w) ∷ st) (ts ++ t.Key k.Case ∷ (xs ++ t.Key k.When ∷ (ys ++ t.Key k.Then ∷ [])))
  else_of : {st : List Open} {ts xs : List Token} {arms : List Arm} → Opens st ts → ReadsArms xs arms → Opens (p.Else (map (cap_arm 64) arms) ∷ st) (ts ++ t.Key k.Case ∷ (xs ++ t.Key k.Else ∷ []))

-- an operand behind the tokens of its open parts
pub record Holds (x : Operand) (ts : List Token) : Type 0 where
  pub before : List Token
  pub behind : List Token
  pub whole : ts ≡ before ++ behind
  pub opens : Opens x.stack before
  pub tree : Expr
  pub is : x.tree ≡ cap 64 tree
  pub reads : Reads x.level behind tree
  pub fits : hole x.stack ≤ x.level

hole_small : (st : List Open) → hole st ≤ 9
hole_small [] = omega arith
hole_small (p.Not ∷ st) = omega arith
hole_small (p.Neg ∷ st) = omega arith
hole_small (p.Left op.Or a ∷ st) = omega arith
hole_small (p.Left op.And a ∷ st) = omega arith
hole_small (p.Left op.Eq a ∷ st) = omega arith
hole_small (p.Left op.Ne a ∷ st) = omega arith
hole_small (p.Left op.Lt a ∷ st) = omega arith
hole_small (p.Left op.Le a ∷ st) = omega arith
hole_small (p.Left op.Gt a ∷ st) = omega arith
hole_small (p.Left op.Ge a ∷ st) = omega arith
hole_small (p.Left op.Concat a ∷ st) = omega arith
hole_small (p.Left op.Add a ∷ st) = omega arith
hole_small (p.Left op.Sub a ∷ st) = omega arith
hole_small (p.Left op.Mul a ∷ st) = omega arith
hole_small (p.Left op.Div a ∷ st) = omega arith
hole_small (p.Left op.Rem a ∷ st) = omega arith
hole_small (_ ∷ st) = omega arith

-- Each front of a text that was gone through can be completed: each part is closed.
viable_front : (ts us : List Token) → Viable (ts ++ us) → Viable ts
viable_front ts us w = record { more = us ++ w.more; tree = w.tree; text = rw append_assoc at w.text }

-- a front with tokens behind it that close a part
closing : (ts us : List Token) → Viable (ts ++ us) → Viable ts
closing ts us w = viable_front ts us w

regrouped : {ts us : List Token} → ts ≡ us → Viable ts → Viable us
regrouped e w = subst Viable e w

text_type : type_named (codes "text") ≡ Some ty.Text
unfolding type_named
text_type = refl

zero_reads : {l : ℕ} → Reads l (t.Int 0 ∷ []) (e.Lit (v.Int (pos 0)))
zero_reads = int (omega arith)

-- so many arguments of a function may stand before its parenthesis closes, or before one more argument
abbrev Started : Func → ℕ → Type 0
Started func.Coalesce n = 1 ≤ n
Started func.Nullif n = (n ≡ 1) ⊎ (n ≡ 2)
Started f n = n ≡ 1

-- the arguments that are missing
record Completed (f : Func) (xs : List Token) : Type 0 where
  tokens : List Token
  args : List Expr
  reads : ReadsAll (xs ++ tokens) args
  many : takes f (length args)

as_it_is : (f : Func) {xs : List Token} {args : List Expr} → ReadsAll xs args → takes f (length args) → Completed f xs
as_it_is f {xs} {args} r many = record { tokens = []; args = args; reads = rw append-nil r; many = many }

completed : (f : Func) {xs : List Token} {args : List Expr} → ReadsAll xs args → Started f (length args) → Completed f xs
completed func.Coalesce r h = as_it_is func.Coalesce r h
completed func.Nullif {args = args} r (inl h) =
    record { tokens = t.Sign s.Comma ∷ t.Int 0 ∷ []; args = args ++ e.Lit (v.Int (pos 0)) ∷ []; reads = next_one r zero_reads; many = length-append args (e.Lit (v.Int (pos 0)) ∷ []) ∙ ap (λ n. n + 1) h }
completed func.Nullif r (inr h) = as_it_is func.Nullif r h
completed func.Upper r h = as_it_is func.Upper r h
completed func.Lower r h = as_it_is func.Lower r h
completed func.Trim r h = as_it_is func.Trim r h
completed func.Length r h = as_it_is func.Length r h

started_one : (f : Func) → Started f 1
started_one func.Coalesce = omega arith
started_one func.Nullif = inl refl
started_one func.Upper = refl
started_one func.Lower = refl
started_one func.Trim = refl
started_one func.Length = refl

started_next : (f : Func) (n : ℕ) → takes_more f n ≡ true → Started f (n + 1)
started_next func.Coalesce n h = omega arith
started_next func.Nullif n h = inr (ap (λ m. m + 1) (eqb-true n 1 h))
started_next func.Upper n h = absurd cc
started_next func.Lower n h = absurd cc
started_next func.Trim n h = absurd cc
started_next func.Length n h = absurd cc

plug : {st : List Open} {xs : List Token} → Opens st xs → {l : ℕ} {ys : List Token} {a : Expr} → Reads l ys a → hole st ≤ l → Viable (xs ++ ys)
plug none {l = l} {ys = ys} {a = a} r h = record { more = t.End ∷ []; tree = a; text = record { tokens = ys; ends = refl; reads = lower (omega arith) r } }
plug (paren {st = st} {ts = ts} o) {ys = ys} {a = a} r h =
    closing _ (t.Sign s.Close ∷ []) (regrouped (simp append_assoc) (plug o (parens {l = 11} (lower (omega arith) r)) (omega (arith, hole_small st))))
plug (not_of {ts = ts} low o) {ys = ys} r h = rw append_assoc (plug o (not (omega arith) (lower h r)) low)
plug (minus_of {ts = ts} low o) {ys = ys} r h = rw append_assoc (plug o (minus (omega arith) (lower h r)) low)
plug (left_of {ts = ts} {xs = xs} x is low o i) {ys = ys} r h = simp append_assoc (plug o (binary x is (omega arith) i (lower h r)) low)
plug (cast_of {st = st} o) {ys = ys} r h =
    closing _ (t.Key k.As ∷ t.Name (codes "text") ∷ t.Sign s.Close ∷ [])
    (regrouped (simp append_assoc) (plug o (cast {l = 11} (codes "text") text_type (lower (omega arith) r)) (omega (arith, hole_small st))))
plug (call_first {st = st} {f = f} name is o) {ys = ys} r h =
    let c = completed f (first_one (lower (omega arith) r)) (started_one f) in
    closing _ (c.tokens ++ t.Sign s.Close ∷ []) (regrouped (simp append_assoc) (plug o (call {l = 11} name is c.many c.reads) (omega (arith, hole_small st))))
plug (call_next {st = st} {f = f} {args = args} name is more o i) {ys = ys} {a = a} r h =
    let c = completed f (next_one i (lower (omega arith) r)) (subst (Started f) (sym (length-append args (a ∷ []))) (started_next f (length args) more)) in
    closing _ (c.tokens ++ t.Sign s.Close ∷ []) (regrouped (simp append_assoc) (plug o (call {l = 11} name is c.many c.reads) (omega (arith, hole_small st))))
plug (when_first {st = st} o) {a = a} r h =
    closing _ (t.Key k.Then ∷ t.Int 0 ∷ t.Key k.End ∷ [])
    (regrouped (simp append_assoc) (plug o (case_alone {l = 11} (first_arm {a = record { when = a; gives = e.Lit (v.Int (pos 0)) }} (lower (omega arith) r) zero_reads)) (omega (arith, hole_small st))))
plug (when_next {st = st} o i) {a = a} r h =
    closing _ (t.Key k.Then ∷ t.Int 0 ∷ t.Key k.End ∷ [])
    (regrouped (simp append_assoc) (plug o (case_alone {l = 11} (next_arm {a = record { when = a; gives = e.Lit (v.Int (pos 0)) }} i (lower (omega arith) r) zero_reads)) (omega (arith, hole_small st))))
plug (then_first {st = st} {w = w} o i) {a = a} r h =
    closing _ (t.Key k.End ∷ []) (regrouped (simp append_assoc) (plug o (case_alone {l = 11} (first_arm {a = record { when = w; gives = a }} i (lower (omega arith) r))) (omega (arith, hole_small st))))
plug (then_next {st = st} {w = w} o arms_read i) {a = a} r h =
    closing _ (t.Key k.End ∷ []) (regrouped (simp append_assoc) (plug o (case_alone {l = 11} (next_arm {a = record { when = w; gives = a }} arms_read i (lower (omega arith) r))) (omega (arith, hole_small st))))
plug (else_of {st = st} o i) r h =
    closing _ (t.Key k.End ∷ []) (regrouped (simp append_assoc) (plug o (case {l = 11} i (lower (omega arith) r)) (omega (arith, hole_small st))))

-- ---- what each state says of the tokens so far

-- the operand of a CAST behind the tokens of its open parts
pub record Casting (st : List Open) (a : Part) (ts behind : List Token) : Type 0 where
  pub before : List Token
  pub inner : List Token
  pub whole : ts ≡ before ++ t.Key k.Cast ∷ t.Sign s.Open ∷ (inner ++ behind)
  pub opens : Opens st before
  pub tree : Expr
  pub is : a ≡ cap 64 tree
  pub reads : Reads 0 inner tree

abbrev pub Leads : State → List Token → Type 0
Leads (q.Want st) ts = Opens st ts
Leads (q.Minus st) ts = (xs : List Token) × Opens st xs × (ts ≡ xs ++ t.Minus true ∷ [])
Leads (q.Have st a l) ts = Holds (record { stack = st; tree = a; level = l }) ts
Leads (q.Named st f name) ts = (xs : List Token) × Opens st xs × (ts ≡ xs ++ t.Name name ∷ []) × (function_named name ≡ Some f)
Leads (q.Is st a) ts = (xs : List Token) × Holds (record { stack = st; tree = a; level = 4 }) xs × (ts ≡ xs ++ t.Key k.Is ∷ [])
Leads (q.IsNot st a) ts = (xs : List Token) × Holds (record { stack = st; tree = a; level = 4 }) xs × (ts ≡ xs ++ t.Key k.Is ∷ t.Key k.Not ∷ [])
Leads (q.Typed st a) ts = (xs : List Token) × Holds (record { stack = st; tree = a; level = 10 }) xs × (ts ≡ xs ++ t.Sign s.Cast ∷ [])
Leads (q.Cast st) ts = (xs : List Token) × Opens st xs × (ts ≡ xs ++ t.Key k.Cast ∷ [])
Leads (q.CastAs st a) ts = Casting st a ts (t.Key k.As ∷ [])
Leads (q.CastTo st a to) ts = (name : List ℕ) × (type_named name ≡ Some to) × Casting st a ts (t.Key k.As ∷ t.Name name ∷ [])
Leads (q.Case st) ts = (xs : List Token) × Opens st xs × (ts ≡ xs ++ t.Key k.Case ∷ [])
Leads (q.Done a) ts = (b : Expr) × IsText ts b × (a ≡ cap 64 b)

abbrev pub LeadsIf : Option State → List Token → Type 0
LeadsIf None ts = Unit {0}
LeadsIf (Some r) ts = Leads r ts

-- an operand fills the innermost part
fill : {f : Open} {st : List Open} {a : Part} {b : Expr} {l : ℕ} {xs ys : List Token} → 0 < hole_of f → Opens (f ∷ st) xs → a ≡ cap 64 b → Reads l ys b → hole_of f ≤ l →
    Holds (record { stack = st; tree = filled 64 f a; level = level_of f }) (xs ++ ys)
fill {b = b} {ys = ys} some (not_of {ts = ts} low o) is r h =
    record { before = ts; behind = t.Key k.Not ∷ ys; whole = simp append_assoc; opens = o; tree = e.Not b; is = ap (with_one 64 e.Not) is ∙ cap_not 64 b; reads = not (omega arith) (lower h r); fits = low }
fill {b = b} {ys = ys} some (minus_of {ts = ts} low o) is r h =
    record { before = ts; behind = t.Minus false ∷ ys; whole = simp append_assoc; opens = o; tree = e.Neg b; is = ap (with_one 64 e.Neg) is ∙ cap_neg 64 b; reads = minus (omega arith) (lower h r); fits = low }
fill {b = b} {ys = ys} some (left_of {ts = ts} {xs = xs} {o = w} {a = c} x known low o i) is r h =
    record { before = ts; behind = xs ++ x ∷ ys; whole = simp append_assoc; opens = o; tree = e.Bin w c b; is = ap (with_two 64 (e.Bin w) (cap 64 c)) is ∙ cap_bin 64 w c b; reads = binary x known (omega arith) i (lower h r); fits = low }
fill some (paren o) is r h = absurd (omega arith)
fill some (cast_of o) is r h = absurd (omega arith)
fill some (call_first name known o) is r h = absurd (omega arith)
fill some (call_next name known more o i) is r h = absurd (omega arith)
fill some (when_first o) is r h = absurd (omega arith)
fill some (when_next o i) is r h = absurd (omega arith)
fill some (then_first o i) is r h = absurd (omega arith)
fill some (then_next o i w) is r h = absurd (omega arith)
fill some (else_of o i) is r h = absurd (omega arith)

settled_holds : (limit : ℕ) (st : List Open) (a : Part) (l : ℕ) (ts : List Token) → Holds (record { stack = st; tree = a; level = l }) ts →
    Holds (settled 64 limit st a l) ts
settled_holds limit [] a l ts h = h
settled_holds limit (f ∷ st) a l ts h = by_test (nat_le (hole_of f) limit) refl (settled_holds limit st (filled 64 f a) (level_of f) ts)
  where
    by_test : (b : Bool) → nat_le (hole_of f) limit ≡ b →
        (Holds (record { stack = st; tree = filled 64 f a; level = level_of f }) ts → Holds (settled 64 limit st (filled 64 f a) (level_of f)) ts) →
        Holds (if b then record { stack = f ∷ st; tree = a; level = l } else settled 64 limit st (filled 64 f a) (level_of f)) ts
    by_test true i deeper = h
    by_test false i deeper = let above : limit < hole_of f = leb-false (hole_of f) limit i in
        deeper (rw h.whole (fill (omega arith) h.opens h.is h.reads h.fits))

settled_hole : (limit : ℕ) (st : List Open) (a : Part) (l : ℕ) → hole (settled 64 limit st a l).stack ≤ limit
settled_hole limit [] a l = omega arith
settled_hole limit (f ∷ st) a l = by_test (nat_le (hole_of f) limit) refl (settled_hole limit st (filled 64 f a) (level_of f))
  where
    by_test : (b : Bool) → nat_le (hole_of f) limit ≡ b → hole (settled 64 limit st (filled 64 f a) (level_of f)).stack ≤ limit →
        hole (Operand.stack (if b then record { stack = f ∷ st; tree = a; level = l } else settled 64 limit st (filled 64 f a) (level_of f))) ≤ limit
    by_test true i deeper = leb-true (hole_of f) limit i
    by_test false i deeper = deeper

operator_leads : (x : Token) (o : BinOp) (y : Operand) (ts : List Token) → infix_of x ≡ Some o → Holds y ts → hole y.stack ≤ level o →
    LeadsIf (with_operator o y) (ts ++ x ∷ [])
operator_leads x o y ts is h low = by_test (nat_le (left o) y.level) refl
  where
    by_test : (b : Bool) → nat_le (left o) y.level ≡ b → LeadsIf (if b then Some (q.Want (p.Left o y.tree ∷ y.stack)) else None) (ts ++ x ∷ [])
    by_test false i = tt
    by_test true i = rw (h.whole, append_assoc, h.is) (left_of x is low h.opens (lower (leb-true (left o) y.level i) h.reads))

is_leads : (y : Operand) (ts : List Token) → Holds y ts → hole y.stack ≤ 4 → LeadsIf (with_is y) (ts ++ t.Key k.Is ∷ [])
is_leads y ts h low = by_test (nat_le 4 y.level) refl
  where
    by_test : (b : Bool) → nat_le 4 y.level ≡ b → LeadsIf (if b then Some (q.Is y.stack y.tree) else None) (ts ++ t.Key k.Is ∷ [])
    by_test false i = tt
    by_test true i = (ts, record { before = h.before; behind = h.behind; whole = h.whole; opens = h.opens; tree = h.tree; is = h.is; reads = lower (leb-true 4 y.level i) h.reads; fits = low }, refl)

type_leads : (y : Operand) (ts : List Token) → Holds y ts → hole y.stack ≤ 10 → LeadsIf (with_type y) (ts ++ t.Sign s.Cast ∷ [])
type_leads y ts h low = by_test (nat_le 10 y.level) refl
  where
    by_test : (b : Bool) → nat_le 10 y.level ≡ b → LeadsIf (if b then Some (q.Typed y.stack y.tree) else None) (ts ++ t.Sign s.Cast ∷ [])
    by_test false i = tt
    by_test true i = (ts, record { before = h.before; behind = h.behind; whole = h.whole; opens = h.opens; tree = h.tree; is = h.is; reads = lower (leb-true 10 y.level i) h.reads; fits = low }, refl)

-- ---- tokens that close a part

-- a primary that a token completed
primary : (st : List Open) (a : Part) (b : Expr) (ts before behind : List Token) → ts ≡ before ++ behind → Opens st before → a ≡ cap 64 b → Reads 11 behind b →
    Holds (record { stack = st; tree = a; level = 11 }) ts
primary st a b ts before behind whole o is r = record { before = before; behind = behind; whole = whole; opens = o; tree = b; is = is; reads = r; fits = omega (arith, hole_small st) }

these_back : (f : Func) (n : ℕ) → takes_these f n ≡ true → takes f n
these_back func.Coalesce n h = leb-true 1 n h
these_back func.Nullif n h = eqb-true n 2 h
these_back func.Upper n h = eqb-true n 1 h
these_back func.Lower n h = eqb-true n 1 h
these_back func.Trim n h = eqb-true n 1 h
these_back func.Length n h = eqb-true n 1 h

mapped : (args : List Expr) (a : Expr) → map (cap 64) args ++ cap 64 a ∷ [] ≡ map (cap 64) (args ++ a ∷ [])
mapped args a = sym (map-append (cap 64) args (a ∷ []))

mapped_arms : (arms : List Arm) (a : Arm) → map (cap_arm 64) arms ++ cap_arm 64 a ∷ [] ≡ map (cap_arm 64) (arms ++ a ∷ [])
mapped_arms arms a = sym (map-append (cap_arm 64) arms (a ∷ []))

module _ (a : Part) (b : Expr) (is : a ≡ cap 64 b) (ts ys : List Token) (r : Reads 0 ys b) where
  then_leads : (st : List Open) (xs : List Token) → ts ≡ xs ++ ys → Opens st xs → LeadsIf (by_then st a) (ts ++ t.Key k.Then ∷ [])
  then_leads (p.When arms ∷ st) xs whole (when_first o) = rw (whole, is) (subst (Opens (p.Then [] (cap 64 b) ∷ st)) (simp append_assoc) (then_first o r))
  then_leads (p.When arms ∷ st) xs whole (when_next {arms = as_} o i) = rw (whole, is) (subst (Opens (p.Then (map (cap_arm 64) as_) (cap 64 b) ∷ st)) (simp append_assoc) (then_next o i r))
  then_leads (p.Paren ∷ st) xs whole o = tt
  then_leads (p.Not ∷ st) xs whole o = tt
  then_leads (p.Neg ∷ st) xs whole o = tt
  then_leads (p.Left w c ∷ st) xs whole o = tt
  then_leads (p.CastOf ∷ st) xs whole o = tt
  then_leads (p.Call f args ∷ st) xs whole o = tt
  then_leads (p.Then arms w ∷ st) xs whole o = tt
  then_leads (p.Else arms ∷ st) xs whole o = tt
  then_leads [] xs whole o = tt

  as_leads : (st : List Open) (xs : List Token) → ts ≡ xs ++ ys → Opens st xs → LeadsIf (by_as st a) (ts ++ t.Key k.As ∷ [])
  as_leads (p.CastOf ∷ st) xs whole (cast_of {ts = zs} o) = record { before = zs; inner = ys; whole = rw whole (simp append_assoc); opens = o; tree = b; is = is; reads = r }
  as_leads (p.Paren ∷ st) xs whole o = tt
  as_leads (p.Not ∷ st) xs whole o = tt
  as_leads (p.Neg ∷ st) xs whole o = tt
  as_leads (p.Left w c ∷ st) xs whole o = tt
  as_leads (p.Call f args ∷ st) xs whole o = tt
  as_leads (p.When arms ∷ st) xs whole o = tt
  as_leads (p.Then arms w ∷ st) xs whole o = tt
  as_leads (p.Else arms ∷ st) xs whole o = tt
  as_leads [] xs whole o = tt

  comma_leads : (st : List Open) (xs : List Token) → ts ≡ xs ++ ys → Opens st xs → LeadsIf (by_comma st a) (ts ++ t.Sign s.Comma ∷ [])
  comma_leads (p.Call f args ∷ st) xs whole (call_first name known o) = by_test (takes_more f 1) refl
    where
      by_test : (w : Bool) → takes_more f 1 ≡ w → LeadsIf (if w then Some (q.Want (p.Call f (a ∷ []) ∷ st)) else None) (ts ++ t.Sign s.Comma ∷ [])
      by_test false i = tt
      by_test true i = rw (whole, is) (subst (Opens (p.Call f (cap 64 b ∷ []) ∷ st)) (simp append_assoc) (call_next name known i o (first_one r)))
  comma_leads (p.Call f args ∷ st) xs whole (call_next {args = as_} name known more o i) = by_test (takes_more f (length (map (cap 64) as_) + 1)) refl
    where
      by_test : (w : Bool) → takes_more f (length (map (cap 64) as_) + 1) ≡ w → LeadsIf (if w then Some (q.Want (p.Call f (map (cap 64) as_ ++ a ∷ []) ∷ st)) else None) (ts ++ t.Sign s.Comma ∷ [])
      by_test false j = tt
      by_test true j =
          let count : length (map (cap 64) as_) + 1 ≡ length (as_ ++ b ∷ []) = ap (λ n. n + 1) (length-map as_ (cap 64)) ∙ sym (length-append as_ (b ∷ [])) in
          rw (whole, is, mapped as_ b) (subst (Opens (p.Call f (map (cap 64) (as_ ++ b ∷ [])) ∷ st)) (simp append_assoc) (call_next name known (ap (takes_more f) (sym count) ∙ j) o (next_one i r)))
  comma_leads (p.Paren ∷ st) xs whole o = tt
  comma_leads (p.Not ∷ st) xs whole o = tt
  comma_leads (p.Neg ∷ st) xs whole o = tt
  comma_leads (p.Left w c ∷ st) xs whole o = tt
  comma_leads (p.CastOf ∷ st) xs whole o = tt
  comma_leads (p.When arms ∷ st) xs whole o = tt
  comma_leads (p.Then arms w ∷ st) xs whole o = tt
  comma_leads (p.Else arms ∷ st) xs whole o = tt
  comma_leads [] xs whole o = tt

  last_leads : (st : List Open) (xs : List Token) → ts ≡ xs ++ ys → Opens st xs → LeadsIf (by_last st a) (ts ++ t.End ∷ [])
  last_leads [] xs whole none = (b, record { tokens = ys; ends = rw whole refl; reads = r }, is)
  last_leads (f ∷ st) xs whole o = tt

  close_leads : (st : List Open) (xs : List Token) → ts ≡ xs ++ ys → Opens st xs → LeadsIf (by_close 64 st a) (ts ++ t.Sign s.Close ∷ [])
  close_leads (p.Paren ∷ st) xs whole (paren {ts = zs} o) = primary st a b (ts ++ t.Sign s.Close ∷ []) zs (t.Sign s.Open ∷ (ys ++ t.Sign s.Close ∷ [])) (rw whole (simp append_assoc)) o is (parens r)
  close_leads (p.Call f args ∷ st) xs whole (call_first {ts = zs} name known o) = by_test (takes_these f 1) refl
    where
      by_test : (w : Bool) → takes_these f 1 ≡ w → LeadsIf (if w then Some (q.Have st (call_of 64 f (a ∷ [])) 11) else None) (ts ++ t.Sign s.Close ∷ [])
      by_test false i = tt
      by_test true i = primary st (call_of 64 f (a ∷ [])) (e.Call f (b ∷ [])) (ts ++ t.Sign s.Close ∷ []) zs (t.Name name ∷ t.Sign s.Open ∷ (ys ++ t.Sign s.Close ∷ [])) (rw whole (simp append_assoc)) o
          (ap (λ x. call_of 64 f (x ∷ [])) is ∙ cap_call 64 f (b ∷ [])) (call name known (these_back f 1 i) (first_one r))
  close_leads (p.Call f args ∷ st) xs whole (call_next {ts = zs} {xs = us} {args = as_} name known more o j) = by_test (takes_these f (length (map (cap 64) as_) + 1)) refl
    where
      by_test : (w : Bool) → takes_these f (length (map (cap 64) as_) + 1) ≡ w → LeadsIf (if w then Some (q.Have st (call_of 64 f (map (cap 64) as_ ++ a ∷ [])) 11) else None) (ts ++ t.Sign s.Close ∷ [])
      by_test false i = tt
      by_test true i =
          let count : length (map (cap 64) as_) + 1 ≡ length (as_ ++ b ∷ []) = ap (λ n. n + 1) (length-map as_ (cap 64)) ∙ sym (length-append as_ (b ∷ [])) in
          primary st (call_of 64 f (map (cap 64) as_ ++ a ∷ [])) (e.Call f (as_ ++ b ∷ [])) (ts ++ t.Sign s.Close ∷ []) zs (t.Name name ∷ t.Sign s.Open ∷ ((us ++ t.Sign s.Comma ∷ ys) ++ t.Sign s.Close ∷ [])) (rw whole (simp append_assoc)) o
          (ap (λ x. call_of 64 f (map (cap 64) as_ ++ x ∷ [])) is ∙ ap (call_of 64 f) (mapped as_ b) ∙ cap_call 64 f (as_ ++ b ∷ [])) (call name known (these_back f (length (as_ ++ b ∷ [])) (ap (takes_these f) (sym count) ∙ i)) (next_one j r))
  close_leads (p.Not ∷ st) xs whole o = tt
  close_leads (p.Neg ∷ st) xs whole o = tt
  close_leads (p.Left w c ∷ st) xs whole o = tt
  close_leads (p.CastOf ∷ st) xs whole o = tt
  close_leads (p.When arms ∷ st) xs whole o = tt
  close_leads (p.Then arms w ∷ st) xs whole o = tt
  close_leads (p.Else arms ∷ st) xs whole o = tt
  close_leads [] xs whole o = tt

  when_leads : (st : List Open) (xs : List Token) → ts ≡ xs ++ ys → Opens st xs → LeadsIf (by_when st a) (ts ++ t.Key k.When ∷ [])
  when_leads (p.Then arms w ∷ st) xs whole (then_first {w = c} o i) =
      rw (whole, is) (subst (Opens (p.When ((cap 64 c, cap 64 b) ∷ []) ∷ st)) (simp append_assoc) (when_next o (first_arm {a = record { when = c; gives = b }} i r)))
  when_leads (p.Then arms w ∷ st) xs whole (then_next {arms = as_} {w = c} o j i) =
      rw (whole, is, mapped_arms as_ (record { when = c; gives = b })) (subst (Opens (p.When (map (cap_arm 64) (as_ ++ record { when = c; gives = b } ∷ [])) ∷ st)) (simp append_assoc) (when_next o (next_arm {a = record { when = c; gives = b }} j i r)))
  when_leads (p.Paren ∷ st) xs whole o = tt
  when_leads (p.Not ∷ st) xs whole o = tt
  when_leads (p.Neg ∷ st) xs whole o = tt
  when_leads (p.Left w c ∷ st) xs whole o = tt
  when_leads (p.CastOf ∷ st) xs whole o = tt
  when_leads (p.Call f args ∷ st) xs whole o = tt
  when_leads (p.When arms ∷ st) xs whole o = tt
  when_leads (p.Else arms ∷ st) xs whole o = tt
  when_leads [] xs whole o = tt

  else_leads : (st : List Open) (xs : List Token) → ts ≡ xs ++ ys → Opens st xs → LeadsIf (by_else st a) (ts ++ t.Key k.Else ∷ [])
  else_leads (p.Then arms w ∷ st) xs whole (then_first {w = c} o i) =
      rw (whole, is) (subst (Opens (p.Else ((cap 64 c, cap 64 b) ∷ []) ∷ st)) (simp append_assoc) (else_of o (first_arm {a = record { when = c; gives = b }} i r)))
  else_leads (p.Then arms w ∷ st) xs whole (then_next {arms = as_} {w = c} o j i) =
      rw (whole, is, mapped_arms as_ (record { when = c; gives = b })) (subst (Opens (p.Else (map (cap_arm 64) (as_ ++ record { when = c; gives = b } ∷ [])) ∷ st)) (simp append_assoc) (else_of o (next_arm {a = record { when = c; gives = b }} j i r)))
  else_leads (p.Paren ∷ st) xs whole o = tt
  else_leads (p.Not ∷ st) xs whole o = tt
  else_leads (p.Neg ∷ st) xs whole o = tt
  else_leads (p.Left w c ∷ st) xs whole o = tt
  else_leads (p.CastOf ∷ st) xs whole o = tt
  else_leads (p.Call f args ∷ st) xs whole o = tt
  else_leads (p.When arms ∷ st) xs whole o = tt
  else_leads (p.Else arms ∷ st) xs whole o = tt
  else_leads [] xs whole o = tt

  null_leaf : leaf (e.Lit v.Null) ≡ cap 64 (e.Lit v.Null)
  null_leaf = sym (cap_lit 64 (omega arith) v.Null)

  end_leads : (st : List Open) (xs : List Token) → ts ≡ xs ++ ys → Opens st xs → LeadsIf (by_end 64 st a) (ts ++ t.Key k.End ∷ [])
  end_leads (p.Then arms w ∷ st) xs whole (then_first {ts = zs} {ys = us} {w = c} o i) =
      let one : Arm = record { when = c; gives = b } in
      primary st (case_of 64 ((cap 64 c, a) ∷ []) (leaf (e.Lit v.Null))) (e.Case (one ∷ []) (e.Lit v.Null)) (ts ++ t.Key k.End ∷ []) zs (t.Key k.Case ∷ ((t.Key k.When ∷ (us ++ t.Key k.Then ∷ ys)) ++ t.Key k.End ∷ [])) (rw whole (simp append_assoc)) o
      (ap (λ x. case_of 64 ((cap 64 c, x) ∷ []) (leaf (e.Lit v.Null))) is ∙ ap (case_of 64 ((cap 64 c, cap 64 b) ∷ [])) null_leaf ∙ cap_case 64 (one ∷ []) (e.Lit v.Null)) (case_alone (first_arm {a = one} i r))
  end_leads (p.Then arms w ∷ st) xs whole (then_next {ts = zs} {xs = vs} {ys = us} {arms = as_} {w = c} o j i) =
      let one : Arm = record { when = c; gives = b } in
      primary st (case_of 64 (map (cap_arm 64) as_ ++ (cap 64 c, a) ∷ []) (leaf (e.Lit v.Null))) (e.Case (as_ ++ one ∷ []) (e.Lit v.Null)) (ts ++ t.Key k.End ∷ []) zs (t.Key k.Case ∷ ((vs ++ t.Key k.When ∷ (us ++ t.Key k.Then ∷ ys)) ++ t.Key k.End ∷ [])) (rw whole (simp append_assoc)) o
      (ap (λ x. case_of 64 (map (cap_arm 64) as_ ++ (cap 64 c, x) ∷ []) (leaf (e.Lit v.Null))) is ∙ ap (λ ps. case_of 64 ps (leaf (e.Lit v.Null))) (mapped_arms as_ one) ∙ ap (case_of 64 (map (cap_arm 64) (as_ ++ one ∷ []))) null_leaf ∙ cap_case 64 (as_ ++ one ∷ []) (e.Lit v.Null)) (case_alone (next_arm {a = one} j i r))
  end_leads (p.Else arms ∷ st) xs whole (else_of {ts = zs} {xs = vs} {arms = as_} o j) =
      primary st (case_of 64 (map (cap_arm 64) as_) a) (e.Case as_ b) (ts ++ t.Key k.End ∷ []) zs (t.Key k.Case ∷ (vs ++ t.Key k.Else ∷ (ys ++ t.Key k.End ∷ []))) (rw whole (simp append_assoc)) o
      (ap (case_of 64 (map (cap_arm 64) as_)) is ∙ cap_case 64 as_ b) (case j r)
  end_leads (p.Paren ∷ st) xs whole o = tt
  end_leads (p.Not ∷ st) xs whole o = tt
  end_leads (p.Neg ∷ st) xs whole o = tt
  end_leads (p.Left w c ∷ st) xs whole o = tt
  end_leads (p.CastOf ∷ st) xs whole o = tt
  end_leads (p.Call f args ∷ st) xs whole o = tt
  end_leads (p.When arms ∷ st) xs whole o = tt
  end_leads [] xs whole o = tt

-- ---- one step

leaf_leads : (st : List Open) (x : Token) (b : Expr) (ts : List Token) → Opens st ts → leaf b ≡ cap 64 b → Reads 11 (x ∷ []) b → LeadsIf (Some (q.Have st (leaf b) 11)) (ts ++ x ∷ [])
leaf_leads st x b ts o is r = primary st (leaf b) b (ts ++ x ∷ []) ts (x ∷ []) refl o is r

lit_is : (w : Value) → leaf (e.Lit w) ≡ cap 64 (e.Lit w)
lit_is w = sym (cap_lit 64 (omega arith) w)

col_is : (name : List ℕ) → leaf (e.Col name) ≡ cap 64 (e.Col name)
col_is name = sym (cap_col 64 (omega arith) name)

want_leads : (st : List Open) (x : Token) (ts : List Token) → Opens st ts → LeadsIf (wanted st x) (ts ++ x ∷ [])
want_leads st (t.Int n) ts o = by_test (nat_lt n (2 ^ 63)) refl
  where
    by_test : (w : Bool) → nat_lt n (2 ^ 63) ≡ w → LeadsIf (if w then Some (q.Have st (leaf (e.Lit (v.Int (pos n)))) 11) else None) (ts ++ t.Int n ∷ [])
    by_test false i = tt
    by_test true i = leaf_leads st (t.Int n) (e.Lit (v.Int (pos n))) ts o (lit_is (v.Int (pos n))) (int (leb-true (suc n) (2 ^ 63) i))
want_leads st (t.Text w) ts o = leaf_leads st (t.Text w) (e.Lit (v.Text w)) ts o (lit_is (v.Text w)) text
want_leads st (t.Name name) ts o = by_function (function_named name) refl
  where
    by_function : (f : Option Func) → function_named name ≡ f → LeadsIf (named st name f) (ts ++ t.Name name ∷ [])
    by_function None i = leaf_leads st (t.Name name) (e.Col name) ts o (col_is name) column
    by_function (Some f) i = (ts, o, refl, i)
want_leads st (t.Quoted name) ts o = leaf_leads st (t.Quoted name) (e.Col name) ts o (col_is name) quoted
want_leads st (t.Key k.True) ts o = leaf_leads st (t.Key k.True) (e.Lit (v.Bool true)) ts o (lit_is (v.Bool true)) yes
want_leads st (t.Key k.False) ts o = leaf_leads st (t.Key k.False) (e.Lit (v.Bool false)) ts o (lit_is (v.Bool false)) no
want_leads st (t.Key k.Null) ts o = leaf_leads st (t.Key k.Null) (e.Lit v.Null) ts o (lit_is v.Null) null
want_leads st (t.Key k.Not) ts o = by_test (nat_le (hole st) 3) refl
  where
    by_test : (b : Bool) → nat_le (hole st) 3 ≡ b → LeadsIf (if b then Some (q.Want (p.Not ∷ st)) else None) (ts ++ t.Key k.Not ∷ [])
    by_test false i = tt
    by_test true i = not_of (leb-true (hole st) 3 i) o
want_leads st (t.Key k.Cast) ts o = (ts, o, refl)
want_leads st (t.Key k.Case) ts o = (ts, o, refl)
want_leads st (t.Sign s.Open) ts o = paren o
want_leads st (t.Minus true) ts o = (ts, o, refl)
want_leads st (t.Minus false) ts o = minus_of (hole_small st) o
want_leads st _ ts o = tt

minus_leads : (st : List Open) (x : Token) (ts xs : List Token) → Opens st xs → ts ≡ xs ++ t.Minus true ∷ [] → LeadsIf (minus_then st x) (ts ++ x ∷ [])
minus_leads st (t.Int n) ts xs o whole = by_test (nat_le n (2 ^ 63)) refl
  where
    by_test : (w : Bool) → nat_le n (2 ^ 63) ≡ w → LeadsIf (if w then Some (q.Have st (leaf (e.Lit (v.Int (neg_ℤ (pos n))))) 11) else None) (ts ++ t.Int n ∷ [])
    by_test false i = tt
    by_test true i = primary st (leaf (e.Lit (v.Int (neg_ℤ (pos n))))) (e.Lit (v.Int (neg_ℤ (pos n)))) (ts ++ t.Int n ∷ []) xs (t.Minus true ∷ t.Int n ∷ []) (rw whole (simp append_assoc)) o (lit_is (v.Int (neg_ℤ (pos n)))) (minus_int (leb-true n (2 ^ 63) i))
minus_leads st _ ts xs o whole = tt

have_leads : (st : List Open) (a : Part) (l : ℕ) (x : Token) (ts : List Token) → Holds (record { stack = st; tree = a; level = l }) ts → LeadsIf (step 64 (q.Have st a l) x) (ts ++ x ∷ [])
have_leads st a l (t.Key k.Or) ts h = operator_leads (t.Key k.Or) op.Or (settled 64 1 st a l) ts refl (settled_holds 1 st a l ts h) (settled_hole 1 st a l)
have_leads st a l (t.Key k.And) ts h = operator_leads (t.Key k.And) op.And (settled 64 2 st a l) ts refl (settled_holds 2 st a l ts h) (settled_hole 2 st a l)
have_leads st a l (t.Sign s.Eq) ts h = operator_leads (t.Sign s.Eq) op.Eq (settled 64 5 st a l) ts refl (settled_holds 5 st a l ts h) (settled_hole 5 st a l)
have_leads st a l (t.Sign s.Ne) ts h = operator_leads (t.Sign s.Ne) op.Ne (settled 64 5 st a l) ts refl (settled_holds 5 st a l ts h) (settled_hole 5 st a l)
have_leads st a l (t.Sign s.Lt) ts h = operator_leads (t.Sign s.Lt) op.Lt (settled 64 5 st a l) ts refl (settled_holds 5 st a l ts h) (settled_hole 5 st a l)
have_leads st a l (t.Sign s.Le) ts h = operator_leads (t.Sign s.Le) op.Le (settled 64 5 st a l) ts refl (settled_holds 5 st a l ts h) (settled_hole 5 st a l)
have_leads st a l (t.Sign s.Gt) ts h = operator_leads (t.Sign s.Gt) op.Gt (settled 64 5 st a l) ts refl (settled_holds 5 st a l ts h) (settled_hole 5 st a l)
have_leads st a l (t.Sign s.Ge) ts h = operator_leads (t.Sign s.Ge) op.Ge (settled 64 5 st a l) ts refl (settled_holds 5 st a l ts h) (settled_hole 5 st a l)
have_leads st a l (t.Sign s.Concat) ts h = operator_leads (t.Sign s.Concat) op.Concat (settled 64 6 st a l) ts refl (settled_holds 6 st a l ts h) (settled_hole 6 st a l)
have_leads st a l (t.Sign s.Plus) ts h = operator_leads (t.Sign s.Plus) op.Add (settled 64 7 st a l) ts refl (settled_holds 7 st a l ts h) (settled_hole 7 st a l)
have_leads st a l (t.Minus b) ts h = operator_leads (t.Minus b) op.Sub (settled 64 7 st a l) ts refl (settled_holds 7 st a l ts h) (settled_hole 7 st a l)
have_leads st a l (t.Sign s.Star) ts h = operator_leads (t.Sign s.Star) op.Mul (settled 64 8 st a l) ts refl (settled_holds 8 st a l ts h) (settled_hole 8 st a l)
have_leads st a l (t.Sign s.Slash) ts h = operator_leads (t.Sign s.Slash) op.Div (settled 64 8 st a l) ts refl (settled_holds 8 st a l ts h) (settled_hole 8 st a l)
have_leads st a l (t.Sign s.Percent) ts h = operator_leads (t.Sign s.Percent) op.Rem (settled 64 8 st a l) ts refl (settled_holds 8 st a l ts h) (settled_hole 8 st a l)
have_leads st a l (t.Key k.Is) ts h = is_leads (settled 64 4 st a l) ts (settled_holds 4 st a l ts h) (settled_hole 4 st a l)
have_leads st a l (t.Sign s.Cast) ts h = type_leads (settled 64 10 st a l) ts (settled_holds 10 st a l ts h) (settled_hole 10 st a l)
have_leads st a l (t.Sign s.Close) ts h = let x = settled 64 0 st a l in let j = settled_holds 0 st a l ts h in close_leads x.tree j.tree j.is ts j.behind (lower (omega arith) j.reads) x.stack j.before j.whole j.opens
have_leads st a l (t.Sign s.Comma) ts h = let x = settled 64 0 st a l in let j = settled_holds 0 st a l ts h in comma_leads x.tree j.tree j.is ts j.behind (lower (omega arith) j.reads) x.stack j.before j.whole j.opens
have_leads st a l (t.Key k.As) ts h = let x = settled 64 0 st a l in let j = settled_holds 0 st a l ts h in as_leads x.tree j.tree j.is ts j.behind (lower (omega arith) j.reads) x.stack j.before j.whole j.opens
have_leads st a l (t.Key k.When) ts h = let x = settled 64 0 st a l in let j = settled_holds 0 st a l ts h in when_leads x.tree j.tree j.is ts j.behind (lower (omega arith) j.reads) x.stack j.before j.whole j.opens
have_leads st a l (t.Key k.Then) ts h = let x = settled 64 0 st a l in let j = settled_holds 0 st a l ts h in then_leads x.tree j.tree j.is ts j.behind (lower (omega arith) j.reads) x.stack j.before j.whole j.opens
have_leads st a l (t.Key k.Else) ts h = let x = settled 64 0 st a l in let j = settled_holds 0 st a l ts h in else_leads x.tree j.tree j.is ts j.behind (lower (omega arith) j.reads) x.stack j.before j.whole j.opens
have_leads st a l (t.Key k.End) ts h = let x = settled 64 0 st a l in let j = settled_holds 0 st a l ts h in end_leads x.tree j.tree j.is ts j.behind (lower (omega arith) j.reads) x.stack j.before j.whole j.opens
have_leads st a l t.End ts h = let x = settled 64 0 st a l in let j = settled_holds 0 st a l ts h in last_leads x.tree j.tree j.is ts j.behind (lower (omega arith) j.reads) x.stack j.before j.whole j.opens
have_leads st a l _ ts h = tt

named_leads : (st : List Open) (f : Func) (name : List ℕ) (x : Token) (ts xs : List Token) → Opens st xs → ts ≡ xs ++ t.Name name ∷ [] → function_named name ≡ Some f → LeadsIf (step 64 (q.Named st f name) x) (ts ++ x ∷ [])
named_leads st f name (t.Sign s.Open) ts xs o whole known = rw whole (subst (Opens (p.Call f [] ∷ st)) (simp append_assoc) (call_first name known o))
named_leads st f name x ts xs o whole known = other x (have_leads st (leaf (e.Col name)) 11 x ts (primary st (leaf (e.Col name)) (e.Col name) ts xs (t.Name name ∷ []) whole o (col_is name) column))
  where
    other : (y : Token) → LeadsIf (step 64 (q.Have st (leaf (e.Col name)) 11) y) (ts ++ y ∷ []) → LeadsIf (step 64 (q.Named st f name) y) (ts ++ y ∷ [])
    other (t.Sign s.Open) h = rw whole (subst (Opens (p.Call f [] ∷ st)) (simp append_assoc) (call_first name known o))
    other _ h = h

-- a suffix behind an operand
suffixed : (st : List Open) (a b : Part) (l : ℕ) (form : Expr → Expr) (ts xs us : List Token) (h : Holds (record { stack = st; tree = a; level = l }) xs) → ts ≡ xs ++ us → b ≡ cap 64 (form h.tree) → Reads l (h.behind ++ us) (form h.tree) →
    Holds (record { stack = st; tree = b; level = l }) ts
suffixed st a b l form ts xs us h whole is r =
    record { before = h.before; behind = h.behind ++ us; whole = rw (whole, h.whole) (simp append_assoc); opens = h.opens; tree = form h.tree; is = is; reads = r; fits = h.fits }

is_then_leads : (st : List Open) (a : Part) (x : Token) (ts xs : List Token) → Holds (record { stack = st; tree = a; level = 4 }) xs → ts ≡ xs ++ t.Key k.Is ∷ [] → LeadsIf (step 64 (q.Is st a) x) (ts ++ x ∷ [])
is_then_leads st a (t.Key k.Null) ts xs h whole =
    suffixed st a (with_one 64 e.IsNull a) 4 e.IsNull (ts ++ t.Key k.Null ∷ []) xs (t.Key k.Is ∷ t.Key k.Null ∷ []) h (rw whole (simp append_assoc)) (ap (with_one 64 e.IsNull) h.is ∙ cap_is_null 64 h.tree) (is_null (omega arith) h.reads)
is_then_leads st a (t.Key k.Not) ts xs h whole = (xs, h, rw whole (simp append_assoc))
is_then_leads st a _ ts xs h whole = tt

is_not_then_leads : (st : List Open) (a : Part) (x : Token) (ts xs : List Token) → Holds (record { stack = st; tree = a; level = 4 }) xs → ts ≡ xs ++ t.Key k.Is ∷ t.Key k.Not ∷ [] → LeadsIf (step 64 (q.IsNot st a) x) (ts ++ x ∷ [])
is_not_then_leads st a (t.Key k.Null) ts xs h whole =
    suffixed st a (with_one 64 e.Not (with_one 64 e.IsNull a)) 4 (λ b. e.Not (e.IsNull b)) (ts ++ t.Key k.Null ∷ []) xs (t.Key k.Is ∷ t.Key k.Not ∷ t.Key k.Null ∷ []) h (rw whole (simp append_assoc))
    (ap (λ b. with_one 64 e.Not (with_one 64 e.IsNull b)) h.is ∙ ap (with_one 64 e.Not) (cap_is_null 64 h.tree) ∙ cap_not 64 (e.IsNull h.tree)) (is_not_null (omega arith) h.reads)
is_not_then_leads st a _ ts xs h whole = tt

typed_then_leads : (st : List Open) (a : Part) (x : Token) (ts xs : List Token) → Holds (record { stack = st; tree = a; level = 10 }) xs → ts ≡ xs ++ t.Sign s.Cast ∷ [] → LeadsIf (step 64 (q.Typed st a) x) (ts ++ x ∷ [])
typed_then_leads st a (t.Name name) ts xs h whole = by_type (type_named name) refl
  where
    by_type : (o : Option Ty) → type_named name ≡ o → LeadsIf (cast_to 64 st a 10 o) (ts ++ t.Name name ∷ [])
    by_type None i = tt
    by_type (Some to) i = suffixed st a (with_one 64 (λ b. e.Cast b to) a) 10 (λ b. e.Cast b to) (ts ++ t.Name name ∷ []) xs (t.Sign s.Cast ∷ t.Name name ∷ []) h (rw whole (simp append_assoc))
        (ap (with_one 64 (λ b. e.Cast b to)) h.is ∙ cap_cast 64 h.tree to) (typed name i (omega arith) h.reads)
typed_then_leads st a _ ts xs h whole = tt

cast_then_leads : (st : List Open) (x : Token) (ts xs : List Token) → Opens st xs → ts ≡ xs ++ t.Key k.Cast ∷ [] → LeadsIf (step 64 (q.Cast st) x) (ts ++ x ∷ [])
cast_then_leads st (t.Sign s.Open) ts xs o whole = rw whole (subst (Opens (p.CastOf ∷ st)) (simp append_assoc) (cast_of o))
cast_then_leads st _ ts xs o whole = tt

cast_as_leads : (st : List Open) (a : Part) (x : Token) (ts : List Token) → Casting st a ts (t.Key k.As ∷ []) → LeadsIf (step 64 (q.CastAs st a) x) (ts ++ x ∷ [])
cast_as_leads st a (t.Name name) ts h = by_type (type_named name) refl
  where
    by_type : (o : Option Ty) → type_named name ≡ o → LeadsIf (with_name st a o) (ts ++ t.Name name ∷ [])
    by_type None i = tt
    by_type (Some to) i = (name, i, record { before = h.before; inner = h.inner; whole = rw h.whole (simp append_assoc); opens = h.opens; tree = h.tree; is = h.is; reads = h.reads })
cast_as_leads st a _ ts h = tt

cast_to_leads : (st : List Open) (a : Part) (to : Ty) (x : Token) (ts : List Token) (name : List ℕ) → type_named name ≡ Some to → Casting st a ts (t.Key k.As ∷ t.Name name ∷ []) → LeadsIf (step 64 (q.CastTo st a to) x) (ts ++ x ∷ [])
cast_to_leads st a to (t.Sign s.Close) ts name known h =
    primary st (with_one 64 (λ b. e.Cast b to) a) (e.Cast h.tree to) (ts ++ t.Sign s.Close ∷ []) h.before (t.Key k.Cast ∷ t.Sign s.Open ∷ (h.inner ++ t.Key k.As ∷ t.Name name ∷ t.Sign s.Close ∷ [])) (rw h.whole (simp append_assoc)) h.opens
    (ap (with_one 64 (λ b. e.Cast b to)) h.is ∙ cap_cast 64 h.tree to) (cast name known h.reads)
cast_to_leads st a to _ ts name known h = tt

case_then_leads : (st : List Open) (x : Token) (ts xs : List Token) → Opens st xs → ts ≡ xs ++ t.Key k.Case ∷ [] → LeadsIf (step 64 (q.Case st) x) (ts ++ x ∷ [])
case_then_leads st (t.Key k.When) ts xs o whole = rw whole (subst (Opens (p.When [] ∷ st)) (simp append_assoc) (when_first o))
case_then_leads st _ ts xs o whole = tt

step_leads : (r : State) (x : Token) (ts : List Token) → Leads r ts → LeadsIf (step 64 r x) (ts ++ x ∷ [])
step_leads (q.Want st) x ts h = want_leads st x ts h
step_leads (q.Minus st) x ts h = minus_leads st x ts h.0 h.1 h.2
step_leads (q.Have st a l) x ts h = have_leads st a l x ts h
step_leads (q.Named st f name) x ts h = named_leads st f name x ts h.0 h.1 h.2 h.3
step_leads (q.Is st a) x ts h = is_then_leads st a x ts h.0 h.1 h.2
step_leads (q.IsNot st a) x ts h = is_not_then_leads st a x ts h.0 h.1 h.2
step_leads (q.Typed st a) x ts h = typed_then_leads st a x ts h.0 h.1 h.2
step_leads (q.Cast st) x ts h = cast_then_leads st x ts h.0 h.1 h.2
step_leads (q.CastAs st a) x ts h = cast_as_leads st a x ts h
step_leads (q.CastTo st a to) x ts h = cast_to_leads st a to x ts h.0 h.1 h.2
step_leads (q.Case st) x ts h = case_then_leads st x ts h.0 h.1 h.2
step_leads (q.Done a) x ts h = tt

pub run_leads : (r : Option State) (xs ts : List Token) → LeadsIf r ts → LeadsIf (run 64 r xs) (ts ++ xs)
run_leads None xs ts h = subst (λ r. LeadsIf r (ts ++ xs)) (sym (run-none 64 xs)) tt
run_leads (Some r) [] ts h = rw append-nil h
run_leads (Some r) (x ∷ xs) ts h = rw append_assoc at (run_leads (step 64 r x) xs (ts ++ x ∷ []) (step_leads r x ts h))

-- ---- what a state can still become

plug_holds : (x : Operand) (ts : List Token) → Holds x ts → Viable ts
plug_holds x ts h = rw h.whole (plug h.opens h.reads h.fits)

-- an operand that could stand here, with these tokens more
by_operand : {st : List Open} {xs : List Token} → Opens st xs → (ts us : List Token) {ys : List Token} {a : Expr} → Reads 11 ys a → xs ++ ys ≡ ts ++ us → Viable ts
by_operand {st} o ts us r same = viable_front ts us (regrouped same (plug o r (omega (arith, hole_small st))))

pub viable : (r : State) (ts : List Token) → Leads r ts → Viable ts
viable (q.Want st) ts h = by_operand h ts (t.Int 0 ∷ []) zero_reads refl
viable (q.Minus st) ts h = by_operand h.1 ts (t.Int 0 ∷ []) (minus_int {n = 0} (omega arith)) (rw h.2 (simp append_assoc))
viable (q.Have st a l) ts h = plug_holds (record { stack = st; tree = a; level = l }) ts h
viable (q.Named st f name) ts h = rw h.2 (plug h.1 (column {l = 11}) (omega (arith, hole_small st)))
viable (q.Is st a) ts h = viable_front ts (t.Key k.Null ∷ []) (regrouped (rw (h.2, h.1.whole) (simp append_assoc)) (plug h.1.opens (is_null (omega arith) h.1.reads) h.1.fits))
viable (q.IsNot st a) ts h = viable_front ts (t.Key k.Null ∷ []) (regrouped (rw (h.2, h.1.whole) (simp append_assoc)) (plug h.1.opens (is_not_null (omega arith) h.1.reads) h.1.fits))
viable (q.Typed st a) ts h = viable_front ts (t.Name (codes "text") ∷ []) (regrouped (rw (h.2, h.1.whole) (simp append_assoc)) (plug h.1.opens (typed (codes "text") text_type (omega arith) h.1.reads) h.1.fits))
viable (q.Cast st) ts h = by_operand h.1 ts (t.Sign s.Open ∷ t.Int 0 ∷ t.Key k.As ∷ t.Name (codes "text") ∷ t.Sign s.Close ∷ []) (cast (codes "text") text_type zero_reads) (rw h.2 (simp append_assoc))
viable (q.CastAs st a) ts h = by_operand h.opens ts (t.Name (codes "text") ∷ t.Sign s.Close ∷ []) (cast (codes "text") text_type h.reads) (rw h.whole (simp append_assoc))
viable (q.CastTo st a to) ts h = by_operand h.2.opens ts (t.Sign s.Close ∷ []) (cast h.0 h.1 h.2.reads) (rw h.2.whole (simp append_assoc))
viable (q.Case st) ts h = by_operand h.1 ts (t.Key k.When ∷ t.Int 0 ∷ t.Key k.Then ∷ t.Int 0 ∷ t.Key k.End ∷ [])
    (case_alone (first_arm {a = record { when = e.Lit (v.Int (pos 0)); gives = e.Lit (v.Int (pos 0)) }} zero_reads zero_reads)) (rw h.2 (simp append_assoc))
viable (q.Done a) ts h = record { more = []; tree = h.0; text = rw append-nil h.1 }
