-- The canonical text of an expression, token by token.
use Rattle.std.proofs.Common.{◌≡◌, ℕ, suc, List, [], ◌∷◌, ◌++◌, true, false, if◌then◌else◌, Option, Some, None, is_some, pos, negsuc, refl, sym, ap, ◌∙◌, arith, append_assoc, append-nil, map, codes}
use Rattle.std.specs.List.{concat, flat_map}
use Rattle.sql_base.specs.declared.values.Value.{Value}
use Rattle.sql_base.specs.declared.values.Value.TheVariants.{Null, Int, Text, Bool as Truth}
use Rattle.sql_base.specs.declared.values.Ty.{Ty}
use Rattle.sql_base.specs.declared.exprs.BinOp.{BinOp}
use Rattle.sql_base.specs.declared.exprs.Func.{Func}
use Rattle.sql_base.specs.declared.exprs.Expr.{Expr}
use Rattle.sql_base.specs.declared.exprs.Arm.{Arm}
use Rattle.sql_base.specs.declared.exprs.Expr.TheOpen.{Expr-F, Arm-F}
use Rattle.sql_base.specs.declared.exprs.Expr.TheViews.{roll-Expr, roll-Arm}
use Rattle.sql_base.specs.declared.exprs.Expr.TheFolds.{fold-roll-Expr, fold-roll-Arm, map-Expr, map-Arm}
use Rattle.sql_text.specs.declared.keys.Key.{Key}
use Rattle.sql_text.specs.declared.keys.Key.TheVariants as k
use Rattle.sql_text.specs.declared.tokens.Sign.TheVariants as s
use Rattle.sql_text.specs.declared.tokens.Token.{Token}
use Rattle.sql_text.specs.declared.tokens.Token.TheVariants as t
use Rattle.sql_text.specs.Keys.{key_of}
use Rattle.sql_text.specs.Lexing.{is_word_byte, is_name}
use Rattle.sql_text.specs.Printing.{spelled, spelled_step, spelled_arm, spelled_arm_step, written, written_step, written_arm, written_arm_step, literal_text, literal_tokens, name_text, name_token, operator_text, operator_token, type_name, function_name, joined, separated, doubled}
use Rattle.sql_text.specs.Laws.{HasText, ArmsHaveText, AllHaveText, IsLiteral, TextHasItsTokens, lit, col, not, minus, is_null, binary, cast, case, call, no_arm, arm, no_more, one_more}
use Rattle.sql_text.proofs.Pieces.{toks, placeless, end_piece, open_piece, close_piece, comma_piece, not_piece, minus_piece, is_null_piece, cast_piece, as_piece, case_piece, blank_piece, when_piece, then_piece, else_piece, operator_piece, function_piece}
use Rattle.sql_text.proofs.Words.{Stops, number_lexes, negative_lexes, plain_lexes, quoted_lexes, text_lexes, null_lexes, true_lexes, false_lexes, end_lexes}

-- ---- one level of the texts

spelled_at : (x : Expr-F Expr Arm) → spelled (roll-Expr x) ≡ spelled_step (map-Expr Expr Arm (List ℕ) (List ℕ) spelled spelled_arm x)
unfolding spelled spelled_arm
spelled_at x = fold-roll-Expr (List ℕ) (List ℕ) spelled_step spelled_arm_step x

written_at : (x : Expr-F Expr Arm) → written (roll-Expr x) ≡ written_step (map-Expr Expr Arm (List Token) (List Token) written written_arm x)
unfolding written written_arm
written_at x = fold-roll-Expr (List Token) (List Token) written_step written_arm_step x

spelled_arm_at : (x : Arm-F Expr Arm) → spelled_arm (roll-Arm x) ≡ spelled_arm_step (map-Arm Expr Arm (List ℕ) (List ℕ) spelled spelled_arm x)
unfolding spelled spelled_arm
spelled_arm_at x = fold-roll-Arm (List ℕ) (List ℕ) spelled_step spelled_arm_step x

written_arm_at : (x : Arm-F Expr Arm) → written_arm (roll-Arm x) ≡ written_arm_step (map-Arm Expr Arm (List Token) (List Token) written written_arm x)
unfolding written written_arm
written_arm_at x = fold-roll-Arm (List Token) (List Token) written_step written_arm_step x

-- ---- one text behind another

-- the bytes are these tokens, whatever follows
abbrev Whole : List ℕ → List Token → Type 0
Whole text ts = (rest : List ℕ) → toks 0 (text ++ rest) ≡ ts ++ toks 0 rest

-- and where what follows is no part of their last token
abbrev Lexes : List ℕ → List Token → Type 0
Lexes text ts = (rest : List ℕ) → Stops rest → toks 0 (text ++ rest) ≡ ts ++ toks 0 rest

behind : (text more : List ℕ) (ts us : List Token) → Lexes text ts → (rest : List ℕ) → Stops (more ++ rest) → toks 0 (more ++ rest) ≡ us ++ toks 0 rest →
    toks 0 ((text ++ more) ++ rest) ≡ (ts ++ us) ++ toks 0 rest
behind text more ts us one rest stops two =
    ap (toks 0) (append_assoc text more rest) ∙ one (more ++ rest) stops ∙ ap (λ vs. ts ++ vs) two ∙ sym (append_assoc ts us (toks 0 rest))

-- ---- literals and names

literal_lexes : (v : Value) → IsLiteral v → Lexes (literal_text v) (literal_tokens v)
literal_lexes Null h rest stops = null_lexes rest stops
literal_lexes (Int (pos n)) h rest stops = number_lexes n rest (omega arith) stops
literal_lexes (Int (negsuc n)) h rest stops = negative_lexes (suc n) rest (omega arith) stops
literal_lexes (Text text) h rest stops = ap (λ bs. toks 0 (39 ∷ bs)) (append_assoc (flat_map doubled text) (39 ∷ []) rest) ∙ text_lexes text rest h stops
literal_lexes (Truth true) h rest stops = true_lexes rest stops
literal_lexes (Truth false) h rest stops = false_lexes rest stops

name_lexes : (name : List ℕ) → is_name name ≡ true → Lexes (name_text name) (name_token name ∷ [])
name_lexes name h rest stops = by_key (key_of name) refl
  where
    by_key : (o : Option Key) → key_of name ≡ o → toks 0 ((if is_some o then codes "\"" ++ (name ++ codes "\"") else name) ++ rest) ≡ (if is_some o then t.Quoted name else t.Name name) ∷ toks 0 rest
    by_key None e = plain_lexes name rest h e stops
    by_key (Some key) e = ap (λ bs. toks 0 (34 ∷ bs)) (append_assoc name (34 ∷ []) rest) ∙ quoted_lexes name rest h

-- ---- forms

-- a text that begins with these bytes stops
stops_blank : (rest : List ℕ) → Stops (32 ∷ rest)
unfolding is_word_byte
stops_blank rest = record { word = refl; digit = refl; quote = refl }

stops_close : (rest : List ℕ) → Stops (41 ∷ rest)
unfolding is_word_byte
stops_close rest = record { word = refl; digit = refl; quote = refl }

stops_comma : (rest : List ℕ) → Stops (44 ∷ rest)
unfolding is_word_byte
stops_comma rest = record { word = refl; digit = refl; quote = refl }

stops_end : Stops []
stops_end = record { word = refl; digit = refl; quote = refl }

-- the tokens of a part
abbrev Part : Expr → Type 0
Part a = Lexes (spelled a) (written a)

not_lexes : (a : Expr) → Part a → Whole (codes "(NOT " ++ (spelled a ++ codes ")")) (t.Sign s.Open ∷ t.Key k.Not ∷ (written a ++ t.Sign s.Close ∷ []))
not_lexes a h rest =
    not_piece ((spelled a ++ codes ")") ++ rest)
    ∙ ap (λ vs. t.Sign s.Open ∷ t.Key k.Not ∷ vs) (behind (spelled a) (codes ")") (written a) (t.Sign s.Close ∷ []) h rest (stops_close rest) (close_piece rest))

minus_lexes : (a : Expr) → Part a → Whole (codes "(- " ++ (spelled a ++ codes ")")) (t.Sign s.Open ∷ t.Minus false ∷ (written a ++ t.Sign s.Close ∷ []))
minus_lexes a h rest =
    minus_piece ((spelled a ++ codes ")") ++ rest)
    ∙ ap (λ vs. t.Sign s.Open ∷ t.Minus false ∷ vs) (behind (spelled a) (codes ")") (written a) (t.Sign s.Close ∷ []) h rest (stops_close rest) (close_piece rest))

is_null_lexes : (a : Expr) → Part a → Whole (codes "(" ++ (spelled a ++ codes " IS NULL)")) (t.Sign s.Open ∷ (written a ++ t.Key k.Is ∷ t.Key k.Null ∷ t.Sign s.Close ∷ []))
is_null_lexes a h rest =
    open_piece ((spelled a ++ codes " IS NULL)") ++ rest)
    ∙ ap (λ vs. t.Sign s.Open ∷ vs) (behind (spelled a) (codes " IS NULL)") (written a) (t.Key k.Is ∷ t.Key k.Null ∷ t.Sign s.Close ∷ []) h rest (stops_blank _) (is_null_piece rest))

-- an operator and its right operand
right_lexes : (o : BinOp) (b : Expr) → Part b → Whole (codes " " ++ (operator_text o ++ (codes " " ++ (spelled b ++ codes ")")))) (operator_token o ∷ (written b ++ t.Sign s.Close ∷ []))
right_lexes o b h rest =
    ap (λ bs. toks 0 (32 ∷ bs)) (append_assoc (operator_text o) (codes " " ++ (spelled b ++ codes ")")) rest)
    ∙ operator_piece o ((spelled b ++ codes ")") ++ rest)
    ∙ ap (λ vs. operator_token o ∷ vs) (behind (spelled b) (codes ")") (written b) (t.Sign s.Close ∷ []) h rest (stops_close rest) (close_piece rest))

binary_lexes : (o : BinOp) (a b : Expr) → Part a → Part b →
    Whole (codes "(" ++ (spelled a ++ (codes " " ++ (operator_text o ++ (codes " " ++ (spelled b ++ codes ")")))))) (t.Sign s.Open ∷ (written a ++ operator_token o ∷ (written b ++ t.Sign s.Close ∷ [])))
binary_lexes o a b h j rest =
    let more = codes " " ++ (operator_text o ++ (codes " " ++ (spelled b ++ codes ")"))) in
    open_piece ((spelled a ++ more) ++ rest)
    ∙ ap (λ vs. t.Sign s.Open ∷ vs) (behind (spelled a) more (written a) (operator_token o ∷ (written b ++ t.Sign s.Close ∷ [])) h rest (stops_blank _) (right_lexes o b j rest))

cast_lexes : (a : Expr) (to : Ty) → Part a →
    Whole (codes "CAST(" ++ (spelled a ++ (codes " AS " ++ (type_name to ++ codes ")")))) (t.Key k.Cast ∷ t.Sign s.Open ∷ (written a ++ t.Key k.As ∷ t.Name (type_name to) ∷ t.Sign s.Close ∷ []))
cast_lexes a to h rest =
    let more = codes " AS " ++ (type_name to ++ codes ")") in
    let named : toks 0 (more ++ rest) ≡ t.Key k.As ∷ t.Name (type_name to) ∷ t.Sign s.Close ∷ toks 0 rest =
    ap (λ bs. toks 0 (codes " AS " ++ bs)) (append_assoc (type_name to) (codes ")") rest) ∙ as_piece to rest in
    cast_piece ((spelled a ++ more) ++ rest)
    ∙ ap (λ vs. t.Key k.Cast ∷ t.Sign s.Open ∷ vs) (behind (spelled a) more (written a) (t.Key k.As ∷ t.Name (type_name to) ∷ t.Sign s.Close ∷ []) h rest (stops_blank _) named)

arm_lexes : (a : Arm) → Part a.when → Part a.gives → Whole (spelled_arm a) (written_arm a)
unfolding denote.Hole.Carrier.roll
arm_lexes a h j rest =
    let x : Arm-F Expr Arm = record { when = a.when; gives = a.gives } in
    let more = codes " THEN " ++ (spelled a.gives ++ codes " ") in
    let gives : toks 0 ((spelled a.gives ++ codes " ") ++ rest) ≡ written a.gives ++ toks 0 rest =
    behind (spelled a.gives) (codes " ") (written a.gives) [] j rest (stops_blank rest) (blank_piece rest) ∙ ap (λ ts. ts ++ toks 0 rest) (append-nil (written a.gives)) in
    rw (spelled_arm_at x, written_arm_at x)
    (when_piece ((spelled a.when ++ more) ++ rest)
    ∙ ap (λ vs. t.Key k.When ∷ vs) (behind (spelled a.when) more (written a.when) (t.Key k.Then ∷ written a.gives) h rest (stops_blank _)
    (then_piece ((spelled a.gives ++ codes " ") ++ rest) ∙ ap (λ vs. t.Key k.Then ∷ vs) gives)))

case_lexes : (arms : List ℕ) (ts : List Token) (other : Expr) → Whole arms ts → Part other →
    Lexes (codes "CASE " ++ (arms ++ (codes "ELSE " ++ (spelled other ++ codes " END")))) (t.Key k.Case ∷ (ts ++ t.Key k.Else ∷ (written other ++ t.Key k.End ∷ [])))
case_lexes arms ts other h j rest stops =
    let more = codes "ELSE " ++ (spelled other ++ codes " END") in
    let last : toks 0 (codes " END" ++ rest) ≡ t.Key k.End ∷ toks 0 rest = blank_piece (codes "END" ++ rest) ∙ end_lexes rest stops in
    let else_part : toks 0 (more ++ rest) ≡ t.Key k.Else ∷ ((written other ++ t.Key k.End ∷ []) ++ toks 0 rest) =
    else_piece ((spelled other ++ codes " END") ++ rest)
    ∙ ap (λ vs. t.Key k.Else ∷ vs) (behind (spelled other) (codes " END") (written other) (t.Key k.End ∷ []) j rest (stops_blank _) last) in
    case_piece ((arms ++ more) ++ rest)
    ∙ ap (λ vs. t.Key k.Case ∷ vs) (ap (toks 0) (append_assoc arms more rest) ∙ h (more ++ rest) ∙ ap (λ vs. ts ++ vs) else_part ∙ sym (append_assoc ts (t.Key k.Else ∷ (written other ++ t.Key k.End ∷ [])) (toks 0 rest)))

call_lexes : (f : Func) (args : List ℕ) (ts : List Token) → Lexes args ts → Whole (function_name f ++ (codes "(" ++ (args ++ codes ")"))) (t.Name (function_name f) ∷ t.Sign s.Open ∷ (ts ++ t.Sign s.Close ∷ []))
call_lexes f args ts h rest =
    ap (toks 0) (append_assoc (function_name f) (codes "(" ++ (args ++ codes ")")) rest)
    ∙ function_piece f ((args ++ codes ")") ++ rest)
    ∙ ap (λ vs. t.Name (function_name f) ∷ t.Sign s.Open ∷ vs) (behind args (codes ")") ts (t.Sign s.Close ∷ []) h rest (stops_close rest) (close_piece rest))

-- An argument behind what stands before it, and the others.
argument_lexes : (before : List ℕ) (bs : List Token) (a : Expr) (args : List Expr) → Whole before bs → Part a → Lexes (joined (codes ", ") (map spelled args)) (separated (t.Sign s.Comma ∷ []) (map written args)) →
    Lexes (joined before (map spelled (a ∷ args))) (separated bs (map written (a ∷ args)))
argument_lexes before bs a args first h more rest stops =
    let others = joined (codes ", ") (map spelled args) in
    let their = separated (t.Sign s.Comma ∷ []) (map written args) in
    ap (toks 0) (append_assoc before (spelled a ++ others) rest)
    ∙ first ((spelled a ++ others) ++ rest)
    ∙ ap (λ vs. bs ++ vs) (behind (spelled a) others (written a) their h rest (stops_there args) (more rest stops))
    ∙ sym (append_assoc bs (written a ++ their) (toks 0 rest))
  where
    stops_there : (xs : List Expr) → Stops (joined (codes ", ") (map spelled xs) ++ rest)
    stops_there [] = stops
    stops_there (x ∷ xs) = stops_comma _

nothing : Whole [] []
nothing rest = refl

mutual
  unfolding roll-Expr denote.Hole.Carrier.roll

  lexes : {a : Expr} → HasText a → Part a
  lexes (lit {v = v} h) = rw (spelled_at (Expr-F.Lit v), written_at (Expr-F.Lit v)) (literal_lexes v h)
  lexes (col {name = name} h) = rw (spelled_at (Expr-F.Col name), written_at (Expr-F.Col name)) (name_lexes name h)
  lexes (not {a = a} h) = rw (spelled_at (Expr-F.Not a), written_at (Expr-F.Not a)) (λ rest stops. not_lexes a (lexes h) rest)
  lexes (minus {a = a} h) = rw (spelled_at (Expr-F.Neg a), written_at (Expr-F.Neg a)) (λ rest stops. minus_lexes a (lexes h) rest)
  lexes (is_null {a = a} h) = rw (spelled_at (Expr-F.IsNull a), written_at (Expr-F.IsNull a)) (λ rest stops. is_null_lexes a (lexes h) rest)
  lexes (binary {o = o} {a = a} {b = b} h j) = rw (spelled_at (Expr-F.Bin o a b), written_at (Expr-F.Bin o a b)) (λ rest stops. binary_lexes o a b (lexes h) (lexes j) rest)
  lexes (cast {a = a} {to = to} h) = rw (spelled_at (Expr-F.Cast a to), written_at (Expr-F.Cast a to)) (λ rest stops. cast_lexes a to (lexes h) rest)
  lexes (case {arms = arms} {other = other} some h j) = rw (spelled_at (Expr-F.Case arms other), written_at (Expr-F.Case arms other)) (case_lexes (concat (map spelled_arm arms)) (flat_map (λ ts. ts) (map written_arm arms)) other (arms_lex h) (lexes j))
  lexes (call {f = f} {args = args} takes h) = rw (spelled_at (Expr-F.Call f args), written_at (Expr-F.Call f args)) (λ rest stops. call_lexes f (joined [] (map spelled args)) (separated [] (map written args)) (all_lex h [] [] nothing) rest)

  arms_lex : {arms : List Arm} → ArmsHaveText arms → Whole (concat (map spelled_arm arms)) (flat_map (λ ts. ts) (map written_arm arms))
  arms_lex no_arm rest = refl
  arms_lex (arm {a = a} {arms = arms} h j more) rest =
      ap (toks 0) (append_assoc (spelled_arm a) (concat (map spelled_arm arms)) rest)
      ∙ arm_lexes a (lexes h) (lexes j) (concat (map spelled_arm arms) ++ rest)
      ∙ ap (λ vs. written_arm a ++ vs) (arms_lex more rest)
      ∙ sym (append_assoc (written_arm a) (flat_map (λ ts. ts) (map written_arm arms)) (toks 0 rest))

  all_lex : {args : List Expr} → AllHaveText args → (before : List ℕ) (bs : List Token) → Whole before bs → Lexes (joined before (map spelled args)) (separated bs (map written args))
  all_lex no_more before bs first rest stops = refl
  all_lex (one_more {a = a} {args = args} h more) before bs first rest stops = argument_lexes before bs a args first (lexes h) (all_lex more (codes ", ") (t.Sign s.Comma ∷ []) comma_piece) rest stops

pub canonical : TextHasItsTokens
canonical a h =
    let behind_it : toks 0 (spelled a ++ []) ≡ written a ++ toks 0 [] = lexes {a = a} h [] stops_end in
    placeless 0 0 (spelled a) ∙ (rw (append-nil (spelled a)) at behind_it) ∙ ap (λ ts. written a ++ ts) end_piece
