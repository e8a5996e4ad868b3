use Rattle.std.proofs.Common.{◌≡◌, ◌≤◌, length, take, drop, ◌-◌, ◌++◌, ◌∷◌, [], arith, sym, ap, ◌∙◌, length-drop, append_assoc}
use Rattle.std.proofs.lemmas.List.{drop_all, take_all}
use Rattle.sql_text.specs.declared.tokens.Token.TheVariants as t
use Rattle.sql_text.specs.Lexing as spec
use Rattle.sql_text.proofs.Lexemes.{at_blank, at_token, at_end}
use Rattle.sql_text.proofs.lexer.lex.Goals as goal

pub loop-at-preserved-then-has : goal.loop-at-preserved-then-has
loop-at-preserved-then-has c =
    let step = at_blank c.args.text.now c.loop-at.at c.loop-at-test.true (sym c.has.ensures ∙ c.if-has.true) in
    (omega arith, ap (λ ts. c.loop-at.tokens ++ ts) (sym step) ∙ c.loop-at.invariant.1)

pub loop-at-smaller : goal.loop-at-smaller
loop-at-smaller c = omega (arith, c.in_ok-token.ensures.size, length-drop c.loop-at.at c.args.text.now)

pub overflow_add-at-else-has : goal.overflow_add-at-else-has
overflow_add-at-else-has c = omega (arith, c.in_ok-token.ensures.size, length-drop c.loop-at.at c.args.text.now)

pub loop-at-preserved : goal.loop-at-preserved
loop-at-preserved c =
    let text = c.args.text.now in let at = c.loop-at.at in let n = c.in_ok-token.len in
    let slice : take (length text - at) (drop at text) ≡ drop at text = take_all (length text - at) (drop at text) (omega (arith, length-drop at text)) in
    let long : n ≤ length (drop at text) = omega (arith, c.in_ok-token.ensures.size, length-drop at text) in
    let found : (c.in_ok-token.token, n) ≡ spec.first (drop at text) = c.in_ok-token.ensures.token ∙ ap spec.first slice in
    let step = at_token text at n c.loop-at-test.true (sym c.has.ensures ∙ c.if-has.false) (ap (λ p. p.1) (sym found)) c.in_ok-token.ensures.size.0 long in
    let word : c.in_ok-token.token ≡ (spec.first (drop at text)).0 = ap (λ p. p.0) found in (
      omega (arith, length-drop at text),
      rw (c.in_ok-push.ensures.ok, append_assoc, word)
          (ap (λ ts. c.loop-at.tokens ++ ts) (sym step) ∙ c.loop-at.invariant.1),
    )

pub returns : goal.returns
returns c =
    let over : drop c.loop-at.at c.args.text.now ≡ [] = drop_all c.loop-at.at c.args.text.now c.loop-at-test.false in
    let there : c.loop-at.at ≡ length c.args.text.now = omega arith in
    rw c.in_ok-push-2.ensures.ok (ap (λ ts. c.loop-at.tokens ++ ts) (ap (λ at. record { at = at; token = t.End } ∷ []) (sym there) ∙ sym (ap (spec.lexed c.loop-at.at 0) over ∙ at_end c.loop-at.at)) ∙ c.loop-at.invariant.1)
