use Rattle.std.proofs.Common.{◌≡◌, sym, ◌∙◌, false, true, drop}
use Rattle.std.proofs.lemmas.Bool.{ne_eqb, eq-eqb}
use Rattle.sql_text.specs.Lexing.{literal}
use Rattle.sql_text.proofs.Literals.{behind, passed_byte, passed_quote, passed_double}
use Rattle.sql_text.proofs.lexer.literal.Goals as goal

pub loop-at-preserved-then-byte-ne39 : goal.loop-at-preserved-then-byte-ne39
loop-at-preserved-then-byte-ne39 c =
    let step = passed_byte c.args.rest.now c.loop-at.value.items c.loop-at.at c.loop-at-test.true (ne_eqb _ _ c.if-byte-ne39.true) in
    let so_far : behind c.loop-at.value.items c.loop-at.at (literal false (drop c.loop-at.at c.args.rest.now)) ≡ literal false c.args.rest.now = rw c.if-after_quote.false at c.loop-at.invariant in
    rw (c.if-after_quote.false, c.in_ok-push.ensures.items) (sym step ∙ so_far)

pub loop-at-preserved-then-after_quote-2 : goal.loop-at-preserved-then-after_quote-2
loop-at-preserved-then-after_quote-2 c =
    let step = passed_double c.args.rest.now c.loop-at.value.items c.loop-at.at c.loop-at-test.true (eq-eqb _ _ c.if-byte-ne39.false) in
    let so_far : behind c.loop-at.value.items c.loop-at.at (literal true (drop c.loop-at.at c.args.rest.now)) ≡ literal false c.args.rest.now = rw c.if-after_quote-2.true at c.loop-at.invariant in
    rw c.in_ok-push-2.ensures.items (sym step ∙ so_far)

pub loop-at-preserved : goal.loop-at-preserved
loop-at-preserved c =
    let step = passed_quote c.args.rest.now c.loop-at.value.items c.loop-at.at c.loop-at-test.true (eq-eqb _ _ c.if-byte-ne39.false) in
    let so_far : behind c.loop-at.value.items c.loop-at.at (literal false (drop c.loop-at.at c.args.rest.now)) ≡ literal false c.args.rest.now = rw c.if-after_quote-2.false at c.loop-at.invariant in
    sym step ∙ so_far
