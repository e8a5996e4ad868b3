use Rattle.std.proofs.Common.{◌≡◌, ◌≤◌, ◌∙◌, map, subst, sym, List}
use Rattle.std.specs.List.{AllByRecursion}
use Rattle.sql_text.specs.declared.tokens.Placed.{Placed}
use Rattle.sql_text.specs.Lexing.{lexed}
use Rattle.sql_parse.specs.Reader.{Answers, IsEnded}
use Rattle.sql_parse.specs.Reading.{kinds}
use Rattle.sql_base.specs.Tree.{depth}
use Rattle.sql_parse.specs.Grammar.{IsText}
use Rattle.sql_parse.proofs.Complete.{one_tree}
use Rattle.sql_parse.proofs.Exprs.{its_text, again}
use Rattle.sql_parse.proofs.Told.{fails, only, small_places}
use Rattle.sql_parse.proofs.parse.parse_expr.Goals as goal

pub read_tokens-requires-clause-ended : goal.read_tokens-requires-clause-ended
read_tokens-requires-clause-ended c =
    let is : c.as_slice.result.now ≡ lexed 0 0 c.args.text.now = c.as_slice.ensures ∙ c.in_ok-tokens.ensures in
    let P : List Placed → Type 0 = λ ps. IsEnded (kinds ps) in subst P (sym is) (c.tokens_end.ensures c.args.text.now)

pub read_tokens-requires-clause-places : goal.read_tokens-requires-clause-places
read_tokens-requires-clause-places c =
    let is : c.as_slice.result.now ≡ lexed 0 0 c.args.text.now = c.as_slice.ensures ∙ c.in_ok-tokens.ensures in
    let P : List Placed → Type 0 = λ ps. AllByRecursion (λ at. at ≤ 65536) (map (λ p. p.at) ps) in
    subst P (sym is) (small_places (map (λ p. p.at) (lexed 0 0 c.args.text.now)) _ c.requires (c.places_are_inside.ensures c.args.text.now))

pub returns-clause-only : goal.returns-clause-only
returns-clause-only c a reads =
    let is : c.as_slice.result.now ≡ lexed 0 0 c.args.text.now = c.as_slice.ensures ∙ c.in_ok-tokens.ensures in
    let P : List Placed → Type 0 = λ ps. Answers IsText depth ps c.read_tokens.result in
    only one_tree depth (lexed 0 0 c.args.text.now) c.read_tokens.result (subst P is c.read_tokens.ensures) a reads.0 reads.1

pub returns-clause-fault : goal.returns-clause-fault
returns-clause-fault c =
    let is : c.as_slice.result.now ≡ lexed 0 0 c.args.text.now = c.as_slice.ensures ∙ c.in_ok-tokens.ensures in
    let P : List Placed → Type 0 = λ ps. Answers IsText depth ps c.read_tokens.result in
    fails IsText depth c.args.text.now c.read_tokens.result (subst P is c.read_tokens.ensures)

pub returns-clause-text : goal.returns-clause-text
returns-clause-text c =
    let is : c.as_slice.result.now ≡ lexed 0 0 c.args.text.now = c.as_slice.ensures ∙ c.in_ok-tokens.ensures in
    let P : List Placed → Type 0 = λ ps. Answers IsText depth ps c.read_tokens.result in
    its_text c.args.text.now c.read_tokens.result c.trees_have_text.ensures (subst P is c.read_tokens.ensures)

pub returns-clause-again : goal.returns-clause-again
returns-clause-again c =
    let is : c.as_slice.result.now ≡ lexed 0 0 c.args.text.now = c.as_slice.ensures ∙ c.in_ok-tokens.ensures in
    let P : List Placed → Type 0 = λ ps. Answers IsText depth ps c.read_tokens.result in
    again c.args.text.now c.read_tokens.result c.read_back.ensures (subst P is c.read_tokens.ensures)
