-- Texts of literals.
use Rattle.std.proofs.Common.{◌≡◌, ℕ, List, Option, Some, None, subst}
use Rattle.std.specs.Prelude.{MatchOption}
use Rattle.sql_base.specs.declared.exprs.Expr.{Expr}
use Rattle.sql_base.specs.declared.exprs.Expr.TheVariants.{Lit}
use Rattle.sql_base.specs.declared.values.Value.{Value}
use Rattle.sql_text.specs.Lexing.{tokens_of}
use Rattle.sql_parse.specs.Laws.{OneTree}
use Rattle.mig_json.specs.Demand.{IsExpression}

pub literal_reads : OneTree → (text : List ℕ) (a : Expr) → IsExpression text a → (o : Option Value) → MatchOption o ((v : Value) → a ≡ Lit v → ⊥) (λ v. a ≡ Lit v) →
    MatchOption o ((v : Value) → IsExpression text (Lit v) → ⊥) (λ v. IsExpression text (Lit v))
literal_reads law text a is None h = λ v it. h v (law (tokens_of text) a (Lit v) is.reads.0 it.reads.0)
literal_reads law text a is (Some v) h = subst (λ (b : Expr). IsExpression text b) h is

pub literal_found : OneTree → (text : List ℕ) (found : Option Expr) (a : Expr) → found ≡ Some a → MatchOption found ((a : Expr) → IsExpression text a → ⊥) (λ a. IsExpression text a) →
    (o : Option Value) → MatchOption o ((v : Value) → a ≡ Lit v → ⊥) (λ v. a ≡ Lit v) → MatchOption o ((v : Value) → IsExpression text (Lit v) → ⊥) (λ v. IsExpression text (Lit v))
literal_found law text found a e is o h =
    let P : Option Expr → Type 0 = λ o. MatchOption o ((a : Expr) → IsExpression text a → ⊥) (λ a. IsExpression text a) in literal_reads law text a (subst P e is) o h
