use Rattle.std.proofs.Common.{subst, List}
use Rattle.std.specs.List.{AllByRecursion}
use Rattle.sql_text.specs.declared.tokens.Token.{Token}
use Rattle.sql_text.specs.Laws.{IsProper}
use Rattle.sql_parse.proofs.Returned.{has_its_text, front}
use Rattle.sql_parse.proofs.laws.trees_have_text.Goals as goal

pub returns : goal.returns
returns c = λ text a is. let P : List Token → Type 0 = λ ts. AllByRecursion IsProper ts in
    has_its_text is.reads (front is.tokens _ (subst P is.ends (c.tokens_are_proper.ensures text)))
