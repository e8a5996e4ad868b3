use Rattle.std.proofs.Common.{sym, ◌∙◌}
use Rattle.words.proofs.Names.{quoted_no_plain}
use Rattle.words.proofs.forms.plain_name.Goals as goal

pub returns-then-is_quoted : goal.returns-then-is_quoted
returns-then-is_quoted c = sym (quoted_no_plain c.args.text.now (sym c.is_quoted.ensures ∙ c.if-is_quoted.true))
