use Rattle.std.proofs.Common.{codes}
use Rattle.std.proofs.lemmas.Str.Pattern.{starts_text}
use Rattle.mig_json.proofs.names.is_reserved.Goals as goal

pub returns : goal.returns
returns c = starts_text _ (codes "_pgroll_") c.args.text.now c.starts_with.ensures.cases
