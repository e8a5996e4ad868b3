use Rattle.std.proofs.Common.{rules}
use Rattle.std.proofs.lemmas.Str.{chars_from_encodes}
use Rattle.sql_eval.proofs.cast.text_call.Goals as goal

pub returns-in-Length : goal.returns-in-Length
returns-in-Length c = search (rules, chars_from_encodes)
