use Rattle.std.proofs.Common.{rules}
use Rattle.sql_eval.proofs.NoZero.{has_zero-trimmed}
use Rattle.sql_eval.proofs.cast.trim.Goals as goal

pub from_string-requires : goal.from_string-requires
from_string-requires c = search (rules, has_zero-trimmed)
