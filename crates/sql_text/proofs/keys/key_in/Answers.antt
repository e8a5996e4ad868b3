use Rattle.std.proofs.Common.{rules, sym, ◌∙◌}
use Rattle.std.specs.Str.{str_eq_ignore_ascii_case}
use Rattle.sql_text.specs.Keys.{spelling}
use Rattle.sql_text.specs.declared.keys.Key.TheVariants as k
use Rattle.sql_text.proofs.Runs.{find_past}
use Rattle.sql_text.proofs.keys.key_in.Goals as goal

pub loop-key-preserved : goal.loop-key-preserved
loop-key-preserved c =
    sym (find_past (λ key. str_eq_ignore_ascii_case c.args.word.now (spelling key)) c.args.keys.now c.loop-key.key-index k.And c.loop-key-test.true (search rules))
    ∙ c.loop-key.invariant
