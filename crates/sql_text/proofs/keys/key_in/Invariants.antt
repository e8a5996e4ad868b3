use Rattle.std.proofs.Common.{◌≡◌, drop}
use Rattle.std.specs.List.{find}
use Rattle.std.specs.Str.{str_eq_ignore_ascii_case}
use Rattle.sql_text.specs.Keys.{spelling}
use Rattle.sql_text.proofs.keys.key_in.Given as goal

abbrev pub invariant-loop-key : goal.invariant-loop-key
invariant-loop-key l =
    find (λ key. str_eq_ignore_ascii_case l.word (spelling key)) (drop l.key-index l.keys) ≡ find (λ key. str_eq_ignore_ascii_case l.word (spelling key)) l.keys
