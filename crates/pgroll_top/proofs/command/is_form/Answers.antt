use Rattle.std.proofs.Common.{◌∷◌, [], ap}
use Rattle.pgroll_top.proofs.Closing.{one_word}
use Rattle.pgroll_top.proofs.command.is_form.Goals as goal

pub returns-in-len1 : goal.returns-in-len1
returns-in-len1 c =
    let one = one_word c.args.words.now c.word-item.result c.in-len1.len_at_least c.in-len1.len_below c.word-item.is in
    rw one (λ t. ap (λ z. z ∷ []) (c.is_exec.ensures.0 t), λ e. c.is_exec.ensures.1 cc)
