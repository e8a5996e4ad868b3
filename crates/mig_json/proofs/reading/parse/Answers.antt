use Rattle.std.proofs.Common.{sym, arith}
use Rattle.mig_json.proofs.Texts.{json_in-Some, json_in-None}
use Rattle.mig_json.proofs.reading.parse.Goals as goal

pub returns-in-Ok : goal.returns-in-Ok
returns-in-Ok c = sym (json_in-Some c.args.text.now _ c.in-Ok.ensures.ok.0 c.in-Ok.ensures.ok.1)

pub returns-else-is_memory : goal.returns-else-is_memory
returns-else-is_memory c =
    sym (json_in-None c.args.text.now (c.in-Err.ensures.err (λ memory. grind (arith, c.is_memory.ensures.1 memory, c.if-is_memory.false))))
