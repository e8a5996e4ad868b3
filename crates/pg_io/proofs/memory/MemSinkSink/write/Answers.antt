use Rattle.std.proofs.Common.{ap, arith}
use Rattle.pg_io.proofs.memory.MemSinkSink.write.Goals as goal

pub returns-then-is_due-clause-cause : goal.returns-then-is_due-clause-cause
returns-then-is_due-clause-cause c =
    let was = ap (λ s. s.faults) c.self.view_is in
    record { later = omega (arith, was, c.if-is_due.ensures.later); failed = omega (arith, was, c.if-is_due.ensures.due); passed = tt }

pub returns-then-is_err-clause-cause : goal.returns-then-is_err-clause-cause
returns-then-is_err-clause-cause c =
    let was = ap (λ s. s.faults) c.self.view_is in
    record { later = omega (arith, was, c.if-is_due.ensures.passed, c.fail.ensures.later); failed = omega (arith, was, c.if-is_due.ensures.passed, c.fail.ensures.faults); passed = tt }
