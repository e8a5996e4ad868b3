use Rattle.std.proofs.Common.{◌/◌, length, take, ap, inr, arith, length-take}
use Rattle.pg_io.proofs.Replayed.{may_write_of, may_put_of, writes_of}
use Rattle.pg_io.proofs.recorded.MemDisk.counted_write.Goals as goal

pub returns-then-is_due-clause-torn : goal.returns-then-is_due-clause-torn
returns-then-is_due-clause-torn c =
    may_write_of c.args.at (take (length c.args.bytes.now / 2) c.args.bytes.now) c.args.self.now c.is_due.new.self c.put.new.self (ap (λ m. m.first) c.if-is_due.ensures.due) (ap (λ m. m.calls) c.if-is_due.ensures.due)
    (length c.args.bytes.now) c.put.result (omega (arith, length-take (length c.args.bytes.now / 2) c.args.bytes.now)) c.put.ensures.put c.put.ensures.same

pub returns-in-Ok-clause-written : goal.returns-in-Ok-clause-written
returns-in-Ok-clause-written c =
    writes_of c.args.at c.args.bytes.now c.args.self.now c.is_due.new.self c.put-2.new.self (ap (λ m. m.first) c.if-is_due.ensures.passed) (ap (λ m. m.calls) c.if-is_due.ensures.passed) c.in-Ok.ensures.put

pub returns-in-Ok-clause-torn : goal.returns-in-Ok-clause-torn
returns-in-Ok-clause-torn c =
    inr (
      c.args.bytes.now,
      omega arith,
      writes_of c.args.at c.args.bytes.now c.args.self.now c.is_due.new.self c.put-2.new.self (ap (λ m. m.first) c.if-is_due.ensures.passed) (ap (λ m. m.calls) c.if-is_due.ensures.passed) c.in-Ok.ensures.put,
    )

pub returns-then-is_due-clause-half : goal.returns-then-is_due-clause-half
returns-then-is_due-clause-half c =
    may_put_of c.args.at (take (length c.args.bytes.now / 2) c.args.bytes.now) c.args.self.now c.is_due.new.self c.put.new.self (ap (λ m. m.first) c.if-is_due.ensures.due) (ap (λ m. m.calls) c.if-is_due.ensures.due)
    c.put.result c.put.ensures.put c.put.ensures.same
