use Rattle.std.proofs.Common.{length}
use Rattle.std.proofs.lemmas.Result.{err_from_is_err_and}
use Rattle.pg_io.proofs.Replayed.{writes_holds, may_write_ticks, may_write_torn, may_write_crash}
use Rattle.pg_io.proofs.recorded.MemDiskDisk.write_at.Goals as goal

pub returns-in_err-counted_write-clause-torn : goal.returns-in_err-counted_write-clause-torn
returns-in_err-counted_write-clause-torn c =
    let p = err_from_is_err_and c.from_residual.result c.from_residual.ensures.1 in
    rw p.1 (may_write_torn c.args.at (length c.args.bytes.now) c.args.self.now c.counted_write.new.self c.requires c.counted_write.ensures.torn)

pub returns-in_err-counted_write-clause-crash : goal.returns-in_err-counted_write-clause-crash
returns-in_err-counted_write-clause-crash c = may_write_crash c.args.at (length c.args.bytes.now) c.args.self.now c.counted_write.new.self c.requires c.counted_write.ensures.torn

pub returns-in_err-counted_write-clause-time : goal.returns-in_err-counted_write-clause-time
returns-in_err-counted_write-clause-time c = may_write_ticks c.args.at (length c.args.bytes.now) c.args.self.now c.counted_write.new.self c.counted_write.ensures.torn

pub returns-clause-written : goal.returns-clause-written
returns-clause-written c = writes_holds c.args.at c.args.bytes.now c.args.self.now c.counted_write.new.self c.in_ok-counted_write.ensures.written

pub returns-clause-crash : goal.returns-clause-crash
returns-clause-crash c = may_write_crash c.args.at (length c.args.bytes.now) c.args.self.now c.counted_write.new.self c.requires c.counted_write.ensures.torn

pub returns-clause-time : goal.returns-clause-time
returns-clause-time c = may_write_ticks c.args.at (length c.args.bytes.now) c.args.self.now c.counted_write.new.self c.counted_write.ensures.torn
