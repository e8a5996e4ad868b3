use Rattle.std.proofs.lemmas.Result.{err_from_is_err_and}
use Rattle.pg_io.specs.declared.recorded.Call.TheVariants.{Cut}
use Rattle.pg_io.proofs.Replayed.{made_seen, may_cut_seen, may_cut_crash}
use Rattle.pg_io.proofs.recorded.MemDiskDisk.cut.Goals as goal

pub returns-in_err-counted_cut-clause-cut_or_not : goal.returns-in_err-counted_cut-clause-cut_or_not
returns-in_err-counted_cut-clause-cut_or_not c =
    let p = err_from_is_err_and c.from_residual.result c.from_residual.ensures.1 in
    rw p.1 (may_cut_seen c.args.len c.args.self.now c.counted_cut.new.self c.counted_cut.ensures.cut_or_not)

pub returns-in_err-counted_cut-clause-crash : goal.returns-in_err-counted_cut-clause-crash
returns-in_err-counted_cut-clause-crash c = may_cut_crash c.args.len c.args.self.now c.counted_cut.new.self c.counted_cut.ensures.cut_or_not

pub returns-clause-cut : goal.returns-clause-cut
returns-clause-cut c = made_seen (Cut c.args.len) c.args.self.now c.counted_cut.new.self c.in_ok-counted_cut.ensures.cut

pub returns-clause-crash : goal.returns-clause-crash
returns-clause-crash c = may_cut_crash c.args.len c.args.self.now c.counted_cut.new.self c.counted_cut.ensures.cut_or_not
