use Rattle.std.proofs.Common.{length}
use Rattle.journal.proofs.Moments.{synced_moments}
use Rattle.journal.proofs.through.write_through.Goals as goal

pub returns-in_err-sync-clause-moments : goal.returns-in_err-sync-clause-moments
returns-in_err-sync-clause-moments g c told =
    synced_moments g.D.Disk.moment g.D.Disk.seen g.D.Disk.may_leave g.D.Disk.left_since (g.met.D.Disk.counts_now told) (g.met.D.Disk.only_now told)
    c.args.disk.now c.write_at.new.self c.args.at (length c.args.bytes.now) (c.requires.durable told) (c.write_at.ensures.crash told) (c.write_at.ensures.time told)
    c.sync.new.self (c.sync.ensures.crash told) (c.sync.ensures.time told)

pub returns-clause-moments : goal.returns-clause-moments
returns-clause-moments g c told =
    synced_moments g.D.Disk.moment g.D.Disk.seen g.D.Disk.may_leave g.D.Disk.left_since (g.met.D.Disk.counts_now told) (g.met.D.Disk.only_now told)
    c.args.disk.now c.write_at.new.self c.args.at (length c.args.bytes.now) (c.requires.durable told) (c.write_at.ensures.crash told) (c.write_at.ensures.time told)
    c.sync.new.self (c.sync.ensures.crash told) (c.sync.ensures.time told)
