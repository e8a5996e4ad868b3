use Rattle.pg_io.proofs.Replayed.{may_sync_seen, may_sync_crash, sync_only}
use Rattle.pg_io.proofs.recorded.MemDiskDisk.sync.Goals as goal

pub returns-in_err-counted_sync-clause-seen : goal.returns-in_err-counted_sync-clause-seen
returns-in_err-counted_sync-clause-seen c = may_sync_seen c.args.self.now c.counted_sync.new.self c.counted_sync.ensures.synced_or_not

pub returns-in_err-counted_sync-clause-crash : goal.returns-in_err-counted_sync-clause-crash
returns-in_err-counted_sync-clause-crash c = may_sync_crash c.args.self.now c.counted_sync.new.self c.counted_sync.ensures.synced_or_not

pub returns-clause-durable : goal.returns-clause-durable
returns-clause-durable c = sync_only c.args.self.now c.counted_sync.new.self c.in_ok-counted_sync.ensures.synced

pub returns-clause-seen : goal.returns-clause-seen
returns-clause-seen c = may_sync_seen c.args.self.now c.counted_sync.new.self c.counted_sync.ensures.synced_or_not

pub returns-clause-crash : goal.returns-clause-crash
returns-clause-crash c = may_sync_crash c.args.self.now c.counted_sync.new.self c.counted_sync.ensures.synced_or_not
