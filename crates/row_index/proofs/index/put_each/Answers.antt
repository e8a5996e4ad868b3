use Rattle.row_index.specs.Changes.{put_each}
use Rattle.row_index.specs.Indexes.{entries_of}
use Rattle.row_index.proofs.Looping.{each_end}
use Rattle.row_index.proofs.index.put_each.Goals as goal

pub returns : goal.returns
returns c =
    let wanted = put_each c.args.prepared (entries_of c.args.indexes.now) in
    each_end c.loop-changes.changes-iterator.rest.items c.loop-changes.indexes c.loop-changes.at c.loop-changes.changes-iterator.rest.len wanted c.in-None.ensures.steps.0 c.loop-changes.invariant.2 c.loop-changes.invariant.4
