use Rattle.std.proofs.Common.{◌≤◌, ◌<◌, ◌∙◌, length, arith}
use Rattle.uniq_index.specs.Indexed.{Indexed}
use Rattle.row_index.proofs.Looping.{room_more, same_entries}
use Rattle.row_index.proofs.index.reserve_each.Goals as goal

pub returns-in_err-reserve-clause-same : goal.returns-in_err-reserve-clause-same
returns-in_err-reserve-clause-same c =
    let within : c.loop-index.index-index < length c.loop-index.indexes = omega arith in
    same_entries c.loop-index.indexes c.loop-index.index-index c.index-item.result c.reserve.new.self within c.in_err-reserve.ensures.same ∙ c.loop-index.invariant.0

pub loop-index-preserved : goal.loop-index-preserved
loop-index-preserved c =
    let within : c.loop-index.index-index < length c.loop-index.indexes = omega arith in (
      same_entries c.loop-index.indexes c.loop-index.index-index c.index-item.result c.reserve.new.self within c.in_ok-reserve.ensures.same ∙ c.loop-index.invariant.0,
      room_more (λ (index : Indexed). c.args.n ≤ index.spare) c.loop-index.indexes c.loop-index.index-index c.reserve.new.self within c.loop-index.invariant.1 c.in_ok-reserve.ensures.room,
    )
