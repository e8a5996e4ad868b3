use Rattle.std.proofs.Common.{◌≡◌, ◌-◌, ◌++◌}
use Rattle.std.specs.List.{flat_map, range_with_len}
use Rattle.row_gen.specs.Draws.{state_after}
use Rattle.row_gen.specs.Listing.{keys_before, lane_lines, text_of}
use Rattle.row_gen.proofs.making.push_lanes.Given as goal

abbrev pub invariant-loop-lane : goal.invariant-loop-lane
invariant-loop-lane l = record {
  text : l.out.items ++ text_of (flat_map (lane_lines l.initial.draws.state l.rows l.lanes) (range_with_len l.lane (l.lanes - l.lane)))
      ≡ l.initial.out.items ++ text_of (flat_map (lane_lines l.initial.draws.state l.rows l.lanes) (range_with_len 0 l.lanes));
  state : l.draws.state ≡ state_after l.initial.draws.state (keys_before l.rows l.lanes l.lane);
}
