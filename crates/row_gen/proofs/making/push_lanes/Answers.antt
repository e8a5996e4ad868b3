use Rattle.std.proofs.Common.{◌≡◌, ◌+◌, ◌-◌, ◌++◌, [], arith, codes, refl, sym, ap, ◌∙◌, length, append-nil}
use Rattle.std.specs.List.{flat_map, range_with_len}
use Rattle.row_gen.specs.Draws.{state_after}
use Rattle.row_gen.specs.Listing.{lane_lines, text_of}
use Rattle.row_gen.proofs.Listings.{lane_is, no_key, states_more}
use Rattle.row_gen.proofs.Turns.{ends_pushed, no_more_lanes, one_more_lane}
use Rattle.row_gen.proofs.making.push_lanes.Goals as goal

pub loop-lane-init : goal.loop-lane-init
loop-lane-init c =
    let whole : c.args.lanes - 0 ≡ c.args.lanes = omega arith in
    record {
      text = rw whole refl;
      state = sym (ap (λ keys. state_after c.args.draws.now.state (length keys)) (no_key c.args.lanes (range_with_len 1 c.args.rows)));
    }

pub loop-lane-preserved : goal.loop-lane-preserved
loop-lane-preserved c =
    let lane = c.loop-lane.lane in
    let out = c.loop-lane.out.items in
    let lines_of = lane_lines c.args.draws.now.state c.args.rows c.args.lanes in
    let rest = text_of (flat_map lines_of (range_with_len (lane + 1) (c.args.lanes - (lane + 1)))) in
    let state = c.loop-lane.invariant.state in
    let lines = lane_is c.args.draws.now.state c.loop-lane.draws.state c.args.rows c.args.lanes lane state in
    let pushed = c.in_ok-push_lane.ensures.text ∙ ap (λ ls. out ++ text_of ls) (sym lines) in
    record {
      text = ap (λ b. b ++ rest) pushed ∙ sym (one_more_lane lines_of out lane c.args.lanes c.loop-lane-test.true) ∙ c.loop-lane.invariant.text;
      state = states_more c.args.draws.now.state c.loop-lane.draws.state c.push_lane.new.draws.state c.args.rows c.args.lanes lane state c.in_ok-push_lane.ensures.state;
    }

pub returns : goal.returns
returns c =
    let lanes = c.args.lanes in
    let lines_of = lane_lines c.args.draws.now.state c.args.rows lanes in
    let last : c.loop-lane.lane ≡ lanes = omega arith in
    let none : flat_map lines_of (range_with_len c.loop-lane.lane (lanes - c.loop-lane.lane)) ≡ [] =
    ap (λ x. flat_map lines_of (range_with_len x (lanes - x))) last ∙ no_more_lanes lines_of lanes in
    let text = rw none at c.loop-lane.invariant.text in
    ends_pushed c.args.out.now.items c.loop-lane.out.items c.push_line.new.out.items c.push_line-2.new.out.items
    (codes "control") (codes "\\fill") (flat_map lines_of (range_with_len 0 lanes))
    (sym (append-nil c.loop-lane.out.items) ∙ text)
    c.in_ok-push_line.ensures c.in_ok-push_line-2.ensures
