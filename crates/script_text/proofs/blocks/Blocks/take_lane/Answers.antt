use Rattle.std.proofs.Common.{◌≡◌, true, false, refl, rules, sym, ◌∙◌}
use Rattle.script_text.specs.Building.{has_room}
use Rattle.script_text.proofs.Standing.{lane_stands, room_is}
use Rattle.script_text.proofs.blocks.Blocks.take_lane.Goals as goal

pub returns-then-not-has_room : goal.returns-then-not-has_room
returns-then-not-has_room c before stands =
    let room : has_room c.args.self.now.lanes.items c.args.name ≡ false = search rules in
    (sym room ∙ room_is c.args.self.now before c.args.name c.args.version stands, λ e. cc)

pub returns : goal.returns
returns c before stands =
    let room : has_room c.args.self.now.lanes.items c.args.name ≡ true = search rules in (
      sym room ∙ room_is c.args.self.now before c.args.name c.args.version stands,
      λ _. lane_stands c.args.self.now _ before c.args.name c.args.version stands (search rules) refl refl refl,
    )
