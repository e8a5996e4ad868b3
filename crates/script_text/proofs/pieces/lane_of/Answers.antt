use Rattle.std.proofs.Common.{sym, ◌∙◌}
use Rattle.script_text.proofs.Heads.{no_lane}
use Rattle.script_text.proofs.pieces.lane_of.Goals as goal

pub returns-then-end-rest : goal.returns-then-end-rest
returns-then-end-rest c = sym (no_lane c.args.rest.now (sym c.place_of-end.ensures.place ∙ c.if-end-rest.true))
