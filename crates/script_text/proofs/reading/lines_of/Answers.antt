use Rattle.std.proofs.Common.{sym, ◌∙◌}
use Rattle.script_text.proofs.ReadOn.{more_read}
use Rattle.script_text.proofs.reading.lines_of.Goals as goal

pub loop-rest-preserved-in_ok-push : goal.loop-rest-preserved-in_ok-push
loop-rest-preserved-in_ok-push g c =
    more_read g.L.LineForm.said c.args.text.now c.loop-rest.rest.now c.split_line.result.0.now c.split_line.result.1.now c.loop-rest.number c.loop-rest.lines c.push.new.self c.in_ok-line_at.field-0
    c.loop-rest.invariant c.split_line.ensures.lines c.split_line.ensures.less (sym c.is_passed.ensures ∙ c.if-not-is_passed.true) c.in_ok-line_at.ensures c.in_ok-push.ensures.ok
