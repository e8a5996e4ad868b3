use Rattle.std.proofs.Common.{codes}
use Rattle.report.specs.Lines.{place_text}
use Rattle.report.proofs.Joining.{three_pushed, on_ok}
use Rattle.report.proofs.refused.push_placed.Goals as goal

pub returns : goal.returns
returns c =
    on_ok c.push_place.result
    (three_pushed c.args.number.now (codes " ") (place_text c.args.place.now) c.args.out.now.items c.push.new.out.items c.push-2.new.out.items c.push_place.new.out.items c.in_ok-push.ensures c.in_ok-push-2.ensures)
    c.push_place.ensures
