use Rattle.std.proofs.Common.{◌++◌, ◌∙◌, ap, codes, decimal}
use Rattle.report.specs.Lines.{member_text}
use Rattle.report.proofs.Joining.{four_pushed, on_ok}
use Rattle.report.proofs.refused.push_place.Goals as goal

pub returns : goal.returns
returns c =
    on_ok c.push-3.result
    (λ last. four_pushed (codes "operations[") (decimal c.args.place.now.operation) (codes "].") (member_text c.args.place.now.member) c.args.out.now.items c.push.new.out.items c.push_count.new.out.items c.push-2.new.out.items c.push-3.new.out.items
    c.in_ok-push.ensures c.in_ok-push_count.ensures c.in_ok-push-2.ensures (last ∙ ap (λ word. c.push-2.new.out.items ++ word) c.member_text.ensures))
    c.push-3.ensures
