use Rattle.std.proofs.Common.{codes}
use Rattle.report.proofs.Joining.{four_pushed}
use Rattle.report.proofs.telling.push_start.Goals as goal

pub returns : goal.returns
returns c =
    four_pushed (codes "START ") (codes "public_") c.args.name.now (codes "\n") c.args.out.now.items c.extend_from_slice.new.self.items c.extend_from_slice-2.new.self.items c.extend_from_slice-3.new.self.items c.extend_from_slice-4.new.self.items
    c.in_ok-extend_from_slice.ensures.items c.in_ok-extend_from_slice-2.ensures.items (rw c.as_slice.ensures at c.in_ok-extend_from_slice-3.ensures.items) c.in_ok-extend_from_slice-4.ensures.items
