use Rattle.std.proofs.Common.{◌++◌, ◌∙◌, ap, sym, append_assoc, codes, decimal}
use Rattle.std.proofs.lemmas.Int.{to_z-of_z}
use Rattle.std.specs.Fmt.{signed_decimal}
use Rattle.report.specs.Lines.{three_words}
use Rattle.report.proofs.Joining.{three_pushed}
use Rattle.report.proofs.telling.push_fill.Goals as goal

pub returns : goal.returns
returns c =
    let first = c.ranges.first in
    let last = c.ranges.last in
    let batch = simp to_z-of_z at c.in_ok-push_batch.ensures in
    let rows = three_words (decimal c.args.count) (signed_decimal c.args.first) (signed_decimal c.args.last) in
    let named = three_pushed (codes "FILL ") c.args.table.now (codes " ") c.args.out.now.items c.extend_from_slice.new.self.items c.extend_from_slice-2.new.self.items c.extend_from_slice-3.new.self.items
    c.in_ok-extend_from_slice.ensures.items (rw c.as_slice.ensures at c.in_ok-extend_from_slice-2.ensures.items) c.in_ok-extend_from_slice-3.ensures.items in
    three_pushed (codes "FILL " ++ (c.args.table.now ++ codes " ")) rows (codes "\n") c.args.out.now.items c.extend_from_slice-3.new.self.items c.push_batch.new.out.items c.extend_from_slice-4.new.self.items
    named batch c.in_ok-extend_from_slice-4.ensures.items
    ∙ ap (λ line. c.args.out.now.items ++ (codes "FILL " ++ line))
    (append_assoc c.args.table.now (codes " ") (rows ++ codes "\n") ∙ sym (append_assoc c.args.table.now (codes " " ++ rows) (codes "\n")))
