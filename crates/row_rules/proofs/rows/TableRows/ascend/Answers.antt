use Rattle.std.proofs.Common.{◌≡◌, ◌+◌, ◌-◌, ◌<◌, Some, Less, drop, int_cmp, length, subst, sym, arith, rules}
use Rattle.std.specs.Option.{option_map}
use Rattle.std.specs.Prelude.{slice_get}
use Rattle.row_rules.specs.Rows.{Ascends}
use Rattle.row_rules.proofs.Places.{ascends_earlier, ascends_last}
use Rattle.row_rules.proofs.rows.TableRows.ascend.Goals as goal

pub loop-at-init : goal.loop-at-init
loop-at-init g c =
    let rows = g.Self.TableRows.rows c.args.self.now in
    (omega arith, ascends_last rows (c.count-at.result - 1) (omega arith))

pub loop-at-preserved : goal.loop-at-preserved
loop-at-preserved g c =
    let rows = g.Self.TableRows.rows c.args.self.now in
    let at = c.loop-at.at - 1 - 1 in
    let next : at + 1 ≡ c.loop-at.at - 1 = omega arith in
    let within : at + 1 < length rows = omega arith in
    let after : Ascends (drop (at + 1) rows) = subst (λ n. Ascends (drop n rows)) (sym next) c.loop-at.invariant.1 in
    let of_next = subst (λ n. option_map (λ row. row.key) (slice_get rows n) ≡ Some c.key_at-in-loop-at.result) (sym next) c.key_at-in-loop-at.ensures in
    let less : int_cmp c.key_at.result c.key_at-in-loop-at.result ≡ Less = search rules in
    (omega arith, ascends_earlier rows at c.key_at.result c.key_at-in-loop-at.result within c.key_at.ensures of_next less after)
