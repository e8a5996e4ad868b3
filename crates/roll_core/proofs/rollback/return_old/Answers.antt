use Rattle.roll_core.proofs.Words.{AreKept, Goes, New, Ok, Rollback, Stored, left_parts, map, meaning, parts, refl, rollback, seen, subst, sym, ◌≡◌}
use Rattle.roll_core.proofs.Returning.{all_may_leave, returns_old}
use Rattle.roll_core.proofs.rollback.return_old.Goals as goal

pub returns : goal.returns
returns c =
    let old : Stored = parts c.args.frame.now c.args.former.now c.args.tables.now.items in
    let is : parts c.leave.new.frame c.leave.new.former c.leave.new.tables.items ≡ left_parts New old = c.in_ok-leave.ensures.stored in
    let step = returns_old c.laws_below.ensures old c.requires.stored c.requires.none c.requires.active in
    record {
      goes = subst (Goes old (rollback (meaning old)) (Ok (Rollback 1))) (sym is) step.0;
      stored = is;
      changes = refl;
      kept = subst AreKept (sym is) step.1;
      err = tt;
    }

pub leave-requires : goal.leave-requires
leave-requires c = all_may_leave (map seen c.args.tables.now.items)
