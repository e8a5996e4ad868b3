use Rattle.roll_core.proofs.Words.{AreKept, Complete, Goes, List, Ok, Old, Some, Stored, ap, complete, left_parts, map, may_not_complete, meaning, parts, refl, seen, subst, sym, ◌≡◌, ◌∙◌}
use Rattle.roll_core.specs.Seen.{OwnTable as StoredTable}
use Rattle.roll_core.proofs.Completing.{finish_refused, finishes, may_leave}
use Rattle.roll_core.proofs.complete.finish.Goals as goal

pub returns-in-Some-clause-goes : goal.returns-in-Some-clause-goes
returns-in-Some-clause-goes c =
    let tables = map seen c.args.tables.now.items in
    let may : may_not_complete c.args.frame.now tables ≡ Some c.in-Some.refusal = ap (λ (ts : List StoredTable). may_not_complete c.args.frame.now (map seen ts)) (sym c.deref.ensures.value) ∙ sym c.in_ok-refusal.ensures ∙ c.in-Some.is in
    (finish_refused c.laws_below.ensures c.args.frame.now tables c.in-Some.refusal c.requires.stored.stands c.requires.none c.requires.active may, refl {a = parts c.args.frame.now c.args.former.now c.args.tables.now.items})

pub returns : goal.returns
returns c =
    let frame = c.args.frame.now in
    let old : Stored = parts frame c.args.former.now c.args.tables.now.items in
    let is : parts c.leave.new.frame c.leave.new.former c.leave.new.tables.items ≡ left_parts Old old = c.in_ok-leave.ensures.stored in
    let may = ap (λ (ts : List StoredTable). may_not_complete frame (map seen ts)) (sym c.deref.ensures.value) ∙ sym c.in_ok-refusal.ensures ∙ c.in_default.is in
    let step = finishes c.laws_below.ensures old c.requires.stored c.requires.none c.requires.active may in
    record {
      goes = subst (Goes old (complete (meaning old)) (Ok (Complete 1))) (sym is) step.0;
      stored = is;
      changes = refl;
      kept = subst AreKept (sym is) step.1;
    }

pub leave-requires : goal.leave-requires
leave-requires c =
    let old : Stored = parts c.args.frame.now c.args.former.now c.args.tables.now.items in
    let may = ap (λ (ts : List StoredTable). may_not_complete c.args.frame.now (map seen ts)) (sym c.deref.ensures.value) ∙ sym c.in_ok-refusal.ensures ∙ c.in_default.is in
    may_leave c.laws_below.ensures old c.requires.stored c.requires.active may
