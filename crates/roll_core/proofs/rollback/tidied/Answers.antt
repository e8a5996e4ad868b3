use Rattle.roll_core.proofs.Words.{AreKept, Goes, List, None, Ok, Rollback, Stored, ap, map, meaning, parts, refl, rollback, seen, subst, sym, tidied_back_parts, tidied_table, ◌≡◌, ◌∙◌}
use Rattle.roll_core.specs.Seen.{OwnTable as StoredTable}
use Rattle.roll_core.proofs.Stepped.{same_parts, tidies_back}
use Rattle.roll_core.proofs.rollback.tidied.Goals as goal

pub returns : goal.returns
returns c =
    let old : Stored = parts c.args.frame.now c.args.former.now c.args.tables.now.items in
    let tables = c.in_ok-next.ensures ∙ ap (λ (ts : List StoredTable). map tidied_table (map seen ts)) c.deref.ensures.value in
    let new : Stored = parts c.tidied_frame.new.frame None c.in_ok-next.next.items in
    let is : new ≡ tidied_back_parts old = same_parts c.tidied_frame.new.frame _ None None (map seen c.in_ok-next.next.items) _ c.tidied_frame.ensures refl tables in
    let next = tidies_back old c.requires.stored c.requires.left in
    record {
      goes = subst (Goes old (rollback (meaning old)) (Ok (Rollback 2))) (sym is) next.0;
      stored = is;
      changes = refl;
      kept = subst AreKept (sym is) next.1;
      err = tt;
    }
