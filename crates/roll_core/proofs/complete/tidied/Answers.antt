use Rattle.roll_core.proofs.Words.{former_seen, option_map, ◌≡◌, Ok, sym, subst, Goes, AreKept, Complete, complete, meaning, tidied_parts, ◌∙◌, ap, map, refl, List, parts, seen, tidied_table, Stored}
use Rattle.roll_core.specs.Seen.{OwnTable as StoredTable}
use Rattle.roll_core.proofs.Stepped.{same_parts, tidies}
use Rattle.roll_core.proofs.complete.tidied.Goals as goal

pub returns : goal.returns
returns c =
    let old : Stored = parts c.args.frame.now c.args.former.now c.args.tables.now.items in
    let tables = c.in_ok-next.ensures ∙ ap (λ (ts : List StoredTable). map tidied_table (map seen ts)) c.deref.ensures.value in
    let new : Stored = parts c.next_step.new.frame c.next_step.new.former c.in_ok-next.next.items in
    let is : new ≡ tidied_parts old = same_parts c.next_step.new.frame _ (option_map former_seen c.next_step.new.former) _ (map seen c.in_ok-next.next.items) _ c.next_step.ensures.frame c.next_step.ensures.former tables in
    let next = tidies c.laws_below.ensures old c.requires.stored c.requires.left in
    record {
      goes = subst (Goes old (complete (meaning old)) (Ok (Complete c.next_step.result))) (sym is) (rw c.next_step.ensures.number next.0);
      stored = is;
      changes = refl;
      kept = subst AreKept (sym is) next.1;
      err = tt;
    }
