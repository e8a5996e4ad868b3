use Rattle.roll_core.proofs.Words.{arith, former_seen, option_map, sym, Option, OwnFormer, Goes, AreKept, ◌≡◌, Err, List, Ok, map, refl, subst, start_read, Answers, meant, parts, seen, startable}
use Rattle.roll_core.specs.Seen.{OwnTable as StoredTable}
use Rattle.roll_core.proofs.Starting.{numbers_fit, start_refused, startable_ok, starts, stops}
use Rattle.roll_core.proofs.Stepped.{same_parts}
use Rattle.roll_core.proofs.Words.reply_of
use Rattle.roll_core.proofs.start.start_read.Goals as goal

pub returns-in-Err-clause-goes : goal.returns-in-Err-clause-goes
returns-in-Err-clause-goes c former =
    let s = meant c.args.frame.now (map seen c.args.tables.now.items) in
    stops (parts c.args.frame.now former c.args.tables.now.items) (start_read s c.args.m.now) (startable s c.args.m.now) c.in-Err.stop (subst (λ (ts : List StoredTable). Answers (startable (meant c.args.frame.now (map seen ts)) c.args.m.now) (Err c.in-Err.stop)) c.deref.ensures.value c.in-Err.ensures) (start_refused s c.args.m.now)

pub begin-requires : goal.begin-requires
begin-requires c =
    let m = c.args.m.now in
    let s = meant c.args.frame.now (map seen c.args.tables.now.items) in
    let by : startable s m ≡ Ok c.in-Ok.plan = subst (λ (ts : List StoredTable). startable (meant c.args.frame.now (map seen ts)) m ≡ Ok c.in-Ok.plan) c.deref.ensures.value c.in-Ok.ensures in
    numbers_fit c.laws_below.ensures s m c.in-Ok.plan (omega arith) (startable_ok s m c.in-Ok.plan by).1

pub returns : goal.returns
returns c =
    let frame = c.args.frame.now in
    let m = c.args.m.now in
    let tables = map seen c.args.tables.now.items in
    let new = map seen c.begin.new.tables.items in
    let s = meant frame tables in
    let by : startable s m ≡ Ok c.in-Ok.plan = subst (λ (ts : List StoredTable). startable (meant frame (map seen ts)) m ≡ Ok c.in-Ok.plan) c.deref.ensures.value c.in-Ok.ensures in
    let is = λ (former : Option OwnFormer). same_parts c.begin.new.frame _ (option_map former_seen former) _ new _ c.in_ok-begin.ensures.frame refl c.in_ok-begin.ensures.tables in
    let started = λ (former : Option OwnFormer). starts c.laws_below.ensures frame (option_map former_seen former) tables m c.in-Ok.plan c.requires by in
    record {
      goes = λ former. subst (Goes (parts frame former c.args.tables.now.items) (start_read s m) (Ok (reply_of.Start c.in_ok-copy.field-0))) (sym (is former))
          (rw c.in_ok-copy.ensures (started former).0);
      stored = λ former. (c.in-Ok.plan, (startable_ok s m c.in-Ok.plan by).1, is former);
      changes = refl;
      kept = λ former k. subst AreKept (sym (is former)) ((started former).1 k);
    }
