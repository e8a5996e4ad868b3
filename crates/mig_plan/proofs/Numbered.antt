-- The numbers of the tables that a plan creates: each is the next one.
use Rattle.std.proofs.Common.{◌≡◌, ◌∙◌, ℕ, zero, suc, ◌+◌, ◌≤◌, List, [], ◌∷◌, ◌++◌, Bool, true, false, not, ◌||◌, Option, Some, None, Ok, if◌then◌else◌, length, map, ap, refl, sym, subst, arith, length-append}
use Rattle.std.specs.Prelude.{◌==◌, codes, nat_lt}
use Rattle.std.specs.List.{cons_option, filter_map, list_any, range_with_len}
use Rattle.std.specs.Option.{ok_or, option_map}
use Rattle.std.proofs.lemmas.Bool.Decides.{nat_tests}
use Rattle.sql_base.specs.declared.exprs.Expr.{Expr}
use Rattle.sql_base.specs.declared.shapes.Schema.{Schema}
use Rattle.sql_base.specs.Laws.{all_true, and_then_ok}
use Rattle.mig_lens.specs.declared.faults.PlanFault.{PlanFault}
use Rattle.mig_lens.specs.declared.faults.PlanFault.TheVariants.{BadExpr, Limit, NoSuchColumn}
use Rattle.mig_lens.specs.declared.migrations.ColumnDef.{ColumnDef}
use Rattle.mig_lens.specs.declared.migrations.Migration.{Migration}
use Rattle.mig_lens.specs.declared.migrations.Op.{Op}
use Rattle.mig_lens.specs.declared.migrations.Op.TheVariants as op
use Rattle.mig_lens.specs.declared.plans.Plan.{Plan}
use Rattle.mig_lens.specs.Laws.{AllBelow, IsBelow, IsSchema, numbers_differ}
use Rattle.mig_lens.specs.Plan.{created_in, created_number}
use Rattle.mig_plan.specs.declared.drafts.Draft.{Draft}
use Rattle.mig_plan.specs.declared.drafts.DraftColumn.{DraftColumn}
use Rattle.mig_plan.specs.declared.drafts.DraftTable.{DraftTable}
use Rattle.mig_plan.specs.Columns.{altered, standing, with_altered, with_column, with_name, without_column}
use Rattle.mig_plan.specs.Constraints.{constraint_columns, dropped, pairs_for, with_constraint, with_made, without_constraint}
use Rattle.mig_plan.specs.Draft.{in_place, linked, with_table}
use Rattle.mig_plan.specs.Finish.{fate, fate_of, finished, new_table as planned_table, shape_of}
use Rattle.mig_plan.specs.Laws.{CreatedTablesAreNumbered, PlannedFatesDiffer, PlannedNumbersFit, PlansStayBelow}
use Rattle.mig_plan.specs.Places.{first_bad}
use Rattle.mig_plan.specs.Plan.{all_done, begun, changed, done, kept, on_table, plan_of, title_of, typed}
use Rattle.mig_plan.specs.Tables.{create_fault, is_full, kinds_fault, max_table, new_table, room_fault, table_created, taken_fault}
use Rattle.mig_plan.specs.Versions.{Table, without_fault}
use Rattle.mig_plan.proofs.Created.{new_table_sound}
use Rattle.mig_plan.proofs.Each.{Each, Pairwise, each_append, each_found, each_mapped}
use Rattle.mig_plan.proofs.Fine.{or_none, when_none, without_fault_ok}
use Rattle.mig_plan.proofs.Names.{neither}
use Rattle.mig_plan.proofs.Planned.{begun_is, begun_sound}
use Rattle.mig_plan.proofs.Sound.{TableSound}
use Rattle.mig_plan.proofs.Whole.{Apart, DraftSound, changed_soundly, done_soundly, found_stood, put_number, table_of}

-- ---- which numbers are created

-- the numbers of a draft's tables that the old version lacks
abbrev created : List DraftTable → List ℕ
created ts = created_in (map fate_of ts)

abbrev created_of : DraftTable → Option ℕ
created_of t = created_number t.number (fate t.stood t.name t.columns)

abbrev made_number : Bool → ℕ → Option ℕ
made_number true number = None
made_number false number = Some number

by_stood : (number : ℕ) (stood : Bool) (name : Option (List ℕ)) (cs : List DraftColumn) → created_number number (fate stood name cs) ≡ made_number stood number
by_stood number false name cs = refl
by_stood number true None cs = refl
by_stood number true (Some n) cs = refl

created_by : (t : DraftTable) (stood : Bool) (number : ℕ) → t.stood ≡ stood → t.number ≡ number → created_of t ≡ made_number stood number
created_by t stood number s n = by_stood t.number t.stood t.name t.columns ∙ ap (λ b. made_number b t.number) s ∙ ap (made_number stood) n

created_more : (ts : List DraftTable) (t : DraftTable) (number : ℕ) → created_of t ≡ Some number → created (ts ++ t ∷ []) ≡ created ts ++ number ∷ []
created_more [] t number h = ap (λ o. cons_option o []) h
created_more (u ∷ ts) t number h = by_number (created_of u) (created_more ts t number h)
  where
    by_number : (o : Option ℕ) → created (ts ++ t ∷ []) ≡ created ts ++ number ∷ [] → cons_option o (created (ts ++ t ∷ [])) ≡ cons_option o (created ts) ++ number ∷ []
    by_number None more = more
    by_number (Some n) more = ap (λ ns. n ∷ ns) more

range_more : (a n : ℕ) → range_with_len a (suc n) ≡ range_with_len a n ++ (a + n) ∷ []
range_more a zero = let e : a ≡ a + 0 = omega arith in ap (λ m. m ∷ []) e
range_more a (suc n) =
    let e : (a + 1) + n ≡ a + suc n = omega arith in
    ap (λ ns. a ∷ ns) (range_more (a + 1) n ∙ ap (λ m. range_with_len (a + 1) n ++ m ∷ []) e)

-- ---- a draft whose new tables are numbered

-- The new tables have the numbers from the first on, one after the other; those of the others are below it.
record Numbered (first : ℕ) (d : Draft) : Type 0 where
  numbers : created d.tables ≡ range_with_len first (length (created d.tables))
  next : d.next_table ≡ first + length (created d.tables)
  stood : Each (λ t. t.stood ≡ nat_lt t.number first) d.tables

-- The same of any schema: the new tables are no more than the numbers given, and these have 32 bits where the first has.
record Few (first : ℕ) (d : Draft) : Type 0 where
  room : first + length (created d.tables) ≤ d.next_table
  fits : first ≤ 4294967295 → d.next_table ≤ 4294967295

-- ---- a table is put

put_stood : (first : ℕ) (next t : DraftTable) → next.stood ≡ true → nat_lt next.number first ≡ true → t.stood ≡ nat_lt t.number first → (in_place next t).stood ≡ t.stood
put_stood first next t stood low h = by_test (t.number == next.number) refl
  where
    by_test : (b : Bool) → (t.number == next.number) ≡ b → (if b then next else t).stood ≡ t.stood
    by_test true g =
        let same : t.number ≡ next.number = grind (arith, nat_tests) in
        stood ∙ sym (h ∙ ap (λ n. nat_lt n first) same ∙ low)
    by_test false g = refl

put_created : (first : ℕ) (next : DraftTable) → next.stood ≡ true → nat_lt next.number first ≡ true → (ts : List DraftTable) → Each (λ t. t.stood ≡ nat_lt t.number first) ts → created (map (in_place next) ts) ≡ created ts
put_created first next stood low [] h = refl
put_created first next stood low (t ∷ ts) h =
    let one = created_by (in_place next t) t.stood t.number (put_stood first next t stood low h.0) (put_number next t) ∙ sym (created_by t t.stood t.number refl refl) in
    let more = put_created first next stood low ts h.1 in
    ap (λ o. cons_option o (created (map (in_place next) ts))) one ∙ ap (cons_option (created_of t)) more

put_numbered : (first : ℕ) (d : Draft) (next : DraftTable) → next.stood ≡ true → nat_lt next.number first ≡ true → Numbered first d → Numbered first (with_table next d)
put_numbered first d next stood low n =
    let same = put_created first next stood low d.tables n.stood in
    record {
      numbers = subst (λ ns. ns ≡ range_with_len first (length ns)) (sym same) n.numbers;
      next = subst (λ ns. d.next_table ≡ first + length ns) (sym same) n.next;
      stood = each_mapped (λ t. t.stood ≡ nat_lt t.number first) (λ t. t.stood ≡ nat_lt t.number first) (in_place next) (λ t h. put_stood first next t stood low h ∙ h ∙ sym (ap (λ m. nat_lt m first) (put_number next t))) d.tables n.stood;
    }

on_table_numbered : (old : Schema) (at : ℕ) (o : Op) (first : ℕ) (d next : Draft) → DraftSound old d → Numbered first d → on_table old at o d ≡ Ok next → Numbered first next
on_table_numbered old at o first d next s n h =
    let a = table_of old at o d next h in
    let was = each_found (TableSound old) _ d.tables a.table a.is_found s.tables in
    let change = changed_soundly old at o d a.table a.made was a.is_made in
    let stood = found_stood (title_of o) d.tables a.table a.is_found in
    let before = each_found (λ t. t.stood ≡ nat_lt t.number first) _ d.tables a.table a.is_found n.stood in
    let low = ap (λ m. nat_lt m first) change.number ∙ sym before ∙ stood in
    subst (Numbered first) a.is (put_numbered first d a.made (change.stood ∙ stood) low n)

-- ---- a table is put, in any draft

without_stood : (fault : Option PlanFault) (value next : DraftTable) (stood : Bool) → value.stood ≡ stood → without_fault fault value ≡ Ok next → next.stood ≡ stood
without_stood fault value next stood is h =
    let a = without_fault_ok fault value next h in
    subst (λ (u : DraftTable). u.stood ≡ stood) a.1 is

constraint_stood : (at : ℕ) (name : List ℕ) (columns : List (List ℕ)) (check : Option Expr) (t : DraftTable) → (with_constraint at name columns check t).stood ≡ t.stood
constraint_stood at name columns None t = refl
constraint_stood at name columns (Some expr) t = refl

changed_stood : (old : Schema) (at : ℕ) (o : Op) (d : Draft) (t next : DraftTable) → changed old at o d t ≡ Ok next → next.stood ≡ t.stood
changed_stood old at (op.CreateTable title columns) d t next h = let is : t ≡ next = cc in subst (λ (u : DraftTable). u.stood ≡ t.stood) is refl
changed_stood old at (op.DropTable title) d t next h = let is : record t { name = None } ≡ next = cc in subst (λ (u : DraftTable). u.stood ≡ t.stood) is refl
changed_stood old at (op.RenameTable from to) d t next h = without_stood _ (record t { name = Some to }) next t.stood refl h
changed_stood old at (op.AddColumn title column up) d t next h = without_stood _ (with_column title column up (Some at) at t) next t.stood refl h
changed_stood old at (op.DropColumn title name down) d t next h =
    let a = and_then_ok (standing title t name) _ next h in
    without_stood _ (without_column name down at t) next t.stood refl a.2
changed_stood old at (op.RenameColumn title from to) d t next h =
    let a = and_then_ok (standing title t from) _ next h in
    without_stood _ (with_name from to at a.0.1 t) next t.stood refl a.2
changed_stood old at (op.AlterColumn title name ty nullable default unique check up down) d t next h =
    let a = and_then_ok (standing title t name) _ next h in
    without_stood _ (with_altered name (linked a.0.0.before (altered a.0.1 ty nullable default) up down at) unique check at t) next t.stood refl a.2
changed_stood old at (op.CreateConstraint title name columns check up down) d t next h =
    without_stood _ (with_made up down at (with_constraint at name columns check t)) next t.stood (constraint_stood at name columns check t) h
changed_stood old at (op.DropConstraint title name up down) d t next h =
    let a = and_then_ok (ok_or (constraint_columns title t name) (NoSuchColumn title name)) (dropped at title name up down t) next h in
    without_stood _ (with_made (pairs_for a.0 up) (pairs_for a.0 down) at (without_constraint name t)) next t.stood refl a.2

longer : (o : Option ℕ) (xs ys : List ℕ) → length xs ≤ length ys → length xs ≤ length (cons_option o ys)
longer None xs ys h = h
longer (Some n) xs ys h = omega arith

longer_both : (o : Option ℕ) (xs ys : List ℕ) → length xs ≤ length ys → length (cons_option o xs) ≤ length (cons_option o ys)
longer_both None xs ys h = h
longer_both (Some n) xs ys h = omega arith

put_fewer : (next : DraftTable) → next.stood ≡ true → (ts : List DraftTable) → length (created (map (in_place next) ts)) ≤ length (created ts)
put_fewer next stood [] = omega arith
put_fewer next stood (t ∷ ts) = by_test (t.number == next.number) (put_fewer next stood ts)
  where
    by_test : (b : Bool) → length (created (map (in_place next) ts)) ≤ length (created ts) → length (cons_option (created_of (if b then next else t)) (created (map (in_place next) ts))) ≤ length (created (t ∷ ts))
    by_test true more =
        subst (λ o. length (cons_option o (created (map (in_place next) ts))) ≤ length (created (t ∷ ts))) (sym (created_by next true next.number stood refl))
        (longer (created_of t) (created (map (in_place next) ts)) (created ts) more)
    by_test false more = longer_both (created_of t) (created (map (in_place next) ts)) (created ts) more

on_table_few : (old : Schema) (at : ℕ) (o : Op) (first : ℕ) (d next : Draft) → Few first d → on_table old at o d ≡ Ok next → Few first next
on_table_few old at o first d next n h =
    let a = table_of old at o d next h in
    let stood = changed_stood old at o d a.table a.made a.is_made ∙ found_stood (title_of o) d.tables a.table a.is_found in
    let fewer = put_fewer a.made stood d.tables in
    let before = n.room in
    subst (Few first) a.is (record { room = omega arith; fits = n.fits })

-- ---- a table is created

no_room : (next : ℕ) → nat_lt max_table next ≡ false → next + 1 ≤ 4294967295
no_room next h = grind (arith, nat_tests)

not_lower : (first n : ℕ) → nat_lt (first + n) first ≡ false
not_lower first n = grind (arith, nat_tests)

-- One table more, of the next number.
record OneMore (d next : Draft) : Type 0 where
  table : DraftTable
  stood : table.stood ≡ false
  number : table.number ≡ d.next_table
  room : d.next_table + 1 ≤ 4294967295
  is : record { tables = d.tables ++ table ∷ []; next_table = d.next_table + 1 } ≡ next
  more : created (d.tables ++ table ∷ []) ≡ created d.tables ++ d.next_table ∷ []
  long : length (created d.tables ++ d.next_table ∷ []) ≡ suc (length (created d.tables))

one_more : (old : Schema) (at : ℕ) (title : List ℕ) (columns : List ColumnDef) (d next : Draft) → table_created old at title columns d ≡ Ok next → OneMore d next
one_more old at title columns d next h =
    let made = new_table at title columns d.next_table in
    let a = without_fault_ok (create_fault old at title columns d) (record { tables = d.tables ++ made ∷ []; next_table = d.next_table + 1 }) next h in
    let new = new_table_sound old at title columns d a.0 in
    let kinds = or_none (taken_fault old at title columns d) _ a.0 in
    let room = or_none (kinds_fault at title columns) (room_fault d) kinds.1 in
    let free = neither (nat_lt max_table d.next_table) (is_full d) (when_none (nat_lt max_table d.next_table || is_full d) (Limit (codes "tables")) room.1) in
    record {
      table = made;
      stood = new.stood;
      number = new.number_;
      room = no_room d.next_table free.0;
      is = a.1;
      more = created_more d.tables made d.next_table (created_by made false d.next_table new.stood new.number_);
      long = length-append (created d.tables) (d.next_table ∷ []) ∙ omega arith;
    }

created_few : (first : ℕ) (d next : Draft) → OneMore d next → Few first d → Few first next
created_few first d next m n =
    let before = n.room in
    let long = m.long in
    let more : first + length (created d.tables ++ d.next_table ∷ []) ≤ d.next_table + 1 = omega arith in
    subst (Few first) m.is (record { room = subst (λ ns. first + length ns ≤ d.next_table + 1) (sym m.more) more; fits = λ small. m.room })

created_numbered : (first : ℕ) (d next : Draft) → OneMore d next → Numbered first d → Numbered first next
created_numbered first d next m n =
    let ns = created d.tables in
    let is_next = n.next in
    let long = m.long in
    let after : d.next_table + 1 ≡ first + length (ns ++ d.next_table ∷ []) = omega arith in
    let above : nat_lt m.table.number first ≡ false = ap (λ k. nat_lt k first) (m.number ∙ n.next) ∙ not_lower first (length ns) in
    subst (Numbered first) m.is
    (record {
      numbers = subst (λ ms. ms ≡ range_with_len first (length ms)) (sym m.more) (ap (λ ms. ms ++ d.next_table ∷ []) n.numbers ∙ ap (λ k. range_with_len first (length ns) ++ k ∷ []) n.next ∙ sym (range_more first (length ns)) ∙ ap (range_with_len first) (sym long));
      next = subst (λ ms. d.next_table + 1 ≡ first + length ms) (sym m.more) after;
      stood = each_append (λ t. t.stood ≡ nat_lt t.number first) d.tables (m.table ∷ []) n.stood (m.stood ∙ sym above, tt);
    })

-- ---- all operations

done_numbered : (old : Schema) (at : ℕ) (o : Op) (first : ℕ) (d next : Draft) → DraftSound old d → Numbered first d → done old at o d ≡ Ok next → Numbered first next
done_numbered old at (op.CreateTable title columns) first d next s n h = created_numbered first d next (one_more old at title columns d next h) n
done_numbered old at (op.DropTable title) first d next s n h = on_table_numbered old at (op.DropTable title) first d next s n h
done_numbered old at (op.RenameTable from to) first d next s n h = on_table_numbered old at (op.RenameTable from to) first d next s n h
done_numbered old at (op.AddColumn title column up) first d next s n h = on_table_numbered old at (op.AddColumn title column up) first d next s n h
done_numbered old at (op.DropColumn title name down) first d next s n h = on_table_numbered old at (op.DropColumn title name down) first d next s n h
done_numbered old at (op.RenameColumn title from to) first d next s n h = on_table_numbered old at (op.RenameColumn title from to) first d next s n h
done_numbered old at (op.AlterColumn title name ty nullable default unique check up down) first d next s n h = on_table_numbered old at (op.AlterColumn title name ty nullable default unique check up down) first d next s n h
done_numbered old at (op.CreateConstraint title name columns check up down) first d next s n h = on_table_numbered old at (op.CreateConstraint title name columns check up down) first d next s n h
done_numbered old at (op.DropConstraint title name up down) first d next s n h = on_table_numbered old at (op.DropConstraint title name up down) first d next s n h

all_numbered : (old : Schema) (at : ℕ) (ops : List Op) (first : ℕ) (d next : Draft) → DraftSound old d → Numbered first d → all_done old at ops d ≡ Ok next → DraftSound old next × Numbered first next
all_numbered old at [] first d next s n h = let is : d ≡ next = cc in (subst (DraftSound old) is s, subst (Numbered first) is n)
all_numbered old at (o ∷ ops) first d next s n h =
    let a = and_then_ok (done old at o d) (all_done old (at + 1) ops) next h in
    all_numbered old (at + 1) ops first a.0 next (done_soundly old at o d a.0 s a.1) (done_numbered old at o first d a.0 s n a.1) a.2

done_few : (old : Schema) (at : ℕ) (o : Op) (first : ℕ) (d next : Draft) → Few first d → done old at o d ≡ Ok next → Few first next
done_few old at (op.CreateTable title columns) first d next n h = created_few first d next (one_more old at title columns d next h) n
done_few old at (op.DropTable title) first d next n h = on_table_few old at (op.DropTable title) first d next n h
done_few old at (op.RenameTable from to) first d next n h = on_table_few old at (op.RenameTable from to) first d next n h
done_few old at (op.AddColumn title column up) first d next n h = on_table_few old at (op.AddColumn title column up) first d next n h
done_few old at (op.DropColumn title name down) first d next n h = on_table_few old at (op.DropColumn title name down) first d next n h
done_few old at (op.RenameColumn title from to) first d next n h = on_table_few old at (op.RenameColumn title from to) first d next n h
done_few old at (op.AlterColumn title name ty nullable default unique check up down) first d next n h = on_table_few old at (op.AlterColumn title name ty nullable default unique check up down) first d next n h
done_few old at (op.CreateConstraint title name columns check up down) first d next n h = on_table_few old at (op.CreateConstraint title name columns check up down) first d next n h
done_few old at (op.DropConstraint title name up down) first d next n h = on_table_few old at (op.DropConstraint title name up down) first d next n h

all_few : (old : Schema) (at : ℕ) (ops : List Op) (first : ℕ) (d next : Draft) → Few first d → all_done old at ops d ≡ Ok next → Few first next
all_few old at [] first d next n h = let is : d ≡ next = cc in subst (Few first) is n
all_few old at (o ∷ ops) first d next n h =
    let a = and_then_ok (done old at o d) (all_done old (at + 1) ops) next h in
    all_few old (at + 1) ops first a.0 next (done_few old at o first d a.0 n a.1) a.2

-- ---- the beginning

kept_created : (ts : List Table) → created (map kept ts) ≡ []
kept_created [] = refl
kept_created (t ∷ ts) = kept_created ts

kept_stood : (next : ℕ) (ts : List Table) → AllBelow next ts → Each (λ t. t.stood ≡ nat_lt t.number next) (map kept ts)
kept_stood next [] h = tt
kept_stood next (t ∷ ts) h =
    let low = h.0 in
    let here : true ≡ nat_lt t.1 next = grind (arith, nat_tests) in
    (here, kept_stood next ts h.1)

begun_numbered : (old : Schema) (next : ℕ) (d : Draft) → IsBelow next old → begun old next ≡ Ok d → Numbered next d
begun_numbered old next d below h =
    let none = kept_created old.tables in
    let same : next ≡ next + 0 = omega arith in
    subst (Numbered next) (begun_is old next d h)
    (record {
      numbers = subst (λ ns. ns ≡ range_with_len next (length ns)) (sym none) refl;
      next = subst (λ ns. next ≡ next + length ns) (sym none) same;
      stood = kept_stood next old.tables below;
    })

begun_few : (old : Schema) (next : ℕ) (d : Draft) → begun old next ≡ Ok d → Few next d
begun_few old next d h =
    let none = kept_created old.tables in
    let no_more : next + 0 ≤ next = omega arith in
    subst (Few next) (begun_is old next d h) (record { room = subst (λ ns. next + length ns ≤ next) (sym none) no_more; fits = λ small. small })

-- ---- the laws

record Counted (old : Schema) (first : ℕ) (plan : Plan) : Type 0 where
  draft : Draft
  sound : DraftSound old draft
  numbered : Numbered first draft
  is : finished draft ≡ plan

counted : (old : Schema) (next_table : ℕ) (m : Migration) (plan : Plan) → IsSchema old → IsBelow next_table old → plan_of old next_table m ≡ Ok plan → Counted old next_table plan
counted old next_table m plan is below h =
    let a = and_then_ok (begun old next_table) _ plan h in
    let b = and_then_ok (all_done old 0 m.operations a.0) (typed old) plan a.2 in
    let c = without_fault_ok (option_map BadExpr (first_bad old b.0.tables)) (finished b.0) plan b.2 in
    let all = all_numbered old 0 m.operations next_table a.0 b.0 (begun_sound old next_table a.0 is below a.1) (begun_numbered old next_table a.0 below a.1) b.1 in
    record { draft = b.0; sound = all.0; numbered = all.1; is = c.1 }

pub created_tables_are_numbered : CreatedTablesAreNumbered
created_tables_are_numbered old next_table m plan is below h =
    let c = counted old next_table m plan is below h in
    subst (λ (p : Plan). created_in p.fates ≡ range_with_len next_table (length (created_in p.fates))) c.is c.numbered.numbers

tables_below : (next : ℕ) (ts : List DraftTable) → Each (λ t. nat_lt t.number next ≡ true) ts → AllBelow next (filter_map planned_table ts)
tables_below next [] h = tt
tables_below next (t ∷ ts) h = by_name t.name (tables_below next ts h.1)
  where
    by_name : (name : Option (List ℕ)) → AllBelow next (filter_map planned_table ts) → AllBelow next (cons_option (option_map (λ n. (n, t.number, shape_of t)) name) (filter_map planned_table ts))
    by_name None more = more
    by_name (Some n) more = (let low = h.0 in grind (arith, nat_tests), more)

pub plans_stay_below : PlansStayBelow
plans_stay_below old next_table m plan is below h =
    let c = counted old next_table m plan is below h in
    let under = tables_below c.draft.next_table c.draft.tables c.sound.below in
    subst (λ (p : Plan). IsBelow (next_table + length (created_in p.fates)) p.schema) c.is (subst (λ n. AllBelow n (filter_map planned_table c.draft.tables)) c.numbered.next under)

pub planned_numbers_fit : PlannedNumbersFit
planned_numbers_fit old next_table m plan small h =
    let a = and_then_ok (begun old next_table) _ plan h in
    let b = and_then_ok (all_done old 0 m.operations a.0) (typed old) plan a.2 in
    let c = without_fault_ok (option_map BadExpr (first_bad old b.0.tables)) (finished b.0) plan b.2 in
    let few = all_few old 0 m.operations next_table a.0 b.0 (begun_few old next_table a.0 a.1) b.1 in
    let room = few.room in
    let fits = few.fits small in
    let all : next_table + length (created b.0.tables) ≤ 4294967295 = omega arith in
    subst (λ (p : Plan). next_table + length (created_in p.fates) ≤ 4294967295) c.1 all

number_apart : (number : ℕ) (t : DraftTable) (ts : List DraftTable) → t.number ≡ number → Each (Apart t) ts → list_any (λ m. m == number) (map (λ f. f.0) (map fate_of ts)) ≡ false
number_apart number t [] n h = refl
number_apart number t (u ∷ ts) n h =
    let differ = h.0.1 in
    let apart : (u.number == number) ≡ false = grind (arith, nat_tests) in
    rw apart (number_apart number t ts n h.1)

fates_differ : (ts : List DraftTable) → Pairwise Apart ts → numbers_differ (map (λ f. f.0) (map fate_of ts)) ≡ true
fates_differ [] h = refl
fates_differ (t ∷ ts) h = all_true (not (list_any (λ m. m == t.number) (map (λ f. f.0) (map fate_of ts)))) (numbers_differ (map (λ f. f.0) (map fate_of ts))) (ap not (number_apart t.number t ts refl h.0)) (fates_differ ts h.1)

pub planned_fates_differ : PlannedFatesDiffer
planned_fates_differ old next_table m plan is below h =
    let c = counted old next_table m plan is below h in
    subst (λ (p : Plan). numbers_differ (map (λ f. f.0) p.fates) ≡ true) c.is (fates_differ c.draft.tables c.sound.apart)
