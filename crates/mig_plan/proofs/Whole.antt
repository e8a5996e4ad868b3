-- A draft of sound tables stays one: each operation, and all of them.
use Rattle.std.proofs.Common.{◌≡◌, ◌∙◌, ℕ, ◌+◌, List, [], ◌∷◌, ◌++◌, Bool, true, false, ◌&&◌, ◌||◌, ◌⊎◌, inl, inr, Option, Some, None, Ok, if◌then◌else◌, map, ap, refl, sym, subst, arith}
use Rattle.std.specs.Prelude.{◌==◌, find, is_some, nat_lt}
use Rattle.std.specs.List.{list_any}
use Rattle.std.specs.Option.{ok_or}
use Rattle.std.specs.Str.{bytes_eq}
use Rattle.std.proofs.lemmas.Bool.{false≢true}
use Rattle.std.proofs.lemmas.Bool.Decides.{nat_tests}
use Rattle.sql_base.specs.declared.shapes.Schema.{Schema}
use Rattle.sql_base.specs.Laws.{and_then_ok, both}
use Rattle.mig_plan.specs.declared.drafts.Draft.{Draft}
use Rattle.mig_plan.specs.declared.drafts.DraftTable.{DraftTable}
use Rattle.mig_lens.specs.declared.faults.PlanFault.TheVariants.{Exists, NoSuchTable}
use Rattle.mig_lens.specs.declared.migrations.ColumnDef.{ColumnDef}
use Rattle.mig_lens.specs.declared.migrations.Op.{Op}
use Rattle.mig_lens.specs.declared.migrations.Op.TheVariants as op
use Rattle.mig_plan.specs.Draft.{has_table, in_place, is_new_title, is_old_title, is_titled, table_meant, with_table}
use Rattle.mig_plan.specs.Plan.{all_done, changed, done, on_table, title_of}
use Rattle.mig_plan.specs.Tables.{create_fault, new_table, table_created, taken_fault}
use Rattle.mig_lens.specs.Laws.{AllBelow}
use Rattle.mig_plan.specs.Versions.{Table, table_numbered, when}
use Rattle.mig_plan.proofs.Created.{new_table_sound}
use Rattle.mig_plan.proofs.Each.{Each, Pairwise, each_append, each_both, each_found, each_mapped, each_more, pairwise_mapped, pairwise_more}
use Rattle.mig_plan.proofs.Fine.{each_not, ok_or_ok, or_none, when_none, without_fault_ok}
use Rattle.mig_plan.proofs.Making.{created_sound, freed_sound, retitled_sound}
use Rattle.mig_plan.proofs.Names.{neither, other_way}
use Rattle.mig_plan.proofs.Operations.{After_, added_sound, altered_sound, dropped_sound, renamed_sound}
use Rattle.mig_plan.proofs.Sound.{TableSound}

-- ---- drafts

abbrev pub TitlesDiffer : Option (List ℕ) → Option (List ℕ) → Type 0
TitlesDiffer (Some a) (Some b) = bytes_eq a b ≡ false
TitlesDiffer (Some a) None = Unit {0}
TitlesDiffer None p = Unit {0}

abbrev pub Apart : DraftTable → DraftTable → Type 0
Apart t u = TitlesDiffer t.name u.name × ((t.number == u.number) ≡ false)

-- A table that the old version lacks has a name in the new one.
abbrev pub NewOne : Schema → DraftTable → Type 0
NewOne old t = t.stood ≡ false → (is_some t.name ≡ true) × (table_numbered old t.number ≡ None)

pub record DraftSound (old : Schema) (d : Draft) : Type 0 where
  pub tables : Each (TableSound old) d.tables
  pub apart : Pairwise Apart d.tables
  pub below : Each (λ t. nat_lt t.number d.next_table ≡ true) d.tables
  pub old_below : AllBelow d.next_table old.tables
  pub new_ones : Each (NewOne old) d.tables
  -- each of the old version's tables is there
  pub has_olds : Each (λ o. list_any (λ n. n == o.1) (map (λ t. t.number) d.tables) ≡ true) old.tables

-- ---- the table of a number

abbrev pub Same : DraftTable → DraftTable → Type 0
Same table t = (t.number == table.number) ≡ true → t ≡ table

none_later : (table : DraftTable) (ts : List DraftTable) → Each (Apart table) ts → Each (Same table) ts
none_later table [] h = tt
none_later table (t ∷ ts) h = ((λ same. let differ = h.0.1 in absurd (grind (arith, nat_tests))), none_later table ts h.1)

found_apart : (q : DraftTable → Bool) (t table : DraftTable) (ts : List DraftTable) → Each (Apart t) ts → find q ts ≡ Some table → (t.number == table.number) ≡ false
found_apart q t table [] h k = cc
found_apart q t table (u ∷ ts) h k = by_test (found_apart q t table ts h.1) (q u) k
  where
    by_test : (find q ts ≡ Some table → (t.number == table.number) ≡ false) → (b : Bool) → (if b then Some u else find q ts) ≡ Some table → (t.number == table.number) ≡ false
    by_test more true g = let is : u ≡ table = cc in subst (λ v. (t.number == v.number) ≡ false) is h.0.1
    by_test more false g = more g

pub one_table : (q : DraftTable → Bool) (ts : List DraftTable) (table : DraftTable) → Pairwise Apart ts → find q ts ≡ Some table → Each (Same table) ts
one_table q [] table h k = tt
one_table q (t ∷ ts) table h k = by_test (one_table q ts table h.1) (q t) k
  where
    by_test : (find q ts ≡ Some table → Each (Same table) ts) → (b : Bool) → (if b then Some t else find q ts) ≡ Some table → Each (Same table) (t ∷ ts)
    by_test more true g = let is : t ≡ table = cc in ((λ same. is), subst (λ u. Each (Same u) ts) is (none_later t ts h.0))
    by_test more false g = ((λ same. absurd (false≢true (sym (found_apart q t table ts h.0 g) ∙ same))), more g)

-- ---- a table is put

-- The name that the table has then: the one before, none, or one that no table has.
abbrev TitleOk : Option (List ℕ) → Option (List ℕ) → DraftTable → Type 0
TitleOk before after t = (after ≡ before) ⊎ ((to : List ℕ) → after ≡ Some to → is_titled to t.name ≡ false)

abbrev PutOk : DraftTable → DraftTable → DraftTable → Type 0
PutOk table next t = Same table t × TitleOk table.name next.name t

pub put_number : (next t : DraftTable) → (in_place next t).number ≡ t.number
put_number next t = by_test (t.number == next.number) refl
  where
    by_test : (b : Bool) → (t.number == next.number) ≡ b → (if b then next else t).number ≡ t.number
    by_test true h = grind (arith, nat_tests)
    by_test false h = refl

differ_left : (before after other : Option (List ℕ)) (u : DraftTable) → u.name ≡ other → TitleOk before after u → TitlesDiffer before other → TitlesDiffer after other
differ_left before None other u e h k = tt
differ_left before (Some a) None u e h k = tt
differ_left before (Some a) (Some b) u e (inl same) k = subst (λ o. TitlesDiffer o (Some b)) (sym same) k
differ_left before (Some a) (Some b) u e (inr free) k = other_way b a (subst (λ o. is_titled a o ≡ false) e (free a refl))

differ_right : (before after other : Option (List ℕ)) (u : DraftTable) → u.name ≡ other → TitleOk before after u → TitlesDiffer other before → TitlesDiffer other after
differ_right before after None u e h k = tt
differ_right before None (Some b) u e h k = tt
differ_right before (Some a) (Some b) u e (inl same) k = subst (TitlesDiffer (Some b)) (sym same) k
differ_right before (Some a) (Some b) u e (inr free) k = subst (λ o. is_titled a o ≡ false) e (free a refl)

put_apart : (table next : DraftTable) → next.number ≡ table.number → (t u : DraftTable) → PutOk table next t → PutOk table next u → Apart t u → Apart (in_place next t) (in_place next u)
put_apart table next number t u p q h = (by_tests (t.number == next.number) (u.number == next.number) refl refl, subst (λ n. (n == (in_place next u).number) ≡ false) (sym (put_number next t)) (subst (λ n. (t.number == n) ≡ false) (sym (put_number next u)) h.1))
  where
    by_tests : (b c : Bool) → (t.number == next.number) ≡ b → (u.number == next.number) ≡ c → TitlesDiffer (if b then next else t).name (if c then next else u).name
    by_tests true true f g = let differ = h.1 in absurd (grind (arith, nat_tests))
    by_tests true false f g =
        let is : t ≡ table = p.0 (subst (λ n. (t.number == n) ≡ true) number f) in
        differ_left table.name next.name u.name u refl q.1 (subst (λ v. TitlesDiffer v.name u.name) is h.0)
    by_tests false true f g =
        let is : u ≡ table = q.0 (subst (λ n. (u.number == n) ≡ true) number g) in
        differ_right table.name next.name t.name t refl p.1 (subst (λ v. TitlesDiffer t.name v.name) is h.0)
    by_tests false false f g = h.0

put_one : (old : Schema) (next t : DraftTable) → TableSound old next → TableSound old t → TableSound old (in_place next t)
put_one old next t new was = by_test (t.number == next.number)
  where
    by_test : (b : Bool) → TableSound old (if b then next else t)
    by_test true = new
    by_test false = was

put_new : (old : Schema) (next t : DraftTable) → next.stood ≡ true → NewOne old t → NewOne old (in_place next t)
put_new old next t stood was = by_test (t.number == next.number)
  where
    by_test : (b : Bool) → NewOne old (if b then next else t)
    by_test true = λ no. absurd (false≢true (sym no ∙ stood))
    by_test false = was

numbers_put : (next : DraftTable) (ts : List DraftTable) → map (λ t. t.number) (map (in_place next) ts) ≡ map (λ t. t.number) ts
numbers_put next [] = refl
numbers_put next (t ∷ ts) =
    let here = put_number next t in
    let more = numbers_put next ts in
    cc

put_table : (old : Schema) (d : Draft) (table next : DraftTable) → DraftSound old d → TableSound old next → next.number ≡ table.number → next.stood ≡ true → Each (PutOk table next) d.tables → DraftSound old (with_table next d)
put_table old d table next s new number stood ok =
    record {
      tables = each_mapped (TableSound old) (TableSound old) (in_place next) (λ t was. put_one old next t new was) d.tables s.tables;
      apart = pairwise_mapped Apart (PutOk table next) (in_place next) (put_apart table next number) d.tables ok s.apart;
      below = each_mapped (λ t. nat_lt t.number d.next_table ≡ true) (λ t. nat_lt t.number d.next_table ≡ true) (in_place next) (λ t h. subst (λ n. nat_lt n d.next_table ≡ true) (sym (put_number next t)) h) d.tables s.below;
      old_below = s.old_below;
      new_ones = each_mapped (NewOne old) (NewOne old) (in_place next) (λ t was. put_new old next t stood was) d.tables s.new_ones;
      has_olds = subst (λ ns. Each {X = Table} (λ o. list_any (λ n. n == o.1) ns ≡ true) old.tables) (sym (numbers_put next d.tables)) s.has_olds;
    }

-- ---- one operation on a table

-- What an operation makes of a table.
pub record Change (old : Schema) (d : Draft) (t next : DraftTable) : Type 0 where
  pub sound : TableSound old next
  pub number : next.number ≡ t.number
  pub stood : next.stood ≡ t.stood
  pub title : Each (TitleOk t.name next.name) d.tables

same_title : (t next : DraftTable) → next.name ≡ t.name → (ts : List DraftTable) → Each (TitleOk t.name next.name) ts
same_title t next h [] = tt
same_title t next h (u ∷ ts) = (inl h, same_title t next h ts)

as_it_was : (old : Schema) (d : Draft) (t next : DraftTable) → After_ old t next → Change old d t next
as_it_was old d t next a = record { sound = a.sound; number = a.number; stood = a.stood; title = same_title t next a.name d.tables }

no_title : (before : Option (List ℕ)) (ts : List DraftTable) → Each (TitleOk before None) ts
no_title before [] = tt
no_title before (t ∷ ts) = (inr (λ to h. cc), no_title before ts)

free_title : (before : Option (List ℕ)) (to : List ℕ) (ts : List DraftTable) → Each (λ t. is_titled to t.name ≡ false) ts → Each (TitleOk before (Some to)) ts
free_title before to [] h = tt
free_title before to (t ∷ ts) h = (inr (λ n e. let is : to ≡ n = cc in subst (λ m. is_titled m t.name ≡ false) is h.0), free_title before to ts h.1)

titles_free : (old : Schema) (d : Draft) (name : List ℕ) → has_table old d name ≡ false → Each (λ t. is_titled name t.name ≡ false) d.tables
titles_free old d name h = each_not (λ (t : DraftTable). is_titled name t.name) d.tables (neither (is_old_title old name) (is_new_title d name) h).1

pub changed_soundly : (old : Schema) (at : ℕ) (o : Op) (d : Draft) (t next : DraftTable) → TableSound old t → changed old at o d t ≡ Ok next → Change old d t next
changed_soundly old at (op.CreateTable title columns) d t next s h = let is : t ≡ next = cc in subst (Change old d t) is (record { sound = s; number = refl; stood = refl; title = same_title t t refl d.tables })
changed_soundly old at (op.DropTable title) d t next s h =
    let is : record t { name = None } ≡ next = cc in
    subst (Change old d t) is (record { sound = retitled_sound old t None s; number = refl; stood = refl; title = no_title t.name d.tables })
changed_soundly old at (op.RenameTable from to) d t next s h =
    let a = without_fault_ok (when (has_table old d to) (Exists to)) (record t { name = Some to }) next h in
    let free = titles_free old d to (when_none (has_table old d to) (Exists to) a.0) in
    subst (Change old d t) a.1 (record { sound = retitled_sound old t (Some to) s; number = refl; stood = refl; title = free_title t.name to d.tables free })
changed_soundly old at (op.AddColumn title column up) d t next s h = as_it_was old d t next (added_sound old at title column up t next s h)
changed_soundly old at (op.DropColumn title name down) d t next s h = as_it_was old d t next (dropped_sound old at title name down t next s h)
changed_soundly old at (op.RenameColumn title from to) d t next s h = as_it_was old d t next (renamed_sound old at title from to t next s h)
changed_soundly old at (op.AlterColumn title name ty nullable default unique check up down) d t next s h = as_it_was old d t next (altered_sound old at title name ty nullable default unique check up down t next s h)
changed_soundly old at (op.CreateConstraint title name columns check up down) d t next s h = as_it_was old d t next (created_sound old at title name columns check up down t next s h)
changed_soundly old at (op.DropConstraint title name up down) d t next s h = as_it_was old d t next (freed_sound old at title name up down t next s h)

-- What an operation on a table does to a draft.
pub record OnTable (old : Schema) (at : ℕ) (o : Op) (d next : Draft) : Type 0 where
  pub table : DraftTable
  pub is_found : table_meant d (title_of o) ≡ Some table
  pub made : DraftTable
  pub is_made : changed old at o d table ≡ Ok made
  pub is : with_table made d ≡ next

pub table_of : (old : Schema) (at : ℕ) (o : Op) (d next : Draft) → on_table old at o d ≡ Ok next → OnTable old at o d next
table_of old at o d next h =
    let a = and_then_ok (ok_or (table_meant d (title_of o)) (NoSuchTable (title_of o))) _ next h in
    let b = and_then_ok (changed old at o d a.0) _ next a.2 in
    record { table = a.0; is_found = ok_or_ok (table_meant d (title_of o)) (NoSuchTable (title_of o)) a.0 a.1; made = b.0; is_made = b.1; is = cc }

pub found_stood : (name : List ℕ) (ts : List DraftTable) (table : DraftTable) → find (λ t. is_titled name t.name && t.stood) ts ≡ Some table → table.stood ≡ true
found_stood name [] table h = cc
found_stood name (t ∷ ts) table h = by_test (found_stood name ts table) (is_titled name t.name && t.stood) refl h
  where
    by_test : (find (λ t. is_titled name t.name && t.stood) ts ≡ Some table → table.stood ≡ true) → (b : Bool) → (is_titled name t.name && t.stood) ≡ b → (if b then Some t else find (λ t. is_titled name t.name && t.stood) ts) ≡ Some table → table.stood ≡ true
    by_test more true g k =
        let is : t ≡ table = cc in
        let parts = both (is_titled name t.name) t.stood g in
        subst (λ u. u.stood ≡ true) is parts.1
    by_test more false g k = more k

on_table_sound : (old : Schema) (at : ℕ) (o : Op) (d next : Draft) → DraftSound old d → on_table old at o d ≡ Ok next → DraftSound old next
on_table_sound old at o d next s h =
    let a = table_of old at o d next h in
    let was = each_found (TableSound old) _ d.tables a.table a.is_found s.tables in
    let change = changed_soundly old at o d a.table a.made was a.is_made in
    let one = one_table _ d.tables a.table s.apart a.is_found in
    let ok = each_both (Same a.table) (TitleOk a.table.name a.made.name) (PutOk a.table a.made) (λ t p q. (p, q)) d.tables one change.title in
    subst (DraftSound old) a.is (put_table old d a.table a.made s change.sound change.number (change.stood ∙ found_stood (title_of o) d.tables a.table a.is_found) ok)

-- ---- create_table

new_differs : (title : List ℕ) (p : Option (List ℕ)) → is_titled title p ≡ false → TitlesDiffer p (Some title)
new_differs title None h = tt
new_differs title (Some a) h = h

new_apart : (title : List ℕ) (number : ℕ) (made t : DraftTable) → made.number ≡ number → made.name ≡ Some title → is_titled title t.name ≡ false → nat_lt t.number number ≡ true → Apart t made
new_apart title number made t n e free below = (subst (TitlesDiffer t.name) (sym e) (new_differs title t.name free), subst (λ m. (t.number == m) ≡ false) (sym n) (grind (arith, nat_tests)))

none_numbered : (next : ℕ) (os : List Table) → AllBelow next os → find (λ o. o.1 == next) os ≡ None
none_numbered next [] h = refl
none_numbered next (o ∷ os) h =
    let low = h.0 in
    let apart : (o.1 == next) ≡ false = grind (arith, nat_tests) in
    rw apart (none_numbered next os h.1)

all_lower : (next : ℕ) (os : List Table) → AllBelow next os → AllBelow (next + 1) os
all_lower next [] h = tt
all_lower next (o ∷ os) h = (let low = h.0 in omega arith, all_lower next os h.1)

numbers_more : (ts : List DraftTable) (made : DraftTable) (n : ℕ) → list_any (λ m. m == n) (map (λ t. t.number) ts) ≡ true → list_any (λ m. m == n) (map (λ t. t.number) (ts ++ made ∷ [])) ≡ true
numbers_more [] made n h = cc
numbers_more (t ∷ ts) made n h = by_test (numbers_more ts made n) (t.number == n) h
  where
    by_test : (list_any (λ m. m == n) (map (λ t. t.number) ts) ≡ true → list_any (λ m. m == n) (map (λ t. t.number) (ts ++ made ∷ [])) ≡ true) → (b : Bool) → (b || list_any (λ m. m == n) (map (λ t. t.number) ts)) ≡ true → (b || list_any (λ m. m == n) (map (λ t. t.number) (ts ++ made ∷ []))) ≡ true
    by_test more true k = refl
    by_test more false k = more k

created_draft : (old : Schema) (at : ℕ) (title : List ℕ) (columns : List ColumnDef) (d next : Draft) → DraftSound old d → table_created old at title columns d ≡ Ok next → DraftSound old next
created_draft old at title columns d next s h =
    let made = new_table at title columns d.next_table in
    let a = without_fault_ok (create_fault old at title columns d) (record { tables = d.tables ++ made ∷ []; next_table = d.next_table + 1 }) next h in
    let new = new_table_sound old at title columns d a.0 in
    let taken = or_none (taken_fault old at title columns d) _ a.0 in
    let titles = or_none (when (has_table old d title) (Exists title)) _ taken.0 in
    let free = titles_free old d title (when_none (has_table old d title) (Exists title) titles.0) in
    let apart = each_both (λ t. is_titled title t.name ≡ false) (λ t. nat_lt t.number d.next_table ≡ true) (λ t. Apart t made) (λ t f b. new_apart title d.next_table made t new.number_ new.name f b) d.tables free s.below in
    let here : nat_lt made.number (d.next_table + 1) ≡ true = subst (λ n. nat_lt n (d.next_table + 1) ≡ true) (sym new.number_) (grind (arith, nat_tests)) in
    subst (DraftSound old) a.1
    (record {
      tables = each_append (TableSound old) d.tables (made ∷ []) s.tables (new.sound, tt);
      apart = pairwise_more Apart d.tables made s.apart apart;
      below = each_append (λ t. nat_lt t.number (d.next_table + 1) ≡ true) d.tables (made ∷ []) (each_more (λ t. nat_lt t.number d.next_table ≡ true) (λ t. nat_lt t.number (d.next_table + 1) ≡ true) (λ t h. grind (arith, nat_tests)) d.tables s.below) (here, tt);
      old_below = all_lower d.next_table old.tables s.old_below;
      new_ones = each_append (NewOne old) d.tables (made ∷ []) s.new_ones ((λ no. (ap is_some new.name, subst (λ n. table_numbered old n ≡ None) (sym new.number_) (none_numbered d.next_table old.tables s.old_below))), tt);
      has_olds = each_more {X = Table} (λ o. list_any (λ n. n == o.1) (map (λ t. t.number) d.tables) ≡ true) (λ o. list_any (λ n. n == o.1) (map (λ t. t.number) (d.tables ++ made ∷ [])) ≡ true) (λ o h. numbers_more d.tables made o.1 h) old.tables s.has_olds;
    })

-- ---- all operations

pub done_soundly : (old : Schema) (at : ℕ) (o : Op) (d next : Draft) → DraftSound old d → done old at o d ≡ Ok next → DraftSound old next
done_soundly old at (op.CreateTable title columns) d next s h = created_draft old at title columns d next s h
done_soundly old at (op.DropTable title) d next s h = on_table_sound old at (op.DropTable title) d next s h
done_soundly old at (op.RenameTable from to) d next s h = on_table_sound old at (op.RenameTable from to) d next s h
done_soundly old at (op.AddColumn title column up) d next s h = on_table_sound old at (op.AddColumn title column up) d next s h
done_soundly old at (op.DropColumn title name down) d next s h = on_table_sound old at (op.DropColumn title name down) d next s h
done_soundly old at (op.RenameColumn title from to) d next s h = on_table_sound old at (op.RenameColumn title from to) d next s h
done_soundly old at (op.AlterColumn title name ty nullable default unique check up down) d next s h = on_table_sound old at (op.AlterColumn title name ty nullable default unique check up down) d next s h
done_soundly old at (op.CreateConstraint title name columns check up down) d next s h = on_table_sound old at (op.CreateConstraint title name columns check up down) d next s h
done_soundly old at (op.DropConstraint title name up down) d next s h = on_table_sound old at (op.DropConstraint title name up down) d next s h

pub all_done_soundly : (old : Schema) (at : ℕ) (ops : List Op) (d next : Draft) → DraftSound old d → all_done old at ops d ≡ Ok next → DraftSound old next
all_done_soundly old at [] d next s h = let is : d ≡ next = cc in subst (DraftSound old) is s
all_done_soundly old at (o ∷ ops) d next s h =
    let a = and_then_ok (done old at o d) (all_done old (at + 1) ops) next h in
    all_done_soundly old (at + 1) ops a.0 next (done_soundly old at o d a.0 s a.1) a.2
