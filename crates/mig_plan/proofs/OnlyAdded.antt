-- Where each operation is add_column, each old column is carried.
use Rattle.std.proofs.Common.{◌≡◌, ◌∙◌, ℕ, ◌+◌, List, [], ◌∷◌, Bool, true, false, Option, Some, None, Ok, if◌then◌else◌, map, ap, refl, sym, subst}
use Rattle.std.specs.Prelude.{◌==◌, find, is_some}
use Rattle.std.specs.List.{cons_option, filter_map, list_all}
use Rattle.std.specs.Option.{option_and_then, option_map}
use Rattle.sql_base.specs.declared.exprs.Expr.{Expr}
use Rattle.sql_base.specs.declared.shapes.Column.{Column}
use Rattle.sql_base.specs.declared.shapes.Schema.{Schema}
use Rattle.sql_base.specs.Laws.{all_true, and_then_ok, both}
use Rattle.mig_lens.specs.declared.columns.Lens.{Lens}
use Rattle.mig_plan.specs.declared.drafts.Draft.{Draft}
use Rattle.mig_plan.specs.declared.drafts.DraftColumn.{DraftColumn}
use Rattle.mig_plan.specs.declared.drafts.DraftTable.{DraftTable}
use Rattle.mig_lens.specs.declared.faults.PlanFault.TheVariants.{BadExpr}
use Rattle.mig_lens.specs.declared.migrations.ColumnDef.{ColumnDef}
use Rattle.mig_lens.specs.declared.migrations.Migration.{Migration}
use Rattle.mig_lens.specs.declared.migrations.Op.{Op}
use Rattle.mig_lens.specs.declared.migrations.Op.TheVariants as op
use Rattle.mig_lens.specs.declared.plans.Fate.{Fate}
use Rattle.mig_lens.specs.declared.plans.Fate.TheVariants.{Kept}
use Rattle.mig_lens.specs.declared.plans.Plan.{Plan}
use Rattle.mig_plan.specs.Columns.{column_added, column_fault, new_column, with_column}
use Rattle.mig_plan.specs.Draft.{in_place}
use Rattle.mig_plan.specs.Finish.{cell_of, fate, fate_of, finished, lens_of_columns, new_table, next_place, old_cells, shape_of}
use Rattle.mig_lens.specs.Laws.{IsBelow, IsSchema}
use Rattle.mig_plan.specs.Laws.{AddedColumnsLoseNothing, adds_column}
use Rattle.mig_lens.specs.Lens.{all_carry}
use Rattle.mig_plan.specs.Places.{first_bad}
use Rattle.mig_lens.specs.Plan.{lens_in, lens_of}
use Rattle.mig_plan.specs.Plan.{all_done, begun, carried, done, kept, on_table, plan_of, typed}
use Rattle.mig_plan.specs.Versions.{Table}
use Rattle.mig_plan.proofs.Each.{Each, each_append}
use Rattle.mig_plan.proofs.Fine.{without_fault_ok}
use Rattle.mig_plan.proofs.Planned.{begun_is, begun_sound}
use Rattle.mig_plan.proofs.Whole.{DraftSound, done_soundly, one_table, table_of}

-- ---- columns and tables that are as they were, but for new columns

-- A column of the old version is carried.
abbrev Lossless : Option Column → Option Column → Option Expr → Type 0
Lossless None o down = Unit {0}
Lossless (Some b) (Some n) None = Unit {0}
Lossless (Some b) (Some n) (Some d) = ⊥
Lossless (Some b) None down = ⊥

abbrev Carries : DraftColumn → Type 0
Carries c = Lossless c.before c.after.column c.after.down

record Grown (o : Table) (t : DraftTable) : Type 0 where
  name : t.name ≡ Some o.0
  number : t.number ≡ o.1
  stood : t.stood ≡ true
  columns : Each Carries t.columns

abbrev AllGrown : List Table → List DraftTable → Type 0
AllGrown [] [] = Unit {0}
AllGrown (o ∷ os) (t ∷ ts) = Grown o t × AllGrown os ts
AllGrown [] (t ∷ ts) = ⊥
AllGrown (o ∷ os) [] = ⊥

-- ---- the beginning

first_carry : (cs : List Column) → Each Carries (map carried cs)
first_carry [] = tt
first_carry (c ∷ cs) = (tt, first_carry cs)

first_grown : (os : List Table) → AllGrown os (map kept os)
first_grown [] = tt
first_grown (o ∷ os) = (record { name = refl; number = refl; stood = refl; columns = first_carry o.2.columns }, first_grown os)

-- ---- one column more

-- A table that is put where one of its number is.
record More (t next : DraftTable) : Type 0 where
  name : next.name ≡ t.name
  number : next.number ≡ t.number
  stood : next.stood ≡ t.stood
  columns : Each Carries t.columns → Each Carries next.columns

added_more : (old : Schema) (at : ℕ) (title : List ℕ) (column : ColumnDef) (up : Option Expr) (t next : DraftTable) → column_added old at title column up t ≡ Ok next → More t next
added_more old at title column up t next h =
    let a = without_fault_ok (column_fault old at title t column up) (with_column title column up (Some at) at t) next h in
    subst (More t) a.1 (record { name = refl; number = refl; stood = refl; columns = λ e. each_append Carries t.columns (new_column column up (Some at) ∷ []) e (tt, tt) })

-- the table that is put, and the one in whose place it is put, where a number is theirs alone
put_grown : (o : Table) (table next t : DraftTable) → More table next → ((t.number == table.number) ≡ true → t ≡ table) → Grown o t → Grown o (in_place next t)
put_grown o table next t more only g = by_test (t.number == next.number) refl
  where
    by_test : (b : Bool) → (t.number == next.number) ≡ b → Grown o (if b then next else t)
    by_test false h = g
    by_test true h =
        let is : t ≡ table = only (subst (λ n. (t.number == n) ≡ true) more.number h) in
        let was : Grown o table = subst (Grown o) is g in
        record { name = more.name ∙ was.name; number = more.number ∙ was.number; stood = more.stood ∙ was.stood; columns = more.columns was.columns }

all_put : (os : List Table) (table next : DraftTable) (ts : List DraftTable) → More table next → Each (λ t. (t.number == table.number) ≡ true → t ≡ table) ts → AllGrown os ts → AllGrown os (map (in_place next) ts)
all_put [] table next [] more only g = tt
all_put (o ∷ os) table next (t ∷ ts) more only g = (put_grown o table next t more only.0 g.0, all_put os table next ts more only.1 g.1)
all_put [] table next (t ∷ ts) more only g = absurd g
all_put (o ∷ os) table next [] more only g = absurd g

-- ---- all operations

column_grown : (old : Schema) (os : List Table) (at : ℕ) (title : List ℕ) (column : ColumnDef) (up : Option Expr) (d next : Draft) → DraftSound old d → AllGrown os d.tables → on_table old at (op.AddColumn title column up) d ≡ Ok next → AllGrown os next.tables
column_grown old os at title column up d next s g h =
    let a = table_of old at (op.AddColumn title column up) d next h in
    let more = added_more old at title column up a.table a.made a.is_made in
    subst (λ (e : Draft). AllGrown os e.tables) a.is (all_put os a.table a.made d.tables more (one_table _ d.tables a.table s.apart a.is_found) g)

op_grown : (old : Schema) (os : List Table) (at : ℕ) (o : Op) (d next : Draft) → adds_column o ≡ true → DraftSound old d → AllGrown os d.tables → done old at o d ≡ Ok next → AllGrown os next.tables
op_grown old os at (op.AddColumn title column up) d next adds s g h = column_grown old os at title column up d next s g h
op_grown old os at (op.CreateTable title columns) d next adds s g h = cc
op_grown old os at (op.DropTable title) d next adds s g h = cc
op_grown old os at (op.RenameTable from to) d next adds s g h = cc
op_grown old os at (op.DropColumn title name down) d next adds s g h = cc
op_grown old os at (op.RenameColumn title from to) d next adds s g h = cc
op_grown old os at (op.AlterColumn title name ty nullable default unique check up down) d next adds s g h = cc
op_grown old os at (op.CreateConstraint title name columns check up down) d next adds s g h = cc
op_grown old os at (op.DropConstraint title name up down) d next adds s g h = cc

ops_grown : (old : Schema) (os : List Table) (at : ℕ) (ops : List Op) (d next : Draft) → list_all adds_column ops ≡ true → DraftSound old d → AllGrown os d.tables → all_done old at ops d ≡ Ok next → AllGrown os next.tables
ops_grown old os at [] d next adds s g h = let is : d ≡ next = cc in subst (λ (e : Draft). AllGrown os e.tables) is g
ops_grown old os at (o ∷ ops) d next adds s g h =
    let each = both (adds_column o) (list_all adds_column ops) adds in
    let a = and_then_ok (done old at o d) (all_done old (at + 1) ops) next h in
    ops_grown old os (at + 1) ops a.0 next each.1 (done_soundly old at o d a.0 s a.1) (op_grown old os at o d a.0 each.0 s g a.1) a.2

record FromGrown (old : Schema) (plan : Plan) : Type 0 where
  draft : Draft
  grown : AllGrown old.tables draft.tables
  is : finished draft ≡ plan

grown : (old : Schema) (next_table : ℕ) (m : Migration) (plan : Plan) → IsSchema old → IsBelow next_table old → list_all adds_column m.operations ≡ true → plan_of old next_table m ≡ Ok plan → FromGrown old plan
grown old next_table m plan is below adds h =
    let a = and_then_ok (begun old next_table) _ plan h in
    let b = and_then_ok (all_done old 0 m.operations a.0) (typed old) plan a.2 in
    let c = without_fault_ok (option_map BadExpr (first_bad old b.0.tables)) (finished b.0) plan b.2 in
    let start : AllGrown old.tables a.0.tables = subst (λ (e : Draft). AllGrown old.tables e.tables) (begun_is old next_table a.0 a.1) (first_grown old.tables) in
    record { draft = b.0; grown = ops_grown old old.tables 0 m.operations a.0 b.0 adds (begun_sound old next_table a.0 is below a.1) start b.1; is = c.1 }

-- ---- old columns are carried

fate_kept : (o : Table) (t : DraftTable) → Grown o t → fate t.stood t.name t.columns ≡ Kept (lens_of_columns t.columns)
fate_kept o t g = ap (λ b. fate b t.name t.columns) g.stood ∙ ap (λ n. fate true n t.columns) g.name

carry_cells : (cs : List DraftColumn) (at : ℕ) → Each Carries cs → all_carry (old_cells at cs) ≡ true
carry_cells [] at h = refl
carry_cells (c ∷ cs) at h = by_sides c.before c.after.column c.after.down h.0 (carry_cells cs (next_place (is_some c.after.column) at) h.1)
  where
    by_sides : (o p : Option Column) (e : Option Expr) → Lossless o p e → all_carry (old_cells (next_place (is_some c.after.column) at) cs) ≡ true → all_carry (cons_option (option_map (cell_of e (is_some p) at) o) (old_cells (next_place (is_some c.after.column) at) cs)) ≡ true
    by_sides None p e l k = k
    by_sides (Some b) (Some n) None l k = k
    by_sides (Some b) (Some n) (Some d) l k = absurd l
    by_sides (Some b) None e l k = absurd l

lens_carries : (os : List Table) (ts : List DraftTable) (number : ℕ) (lens : Lens) → AllGrown os ts → option_and_then (λ f. lens_in f.1) (find (λ f. f.0 == number) (map fate_of ts)) ≡ Some lens → all_carry lens.old_cols ≡ true
lens_carries [] [] number lens g h = cc
lens_carries [] (t ∷ ts) number lens g h = absurd g
lens_carries (o ∷ os) [] number lens g h = absurd g
lens_carries (o ∷ os) (t ∷ ts) number lens g h = by_test (lens_carries os ts number lens g.1) (t.number == number) h
  where
    by_test : (option_and_then (λ f. lens_in f.1) (find (λ f. f.0 == number) (map fate_of ts)) ≡ Some lens → all_carry lens.old_cols ≡ true) → (b : Bool) → option_and_then (λ f. lens_in f.1) (if b then Some (fate_of t) else find (λ f. f.0 == number) (map fate_of ts)) ≡ Some lens → all_carry lens.old_cols ≡ true
    by_test more true k =
        let e : lens_in (fate t.stood t.name t.columns) ≡ Some (lens_of_columns t.columns) = ap lens_in (fate_kept o t g.0) in
        let is : lens_of_columns t.columns ≡ lens = cc in
        subst (λ l. all_carry l.old_cols ≡ true) is (carry_cells t.columns 0 g.0.columns)
    by_test more false k = more k

pub added_columns_lose_nothing : AddedColumnsLoseNothing
added_columns_lose_nothing old next_table m plan is below adds h number lens k =
    let g = grown old next_table m plan is below adds h in
    lens_carries old.tables g.draft.tables number lens g.grown (subst (λ p. lens_of p number ≡ Some lens) (sym g.is) k)
