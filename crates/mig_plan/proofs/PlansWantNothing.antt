-- Planning is never want of memory by its definition.
use Rattle.std.proofs.Common.{◌≢◌, ℕ, ◌+◌, List, [], ◌∷◌, Bool, true, false, not, ◌&&◌, ◌||◌, Option, Some, None, Result, Ok, Err, length, map, subst}
use Rattle.std.specs.Prelude.{codes, is_some, nat_le, nat_lt}
use Rattle.std.specs.Option.{ok_or, option_and_then, option_map, option_or}
use Rattle.std.specs.Str.{bytes_eq}
use Rattle.sql_base.specs.declared.exprs.Expr.{Expr}
use Rattle.sql_base.specs.declared.shapes.Check.{Check}
use Rattle.sql_base.specs.declared.shapes.Column.{Column}
use Rattle.sql_base.specs.declared.shapes.Schema.{Schema}
use Rattle.sql_base.specs.declared.values.Ty.{Ty}
use Rattle.sql_base.specs.declared.values.Value.{Value}
use Rattle.sql_base.specs.Fit.{has_type}
use Rattle.sql_base.specs.Laws.{OnlyFaults, faults_either, faults_then}
use Rattle.sql_base.specs.Outcome.{and_then, every}
use Rattle.sql_eval.specs.Shape.{max_columns}
use Rattle.mig_plan.specs.declared.drafts.Draft.{Draft}
use Rattle.mig_plan.specs.declared.drafts.DraftColumn.{DraftColumn}
use Rattle.mig_plan.specs.declared.drafts.DraftTable.{DraftTable}
use Rattle.mig_lens.specs.declared.faults.Member.{Member}
use Rattle.mig_lens.specs.declared.faults.Member.TheVariants as member
use Rattle.mig_lens.specs.declared.faults.Place.{Place}
use Rattle.mig_lens.specs.declared.faults.PlanFault.{PlanFault}
use Rattle.mig_lens.specs.declared.faults.PlanFault.TheVariants as fault
use Rattle.mig_lens.specs.declared.migrations.ColumnDef.{ColumnDef}
use Rattle.mig_lens.specs.declared.migrations.Op.{Op}
use Rattle.mig_lens.specs.declared.migrations.Op.TheVariants as op
use Rattle.mig_lens.specs.declared.migrations.Ways.{Ways}
use Rattle.mig_plan.specs.Columns.{altered, check_name_fault, check_taken, column_altered, column_dropped, column_fault, column_renamed, is_name, is_named, key_fault, name_fault, needs_up, place_fault, rename_fault, standing, twice_fault, unique_name_fault, unique_taken, value_fault, wants_down, wants_up, with_column, with_name, without_column}
use Rattle.mig_plan.specs.Constraints.{Pairs, absent_fault, constraint_columns, constraint_created, constraint_dropped, create_faults, drop_faults, dropped, first_of, is_among, is_loose, loose_fault, loose_faults, pairs_for, stray_fault, twice_named, way_faults}
use Rattle.mig_plan.specs.Draft.{column_meant, has_column, has_either_constraint, has_table, is_key_named, new_count, table_meant, with_table}
use Rattle.mig_plan.specs.Laws.{PlanningWantsNothing}
use Rattle.mig_plan.specs.Places.{first_bad}
use Rattle.mig_plan.specs.Plan.{all_done, begun, changed, done, first_table, on_table, plan_of, title_of, typed}
use Rattle.mig_plan.specs.Tables.{all_fit, create_fault, first_form, has_key, is_full, kinds_fault, max_table, names_fault, room_fault, table_created, taken_fault}
use Rattle.mig_plan.specs.Versions.{Table, first, key_name, unique_name, when, without_fault}

abbrev OfPlans : PlanFault → Type 0
OfPlans fault.NoMemory = ⊥
OfPlans _ = Unit {0}

abbrev Fine : {T : Type 0} → Result T PlanFault → Type 0
Fine r = OnlyFaults OfPlans r

next_fine : {T U : Type 0} (r : Result T PlanFault) (next : T → Result U PlanFault) → Fine r → ((x : T) → Fine (next x)) → Fine (and_then r next)
next_fine r next h more = faults_then OfPlans r next h more

-- what may be a fault is one of the migration
abbrev MayBe : Option PlanFault → Type 0
MayBe None = Unit {0}
MayBe (Some f) = OfPlans f

when_fine : (test : Bool) (f : PlanFault) → OfPlans f → MayBe (when test f)
when_fine true f h = h
when_fine false f h = tt

or_fine : (f g : Option PlanFault) → MayBe f → MayBe g → MayBe (option_or f g)
or_fine None g h k = k
or_fine (Some f) g h k = h

-- each of these
abbrev AllMayBe : List (Option PlanFault) → Type 0
AllMayBe [] = Unit {0}
AllMayBe (f ∷ fs) = MayBe f × AllMayBe fs

first_fine : (fs : List (Option PlanFault)) → AllMayBe fs → MayBe (first fs)
first_fine [] h = tt
first_fine (f ∷ fs) h = or_fine f (first fs) h.0 (first_fine fs h.1)

mapped_fine : {X : Type 0} (f : X → Option PlanFault) (xs : List X) → ((x : X) → MayBe (f x)) → MayBe (first (map f xs))
mapped_fine f [] h = tt
mapped_fine f (x ∷ xs) h = or_fine (f x) (first (map f xs)) (h x) (mapped_fine f xs h)

without_fine : {T : Type 0} (f : Option PlanFault) (value : T) → MayBe f → Fine (without_fault f value)
without_fine None value h = tt
without_fine (Some f) value h = h

ok_or_fine : {T : Type 0} (o : Option T) (f : PlanFault) → OfPlans f → Fine (ok_or o f)
ok_or_fine None f h = h
ok_or_fine (Some x) f h = tt

-- ---- a new column

check_fine : (old : Schema) (title : List ℕ) (t : DraftTable) (check : Option Check) → MayBe (check_name_fault old title t check)
check_fine old title t None = tt
check_fine old title t (Some check) = when_fine (has_either_constraint old title check.name t) (fault.Exists check.name) tt

name_fine : (old : Schema) (title : List ℕ) (t : DraftTable) (column : ColumnDef) → MayBe (name_fault old title t column)
name_fine old title t column =
    let unique = unique_name title column.name in
    or_fine (when (has_column column.name t) (fault.Exists column.name)) _ (when_fine (has_column column.name t) (fault.Exists column.name) tt)
    (or_fine (check_name_fault old title t column.check) _ (check_fine old title t column.check)
    (or_fine (unique_name_fault old title t column unique) None (when_fine (column.unique && (is_named unique column.check || has_either_constraint old title unique t)) (fault.Exists unique) tt) tt))

column_fine : (old : Schema) (at : ℕ) (title : List ℕ) (t : DraftTable) (column : ColumnDef) (up : Option Expr) → MayBe (column_fault old at title t column up)
column_fine old at title t column up =
    or_fine (name_fault old title t column) _ (name_fine old title t column)
    (or_fine (when column.pk (fault.KeyColumn title)) _ (when_fine column.pk (fault.KeyColumn title) tt)
    (or_fine (when (needs_up column up) (fault.UpNeeded title column.name)) _ (when_fine (needs_up column up) (fault.UpNeeded title column.name) tt)
    (or_fine (when (not (has_type (Some column.ty) column.default)) (fault.BadType (record { operation = at; member = member.Default }))) _ (when_fine (not (has_type (Some column.ty) column.default)) (fault.BadType (record { operation = at; member = member.Default })) tt)
    (or_fine (when (nat_le max_columns (new_count t.columns)) (fault.Limit (codes "columns"))) None (when_fine (nat_le max_columns (new_count t.columns)) (fault.Limit (codes "columns")) tt) tt))))

-- ---- a column that stands

standing_fine : (title : List ℕ) (t : DraftTable) (name : List ℕ) → Fine (standing title t name)
standing_fine title t name =
    next_fine (ok_or (column_meant t name) (fault.NoSuchColumn title name)) _ (ok_or_fine (column_meant t name) (fault.NoSuchColumn title name) tt)
    (λ column. next_fine (ok_or column.after.column (fault.NoSuchColumn title name)) (λ now. Ok (column, now)) (ok_or_fine column.after.column (fault.NoSuchColumn title name) tt) (λ now. tt))

key_fine : (title : List ℕ) (t : DraftTable) (name : List ℕ) → MayBe (key_fault title t name)
key_fine title t name = when_fine (is_key_named t name) (fault.KeyColumn title) tt

twice_fine : (title name : List ℕ) (c : DraftColumn) → MayBe (twice_fault title name c)
twice_fine title name c = when_fine (is_some c.after.subject) (fault.ColumnTwice title name) tt

dropped_fine : (at : ℕ) (title name : List ℕ) (down : Option Expr) (t : DraftTable) → Fine (column_dropped at title name down t)
dropped_fine at title name down t =
    next_fine (standing title t name) _ (standing_fine title t name)
    (λ found. without_fine (first (key_fault title t name ∷ twice_fault title name found.0 ∷ [])) (without_column name down at t) (first_fine (key_fault title t name ∷ twice_fault title name found.0 ∷ []) (key_fine title t name, (twice_fine title name found.0, tt))))

renamed_fine : (at : ℕ) (title from to : List ℕ) (t : DraftTable) → Fine (column_renamed at title from to t)
renamed_fine at title from to t =
    next_fine (standing title t from) _ (standing_fine title t from)
    (λ found. without_fine (rename_fault title from to t found.0) (with_name from to at found.1 t) (or_fine (when (has_column to t) (fault.Exists to)) _ (when_fine (has_column to t) (fault.Exists to) tt) (or_fine (twice_fault title from found.0) None (twice_fine title from found.0) tt)))

unique_taken_fine : (old : Schema) (title : List ℕ) (t : DraftTable) (unique : Option (List ℕ)) → MayBe (unique_taken old title t unique)
unique_taken_fine old title t None = tt
unique_taken_fine old title t (Some name) = when_fine (has_either_constraint old title name t) (fault.Exists name) tt

check_taken_fine : (old : Schema) (title : List ℕ) (t : DraftTable) (unique : Option (List ℕ)) (check : Option Check) → MayBe (check_taken old title t unique check)
check_taken_fine old title t unique None = tt
check_taken_fine old title t unique (Some check) = when_fine (is_name check.name unique || has_either_constraint old title check.name t) (fault.Exists check.name) tt

place_fine : (old : Schema) (title name : List ℕ) (t : DraftTable) (c : DraftColumn) (unique : Option (List ℕ)) (check : Option Check) → MayBe (place_fault old title name t c unique check)
place_fine old title name t c unique check =
    or_fine (unique_taken old title t unique) _ (unique_taken_fine old title t unique)
    (or_fine (check_taken old title t unique check) _ (check_taken_fine old title t unique check)
    (or_fine (key_fault title t name) _ (key_fine title t name)
    (or_fine (twice_fault title name c) None (twice_fine title name c) tt)))

value_fine : (at : ℕ) (title name : List ℕ) (now other : Column) (up down : Option Expr) → MayBe (value_fault at title name now other up down)
value_fine at title name now other up down =
    or_fine (when (wants_up now other up) (fault.UpNeeded title name)) _ (when_fine (wants_up now other up) (fault.UpNeeded title name) tt)
    (or_fine (when (wants_down now other down) (fault.DownNeeded title name)) _ (when_fine (wants_down now other down) (fault.DownNeeded title name) tt)
    (or_fine (when (not (has_type (Some other.ty) other.default)) (fault.BadType (record { operation = at; member = member.Default }))) None (when_fine (not (has_type (Some other.ty) other.default)) (fault.BadType (record { operation = at; member = member.Default })) tt) tt))

altered_fine : (old : Schema) (at : ℕ) (title name : List ℕ) (ty : Option Ty) (nullable : Option Bool) (default : Option Value) (unique : Option (List ℕ)) (check : Option Check) (up down : Option Expr) (t : DraftTable) → Fine (column_altered old at title name ty nullable default unique check up down t)
altered_fine old at title name ty nullable default unique check up down t =
    next_fine (standing title t name) _ (standing_fine title t name)
    (λ found. without_fine (option_or (place_fault old title name t found.0 unique check) (value_fault at title name found.1 (altered found.1 ty nullable default) up down)) _ (or_fine (place_fault old title name t found.0 unique check) (value_fault at title name found.1 (altered found.1 ty nullable default) up down) (place_fine old title name t found.0 unique check) (value_fine at title name found.1 (altered found.1 ty nullable default) up down)))

-- ---- constraints

stray_fine : (title : List ℕ) (columns : List (List ℕ)) (name : List ℕ) → MayBe (stray_fault title columns name)
stray_fine title columns name = when_fine (not (is_among columns name)) (fault.NoSuchColumn title name) tt

strays_fine : (title : List ℕ) (columns : List (List ℕ)) (pairs : Pairs) → MayBe (first_of (stray_fault title columns) pairs)
strays_fine title columns pairs = mapped_fine (λ pair. stray_fault title columns pair.0) pairs (λ pair. stray_fine title columns pair.0)

twice_named_fine : (title : List ℕ) (t : DraftTable) (name : List ℕ) → MayBe (twice_named title t name)
twice_named_fine title t name = by_case (column_meant t name)
  where
    by_case : (o : Option DraftColumn) → MayBe (option_and_then (twice_fault title name) o)
    by_case None = tt
    by_case (Some c) = twice_fine title name c

keys_fine : (title : List ℕ) (t : DraftTable) (pairs : Pairs) → MayBe (first_of (key_fault title t) pairs)
keys_fine title t pairs = mapped_fine (λ pair. key_fault title t pair.0) pairs (λ pair. key_fine title t pair.0)

twices_fine : (title : List ℕ) (t : DraftTable) (pairs : Pairs) → MayBe (first_of (twice_named title t) pairs)
twices_fine title t pairs = mapped_fine (λ pair. twice_named title t pair.0) pairs (λ pair. twice_named_fine title t pair.0)

ways_fine : (title : List ℕ) (t : DraftTable) (ups downs : Pairs) → MayBe (first (way_faults title t ups downs))
ways_fine title t ups downs = first_fine (way_faults title t ups downs) (keys_fine title t ups, (keys_fine title t downs, (twices_fine title t ups, (twices_fine title t downs, tt))))

created_fine : (old : Schema) (at : ℕ) (title name : List ℕ) (columns : List (List ℕ)) (check : Option Expr) (ups downs : Pairs) (t : DraftTable) → Fine (constraint_created old at title name columns check ups downs t)
created_fine old at title name columns check ups downs t =
    without_fine (first (create_faults old title t name columns ups downs)) _
    (or_fine (first (map (absent_fault title t) columns)) _ (mapped_fine (absent_fault title t) columns (λ n. when_fine (not (is_some (column_meant t n))) (fault.NoSuchColumn title n) tt))
    (or_fine (first_of (stray_fault title columns) ups) _ (strays_fine title columns ups)
    (or_fine (first_of (stray_fault title columns) downs) _ (strays_fine title columns downs)
    (or_fine (when (has_either_constraint old title name t) (fault.Exists name)) _ (when_fine (has_either_constraint old title name t) (fault.Exists name) tt) (ways_fine title t ups downs)))))

loose_fine : (at : ℕ) (which : Member) (columns : List (List ℕ)) (ways : Option Ways) → MayBe (loose_fault at which columns ways)
loose_fine at which columns ways = when_fine (is_loose columns ways) (fault.BadExpr (record { operation = at; member = which })) tt

drops_fine : (title : List ℕ) (t : DraftTable) (name : List ℕ) (columns : List (List ℕ)) (ups downs : Pairs) → MayBe (first (drop_faults title t name columns ups downs))
drops_fine title t name columns ups downs =
    or_fine (first_of (stray_fault title columns) ups) _ (strays_fine title columns ups)
    (or_fine (first_of (stray_fault title columns) downs) _ (strays_fine title columns downs)
    (or_fine (when (bytes_eq (key_name title) name) (fault.KeyColumn title)) _ (when_fine (bytes_eq (key_name title) name) (fault.KeyColumn title) tt) (ways_fine title t ups downs)))

freed_fine : (at : ℕ) (title name : List ℕ) (up down : Option Ways) (t : DraftTable) → Fine (constraint_dropped at title name up down t)
freed_fine at title name up down t =
    next_fine (ok_or (constraint_columns title t name) (fault.NoSuchColumn title name)) (dropped at title name up down t) (ok_or_fine (constraint_columns title t name) (fault.NoSuchColumn title name) tt)
    (λ columns. without_fine (option_or (first (drop_faults title t name columns (pairs_for columns up) (pairs_for columns down))) (loose_faults at columns up down)) _ (or_fine (first (drop_faults title t name columns (pairs_for columns up) (pairs_for columns down))) (loose_faults at columns up down) (drops_fine title t name columns (pairs_for columns up) (pairs_for columns down)) (or_fine (loose_fault at member.Up columns up) (loose_fault at member.Down columns down) (loose_fine at member.Up columns up) (loose_fine at member.Down columns down))))

-- ---- tables

names_fine : (old : Schema) (title : List ℕ) (at : ℕ) (columns : List ColumnDef) (t : DraftTable) → MayBe (names_fault old title at columns t)
names_fine old title at [] t = tt
names_fine old title at (column ∷ columns) t =
    or_fine (name_fault old title t column) (names_fault old title at columns (with_column title column None None at t)) (name_fine old title t column) (names_fine old title at columns (with_column title column None None at t))

kinds_fine : (at : ℕ) (title : List ℕ) (columns : List ColumnDef) → MayBe (kinds_fault at title columns)
kinds_fine at title columns =
    or_fine (when (not (has_key columns)) (fault.KeyColumn title)) _ (when_fine (not (has_key columns)) (fault.KeyColumn title) tt)
    (or_fine (when (not (all_fit columns)) (fault.BadType (record { operation = at; member = member.Default }))) _ (when_fine (not (all_fit columns)) (fault.BadType (record { operation = at; member = member.Default })) tt)
    (or_fine (when (nat_lt max_columns (length columns)) (fault.Limit (codes "columns"))) None (when_fine (nat_lt max_columns (length columns)) (fault.Limit (codes "columns")) tt) tt))

table_fine : (old : Schema) (at : ℕ) (title : List ℕ) (columns : List ColumnDef) (d : Draft) → Fine (table_created old at title columns d)
table_fine old at title columns d =
    without_fine (create_fault old at title columns d) _
    (or_fine (taken_fault old at title columns d) (option_or (kinds_fault at title columns) (room_fault d)) (or_fine (when (has_table old d title) (fault.Exists title)) _ (when_fine (has_table old d title) (fault.Exists title) tt) (names_fine old title at columns (first_form title columns d.next_table))) (or_fine (kinds_fault at title columns) (room_fault d) (kinds_fine at title columns) (when_fine (nat_lt max_table d.next_table || is_full d) (fault.Limit (codes "tables")) tt)))

-- ---- operations

changed_fine : (old : Schema) (at : ℕ) (o : Op) (d : Draft) (t : DraftTable) → Fine (changed old at o d t)
changed_fine old at (op.CreateTable title columns) d t = tt
changed_fine old at (op.DropTable title) d t = tt
changed_fine old at (op.RenameTable from to) d t = without_fine (when (has_table old d to) (fault.Exists to)) _ (when_fine (has_table old d to) (fault.Exists to) tt)
changed_fine old at (op.AddColumn title column up) d t = without_fine (column_fault old at title t column up) _ (column_fine old at title t column up)
changed_fine old at (op.DropColumn title name down) d t = dropped_fine at title name down t
changed_fine old at (op.RenameColumn title from to) d t = renamed_fine at title from to t
changed_fine old at (op.AlterColumn title name ty nullable default unique check up down) d t = altered_fine old at title name ty nullable default unique check up down t
changed_fine old at (op.CreateConstraint title name columns check up down) d t = created_fine old at title name columns check up down t
changed_fine old at (op.DropConstraint title name up down) d t = freed_fine at title name up down t

on_table_fine : (old : Schema) (at : ℕ) (o : Op) (d : Draft) → Fine (on_table old at o d)
on_table_fine old at o d =
    next_fine (ok_or (table_meant d (title_of o)) (fault.NoSuchTable (title_of o))) _ (ok_or_fine (table_meant d (title_of o)) (fault.NoSuchTable (title_of o)) tt)
    (λ t. next_fine (changed old at o d t) (λ made. Ok (with_table made d)) (changed_fine old at o d t) (λ made. tt))

done_fine : (old : Schema) (at : ℕ) (o : Op) (d : Draft) → Fine (done old at o d)
done_fine old at (op.CreateTable title columns) d = table_fine old at title columns d
done_fine old at (op.DropTable title) d = on_table_fine old at (op.DropTable title) d
done_fine old at (op.RenameTable from to) d = on_table_fine old at (op.RenameTable from to) d
done_fine old at (op.AddColumn title column up) d = on_table_fine old at (op.AddColumn title column up) d
done_fine old at (op.DropColumn title name down) d = on_table_fine old at (op.DropColumn title name down) d
done_fine old at (op.RenameColumn title from to) d = on_table_fine old at (op.RenameColumn title from to) d
done_fine old at (op.AlterColumn title name ty nullable default unique check up down) d = on_table_fine old at (op.AlterColumn title name ty nullable default unique check up down) d
done_fine old at (op.CreateConstraint title name columns check up down) d = on_table_fine old at (op.CreateConstraint title name columns check up down) d
done_fine old at (op.DropConstraint title name up down) d = on_table_fine old at (op.DropConstraint title name up down) d

all_fine : (old : Schema) (at : ℕ) (ops : List Op) (d : Draft) → Fine (all_done old at ops d)
all_fine old at [] d = tt
all_fine old at (o ∷ ops) d = next_fine (done old at o d) (all_done old (at + 1) ops) (done_fine old at o d) (all_fine old (at + 1) ops)

-- ---- the whole plan

first_table_fine : (t : Table) → Fine (first_table t)
first_table_fine t = faults_either OfPlans (nat_le (length t.2.columns) max_columns) (Ok _) (Err _) tt tt

firsts_fine : (ts : List Table) → Fine (every (map first_table ts))
firsts_fine [] = tt
firsts_fine (t ∷ ts) = next_fine (first_table t) _ (first_table_fine t) (λ d. next_fine (every (map first_table ts)) (λ ds. Ok (d ∷ ds)) (firsts_fine ts) (λ ds. tt))

begun_fine : (old : Schema) (next_table : ℕ) → Fine (begun old next_table)
begun_fine old next_table = next_fine (every (map first_table old.tables)) _ (firsts_fine old.tables) (λ ds. tt)

bad_fine : (place : Option Place) → MayBe (option_map fault.BadExpr place)
bad_fine None = tt
bad_fine (Some place) = tt

never : {T : Type 0} (r : Result T PlanFault) → Fine r → r ≢ Err fault.NoMemory
never r h e = subst Fine e h

pub planning_wants_nothing : PlanningWantsNothing
planning_wants_nothing old next_table m =
    never (plan_of old next_table m)
    (next_fine (begun old next_table) _ (begun_fine old next_table)
    (λ d. next_fine (all_done old 0 m.operations d) (typed old) (all_fine old 0 m.operations d)
    (λ e. without_fine (option_map fault.BadExpr (first_bad old e.tables)) _ (bad_fine (first_bad old e.tables)))))
