-- Each operation leaves a sound table sound: the operations on columns.
use Rattle.std.proofs.Common.{◌≡◌, ◌∙◌, ℕ, ◌+◌, ◌≤◌, List, [], ◌∷◌, ◌++◌, Bool, true, false, not, ◌&&◌, ◌||◌, inl, inr, Option, Some, None, Ok, if◌then◌else◌, length, map, ap, refl, sym, subst, arith}
use Rattle.std.specs.Prelude.{codes, find, is_none, is_some, nat_le, slice_get}
use Rattle.std.specs.List.{filter}
use Rattle.std.specs.Option.{ok_or, option_and_then, option_map_or, option_or}
use Rattle.std.proofs.lemmas.Bool.Decides.{nat_tests}
use Rattle.sql_base.specs.declared.exprs.Expr.{Expr}
use Rattle.sql_base.specs.declared.shapes.Check.{Check}
use Rattle.sql_base.specs.declared.shapes.Column.{Column}
use Rattle.sql_base.specs.declared.shapes.Schema.{Schema}
use Rattle.sql_base.specs.declared.shapes.Unique.{Unique}
use Rattle.sql_base.specs.declared.values.Ty.{Ty}
use Rattle.sql_base.specs.declared.values.Value.{Value}
use Rattle.sql_base.specs.Fit.{has_type}
use Rattle.sql_base.specs.Laws.{and_then_ok}
use Rattle.sql_eval.specs.Shape.{is_key, max_columns}
use Rattle.sql_eval.specs.Typing.{same}
use Rattle.mig_plan.specs.declared.drafts.After.{After}
use Rattle.mig_plan.specs.declared.drafts.DraftColumn.{DraftColumn}
use Rattle.mig_plan.specs.declared.drafts.DraftTable.{DraftTable}
use Rattle.mig_lens.specs.declared.faults.Member.TheVariants as member
use Rattle.mig_lens.specs.declared.faults.PlanFault.TheVariants.{BadType, ColumnTwice, DownNeeded, Exists, KeyColumn, Limit, NoSuchColumn, UpNeeded}
use Rattle.mig_lens.specs.declared.migrations.ColumnDef.{ColumnDef}
use Rattle.mig_plan.specs.Columns.{after_renaming, altered, check_taken, column_added, column_altered, column_dropped, column_fault, column_faults, column_of, column_renamed, key_fault, name_fault, name_faults, new_column, place_fault, place_named, rename_fault, standing, twice_fault, unique_names, unique_over, unique_taken, uniques_of, value_fault, wants_down, wants_up, with_altered, with_column, with_name, without_column}
use Rattle.mig_plan.specs.Draft.{column_meant, has_column, is_at, is_called, is_either, is_key_named, is_now, linked, new_count, put_after, way}
use Rattle.mig_plan.specs.Finish.{new_side}
use Rattle.mig_plan.specs.Versions.{first, unique_name, when}
use Rattle.mig_plan.proofs.Each.{Each, each_append, each_found, each_more}
use Rattle.mig_plan.proofs.Fine.{all_none, each_at, each_filtered, each_not, not_false, not_true, ok_or_ok, or_none, when_none, without_fault_ok}
use Rattle.mig_plan.proofs.Names.{Differ, Free, Stands, called_is, found_is_now, get_last, neither, only, place_stands, stands_mapped}
use Rattle.mig_plan.proofs.Sides.{Twin, fits_default, same_is}
use Rattle.mig_plan.proofs.Sound.{ColumnSound, KeyIn, KeyStays, Marked, Puts, TableSound, more_sound, put_sound, uniques_more}

-- A table that was made from another one is sound, and is the same table.
pub record After_ (old : Schema) (t next : DraftTable) : Type 0 where
  pub sound : TableSound old next
  pub number : next.number ≡ t.number
  pub stood : next.stood ≡ t.stood
  pub name : next.name ≡ t.name

-- ---- add_column

pub free_differs : (x : Column) (p : Option Column) → is_called x.name p ≡ false → Differ p (Some x)
free_differs x None h = tt
free_differs x (Some y) h = h

pub unique_stands : (title : List ℕ) (column : ColumnDef) (cs : List DraftColumn) (x : DraftColumn) (y : Column) → new_side x ≡ Some y → Each (λ u. Each (Stands (cs ++ x ∷ [])) u.columns) (uniques_of title column (length cs))
unique_stands title column cs x y h = by_test column.unique
  where
    here : Stands (cs ++ x ∷ []) (length cs)
    here = ap (λ o. is_some (option_and_then new_side o)) (get_last cs x) ∙ ap is_some h

    by_test : (b : Bool) → Each {X = Unique} (λ u. Each (Stands (cs ++ x ∷ [])) u.columns) (if b then record { name = unique_name title column.name; columns = length cs ∷ [] } ∷ [] else [])
    by_test true = ((here, tt), tt)
    by_test false = tt

pub new_sound : (column : ColumnDef) (up : Option Expr) (subject : Option ℕ) → has_type (Some column.ty) column.default ≡ true → Marked up None subject → ColumnSound (new_column column up subject)
new_sound column up subject fits marked = record { now_fits = fits; old_fits = refl; twin = tt; marked = marked }

-- A table with one column more is sound, where the column's name is free.
pub with_column_sound : (old : Schema) (title : List ℕ) (column : ColumnDef) (up : Option Expr) (subject : Option ℕ) (at : ℕ) (t : DraftTable) → TableSound old t → has_column column.name t ≡ false → has_type (Some column.ty) column.default ≡ true → Marked up None subject → new_count t.columns + 1 ≤ max_columns → TableSound old (with_column title column up subject at t)
with_column_sound old title column up subject at t s free fits marked room =
    let x = new_column column up subject in
    let apart = each_more (λ c. is_either column.name c ≡ false) (λ c. Differ (new_side c) (new_side x)) (λ c h. free_differs (column_of column) (new_side c) (neither (is_called column.name c.before) (is_now column.name c) h).1) t.columns (each_not (is_either column.name) t.columns free) in
    more_sound old t (with_column title column up subject at t) x s (new_sound column up subject fits marked) refl apart room refl refl refl refl (each_append (λ u. Each (Stands (t.columns ++ x ∷ [])) u.columns) t.uniques (uniques_of title column (length t.columns)) (uniques_more t.columns (x ∷ []) t.uniques s.uniques) (unique_stands title column t.columns x (column_of column) refl))

marked_at : (up : Option Expr) (at : ℕ) → Marked up None (Some at)
marked_at None at = tt
marked_at (Some e) at = tt

pub free_name : (old : Schema) (title : List ℕ) (t : DraftTable) (column : ColumnDef) → name_fault old title t column ≡ None → has_column column.name t ≡ false
free_name old title t column h = when_none (has_column column.name t) (Exists column.name) (all_none (name_faults old title t column) h 0)

pub added_sound : (old : Schema) (at : ℕ) (title : List ℕ) (column : ColumnDef) (up : Option Expr) (t next : DraftTable) → TableSound old t → column_added old at title column up t ≡ Ok next → After_ old t next
added_sound old at title column up t next s h =
    let a = without_fault_ok (column_fault old at title t column up) (with_column title column up (Some at) at t) next h in
    let faults = all_none (column_faults old at title t column up) a.0 in
    let free = free_name old title t column (faults 0) in
    let fits = not_false (has_type (Some column.ty) column.default) (when_none (not (has_type (Some column.ty) column.default)) (BadType (record { operation = at; member = member.Default })) (faults 3)) in
    let full = when_none (nat_le max_columns (new_count t.columns)) (Limit (codes "columns")) (faults 4) in
    let room : new_count t.columns + 1 ≤ max_columns = grind (arith, nat_tests) in
    let made = with_column_sound old title column up (Some at) at t s free fits (marked_at up at) room in
    subst (After_ old t) a.1 (record { sound = made; number = refl; stood = refl; name = refl })

-- ---- a column that stands

record Found (title : List ℕ) (t : DraftTable) (name : List ℕ) : Type 0 where
  column : DraftColumn
  now : Column
  is_found : find (is_now name) t.columns ≡ Some column
  is_now_ : column.after.column ≡ Some now

found_in : (title : List ℕ) (t : DraftTable) (name : List ℕ) (x : DraftColumn × Column) → standing title t name ≡ Ok x → (find (is_now name) t.columns ≡ Some x.0) × (x.0.after.column ≡ Some x.1)
found_in title t name x h =
    let a = and_then_ok (ok_or (column_meant t name) (NoSuchColumn title name)) _ x h in
    let found = ok_or_ok (column_meant t name) (NoSuchColumn title name) a.0 a.1 in
    let b = and_then_ok (ok_or a.0.after.column (NoSuchColumn title name)) _ x a.2 in
    let now = ok_or_ok a.0.after.column (NoSuchColumn title name) b.0 b.1 in
    let pair : ◌≡◌ {A = DraftColumn × Column} (a.0, b.0) x = cc in
    subst (λ (y : DraftColumn × Column). (find (is_now name) t.columns ≡ Some y.0) × (y.0.after.column ≡ Some y.1)) pair (found, now)

key_apart : (t : DraftTable) (name : List ℕ) (k : KeyIn t.columns t.key) → is_key_named t name ≡ false → is_now name k.at ≡ false
key_apart t name k h = sym (ap (λ o. option_map_or (is_now name) o false) k.is_at) ∙ h

not_subject : (title name : List ℕ) (c : DraftColumn) → twice_fault title name c ≡ None → c.after.subject ≡ None
not_subject title name c h = by_case c.after.subject (when_none (is_some c.after.subject) (ColumnTwice title name) h)
  where
    by_case : (o : Option ℕ) → is_some o ≡ false → o ≡ None
    by_case None k = refl
    by_case (Some n) k = cc

unmarked : (up down : Option Expr) (subject : Option ℕ) → Marked up down subject → subject ≡ None → (up ≡ None) × (down ≡ None)
unmarked up down (Some n) m h = cc
unmarked None None None m h = (refl, refl)
unmarked None (Some d) None m h = absurd m
unmarked (Some u) down None m h = absurd m

-- the column is carried as it was
carried_type : (c : DraftColumn) (now : Column) → ColumnSound c → c.after.column ≡ Some now → c.after.subject ≡ None → Twin c.before (Some now) None None
carried_type c now s is free =
    let plain = unmarked c.after.up c.after.down c.after.subject s.marked free in
    subst (λ d. Twin c.before (Some now) None d) plain.1 (subst (λ u. Twin c.before (Some now) u c.after.down) plain.0 (subst (λ o. Twin c.before o c.after.up c.after.down) is s.twin))

now_fitting : (c : DraftColumn) (now : Column) → ColumnSound c → c.after.column ≡ Some now → has_type (Some now.ty) now.default ≡ true
now_fitting c now s is = sym (ap fits_default is) ∙ s.now_fits

-- ---- drop_column

lone : (before : Option Column) (up down : Option Expr) → Twin before None up down
lone None up down = tt
lone (Some b) up down = tt

left_stand : (name : List ℕ) (a : After) (cs : List DraftColumn) (ats : List ℕ) → Each (Stands cs) ats → Each (λ at. is_at cs name at ≡ false) ats → Each (Stands (map (put_after name a) cs)) ats
left_stand name a cs [] h k = tt
left_stand name a cs (at ∷ ats) h k = (stands_mapped (put_after name a) cs at here h.0, left_stand name a cs ats h.1 k.1)
  where
    here : (c : DraftColumn) → slice_get cs at ≡ Some c → is_some (new_side c) ≡ true → is_some (new_side (put_after name a c)) ≡ true
    here c g stands =
        let apart : is_now name c ≡ false = sym (ap (λ o. option_map_or (is_now name) o false) g) ∙ k.0 in
        rw apart stands

pub dropped_sound : (old : Schema) (at : ℕ) (title name : List ℕ) (down : Option Expr) (t next : DraftTable) → TableSound old t → column_dropped at title name down t ≡ Ok next → After_ old t next
dropped_sound old at title name down t next s h =
    let a = and_then_ok (standing title t name) _ next h in
    let found = found_in title t name a.0 a.1 in
    let b = without_fault_ok (first (key_fault title t name ∷ twice_fault title name a.0.0 ∷ [])) (without_column name down at t) next a.2 in
    let faults = all_none (key_fault title t name ∷ twice_fault title name a.0.0 ∷ []) b.0 in
    let apart = key_apart t name s.key (when_none (is_key_named t name) (KeyColumn title) (faults 0)) in
    let after : After = record { column = None; up = None; down = down; subject = Some at } in
    let was = each_found ColumnSound (is_now name) t.columns a.0.0 found.0 s.columns in
    let puts : Puts name after t s.key.at = record {
      found = a.0.0;
      is_found = found.0;
      sound = record { now_fits = refl; old_fits = was.old_fits; twin = lone a.0.0.before None down; marked = tt };
      named = tt;
      stays = inl apart;
    } in
    let kept = each_filtered (λ u. Each (Stands t.columns) u.columns) (λ unique. not (unique_names t.columns name unique)) t.uniques s.uniques in
    let uniques = each_more (λ u. Each (Stands t.columns) u.columns × (not (unique_names t.columns name u) ≡ true)) (λ u. Each (Stands (map (put_after name after) t.columns)) u.columns) (λ u e. left_stand name after t.columns u.columns e.0 (each_not (is_at t.columns name) u.columns (not_true (unique_names t.columns name u) e.1))) (filter (λ unique. not (unique_names t.columns name unique)) t.uniques) kept in
    subst (After_ old t) b.1 (record { sound = put_sound old t (without_column name down at t) name after s puts refl refl refl refl uniques; number = refl; stood = refl; name = refl })

-- ---- a column that stays

put_stands : (name : List ℕ) (a : After) (c : DraftColumn) → is_some a.column ≡ true → is_some (new_side c) ≡ true → is_some (new_side (put_after name a c)) ≡ true
put_stands name a c h k = by_test (is_now name c)
  where
    by_test : (b : Bool) → is_some (new_side (if b then record c { after = a } else c)) ≡ true
    by_test true = h
    by_test false = k

still_stand : (name : List ℕ) (a : After) (cs : List DraftColumn) (ats : List ℕ) → is_some a.column ≡ true → Each (Stands cs) ats → Each (Stands (map (put_after name a) cs)) ats
still_stand name a cs ats h e = each_more (Stands cs) (Stands (map (put_after name a) cs)) (λ at. stands_mapped (put_after name a) cs at (λ c g. put_stands name a c h)) ats e

all_still_stand : (name : List ℕ) (a : After) (cs : List DraftColumn) (us : List Unique) → is_some a.column ≡ true → Each (λ u. Each (Stands cs) u.columns) us → Each (λ u. Each (Stands (map (put_after name a) cs)) u.columns) us
all_still_stand name a cs us h e = each_more (λ u. Each (Stands cs) u.columns) (λ u. Each (Stands (map (put_after name a) cs)) u.columns) (λ u. still_stand name a cs u.columns h) us e

-- ---- rename_column

named_key : (now other : Column) → now ≡ other → (to : List ℕ) → is_key (Some now) ≡ true → is_key (Some (record other { name = to })) ≡ true
named_key now other e to h = subst (λ c. is_key (Some c) ≡ true) e h

renamed_twin : (before : Option Column) (now : Column) (to : List ℕ) → Twin before (Some now) None None → Twin before (Some (record now { name = to })) None None
renamed_twin None now to t = tt
renamed_twin (Some b) now to t = t

renaming_key : (from to : List ℕ) (at : ℕ) (cs : List DraftColumn) (key : ℕ) (k : KeyIn cs key) (found : DraftColumn) (now : Column) → found.after.column ≡ Some now → Each (λ d. is_now from d ≡ true → d ≡ found) cs → KeyStays from (after_renaming to at now) k.at
renaming_key from to at cs key k found now is same = by_test (is_now from k.at) refl
  where
    by_test : (b : Bool) → is_now from k.at ≡ b → KeyStays from (after_renaming to at now) k.at
    by_test false h = inl h
    by_test true h =
        let one : k.at ≡ found = each_at (λ d. is_now from d ≡ true → d ≡ found) cs key k.at k.is_at same h in
        let now_is : k.now ≡ now = let e = sym k.is_now ∙ ap (λ d. d.after.column) one ∙ is in cc in
        inr (record now { name = to }, refl, named_key k.now now now_is to k.is_key, refl, refl)

pub renamed_sound : (old : Schema) (at : ℕ) (title from to : List ℕ) (t next : DraftTable) → TableSound old t → column_renamed at title from to t ≡ Ok next → After_ old t next
renamed_sound old at title from to t next s h =
    let a = and_then_ok (standing title t from) _ next h in
    let found = found_in title t from a.0 a.1 in
    let column : DraftColumn = a.0.0 in
    let now : Column = a.0.1 in
    let b = without_fault_ok (rename_fault title from to t column) (with_name from to at now t) next a.2 in
    let faults = all_none (when (has_column to t) (Exists to) ∷ twice_fault title from column ∷ []) b.0 in
    let free = each_more (λ c. is_either to c ≡ false) (λ c. Free to (new_side c)) (λ c g. (neither (is_called to c.before) (is_now to c) g).1) t.columns (each_not (is_either to) t.columns (when_none (has_column to t) (Exists to) (faults 0))) in
    let after = after_renaming to at now in
    let was = each_found ColumnSound (is_now from) t.columns column found.0 s.columns in
    let carried = carried_type column now was found.1 (not_subject title from column (faults 1)) in
    let puts : Puts from after t s.key.at = record {
      found = column;
      is_found = found.0;
      sound = record { now_fits = now_fitting column now was found.1; old_fits = was.old_fits; twin = renamed_twin column.before now to carried; marked = tt };
      named = inr free;
      stays = renaming_key from to at t.columns t.key s.key column now found.1 (only from t.columns column s.distinct found.0);
    } in
    subst (After_ old t) b.1 (record { sound = put_sound old t (with_name from to at now t) from after s puts refl refl refl refl (all_still_stand from after t.columns t.uniques refl s.uniques); number = refl; stood = refl; name = refl })

-- ---- alter_column

-- Where neither `up` nor `down` is given the type is as it was.
pub linked_twin : (before : Option Column) (other : Column) (up down : Option Expr) → (is_none up ≡ true → is_none down ≡ true → Twin before (Some other) None None) → Twin before (Some other) (way up down before) (way down up (Some other))
linked_twin None other up down h = tt
linked_twin (Some b) other None None h = h refl refl
linked_twin (Some b) other (Some u) None h = tt
linked_twin (Some b) other None (Some d) h = tt
linked_twin (Some b) other (Some u) (Some d) h = tt

no_change : (b c d : Bool) → ((not b || c) && d) ≡ false → d ≡ true → b ≡ true
no_change true c d h k = refl
no_change false c true h k = cc
no_change false c false h k = cc

retyped_twin : (before : Option Column) (now other : Column) → now.ty ≡ other.ty → Twin before (Some now) None None → Twin before (Some other) None None
retyped_twin None now other e t = tt
retyped_twin (Some b) now other e t = t ∙ e

over_stands : (unique : Option (List ℕ)) (cs : List DraftColumn) (at : ℕ) → Stands cs at → Each (λ u. Each (Stands cs) u.columns) (unique_over unique (at ∷ []))
over_stands None cs at h = tt
over_stands (Some name) cs at h = ((h, tt), tt)

pub altered_sound : (old : Schema) (at : ℕ) (title name : List ℕ) (ty : Option Ty) (nullable : Option Bool) (default : Option Value) (unique : Option (List ℕ)) (check : Option Check) (up down : Option Expr) (t next : DraftTable) → TableSound old t → column_altered old at title name ty nullable default unique check up down t ≡ Ok next → After_ old t next
altered_sound old at title name ty nullable default unique check up down t next s h =
    let a = and_then_ok (standing title t name) _ next h in
    let found = found_in title t name a.0 a.1 in
    let column : DraftColumn = a.0.0 in
    let now : Column = a.0.1 in
    let other = altered now ty nullable default in
    let after = linked column.before other up down at in
    let b = without_fault_ok (option_or (place_fault old title name t column unique check) (value_fault at title name now other up down)) (with_altered name after unique check at t) next a.2 in
    let two = or_none (place_fault old title name t column unique check) (value_fault at title name now other up down) b.0 in
    let places = all_none (unique_taken old title t unique ∷ check_taken old title t unique check ∷ key_fault title t name ∷ twice_fault title name column ∷ []) two.0 in
    let values = all_none (when (wants_up now other up) (UpNeeded title name) ∷ when (wants_down now other down) (DownNeeded title name) ∷ when (not (has_type (Some other.ty) other.default)) (BadType (record { operation = at; member = member.Default })) ∷ []) two.1 in
    let apart = key_apart t name s.key (when_none (is_key_named t name) (KeyColumn title) (places 2)) in
    let was = each_found ColumnSound (is_now name) t.columns column found.0 s.columns in
    let carried = carried_type column now was found.1 (not_subject title name column (places 3)) in
    let fits = not_false (has_type (Some other.ty) other.default) (when_none (not (has_type (Some other.ty) other.default)) (BadType (record { operation = at; member = member.Default })) (values 2)) in
    let one_type : is_none up ≡ true → now.ty ≡ other.ty = λ no_up. same_is now.ty other.ty (no_change (same now.ty other.ty) (now.nullable && not other.nullable) (is_none up) (when_none (wants_up now other up) (UpNeeded title name) (values 0)) no_up) in
    let twin = linked_twin column.before other up down (λ no_up no_down. retyped_twin column.before now other (one_type no_up) carried) in
    let stands = place_stands t.columns name (ap is_some found.0) in
    let puts : Puts name after t s.key.at = record {
      found = column;
      is_found = found.0;
      sound = record { now_fits = fits; old_fits = was.old_fits; twin = twin; marked = tt };
      named = inl (called_is name column.after.column now found.1 (found_is_now name t.columns column found.0));
      stays = inl apart;
    } in
    let uniques = all_still_stand name after t.columns (t.uniques ++ unique_over unique (place_named t.columns name ∷ [])) refl (each_append (λ u. Each (Stands t.columns) u.columns) t.uniques (unique_over unique (place_named t.columns name ∷ [])) s.uniques (over_stands unique t.columns (place_named t.columns name) stands)) in
    subst (After_ old t) b.1 (record { sound = put_sound old t (with_altered name after unique check at t) name after s puts refl refl refl refl uniques; number = refl; stood = refl; name = refl })
