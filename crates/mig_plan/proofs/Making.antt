-- Each operation leaves a sound table sound: the operations on constraints and on tables.
use Rattle.std.proofs.Common.{◌≡◌, ◌∙◌, ℕ, ◌≤◌, List, [], ◌∷◌, Bool, true, false, not, Option, Some, None, Ok, if◌then◌else◌, length, map, ap, refl, sym, subst}
use Rattle.std.specs.Prelude.{find, is_none, is_some}
use Rattle.std.specs.List.{filter, filter_map}
use Rattle.std.specs.Option.{ok_or, option_map, option_map_or, option_or}
use Rattle.std.specs.Str.{bytes_eq}
use Rattle.std.proofs.lemmas.Bool.{false≢true}
use Rattle.sql_base.specs.declared.exprs.Expr.{Expr}
use Rattle.sql_base.specs.declared.shapes.Column.{Column}
use Rattle.sql_base.specs.declared.shapes.Schema.{Schema}
use Rattle.sql_base.specs.declared.shapes.Unique.{Unique}
use Rattle.sql_base.specs.Laws.{and_then_ok}
use Rattle.sql_eval.specs.Shape.{max_columns}
use Rattle.mig_plan.specs.declared.drafts.DraftColumn.{DraftColumn}
use Rattle.mig_plan.specs.declared.drafts.DraftTable.{DraftTable}
use Rattle.mig_lens.specs.declared.faults.PlanFault.TheVariants.{Exists, KeyColumn, NoSuchColumn}
use Rattle.mig_lens.specs.declared.migrations.Ways.{Ways}
use Rattle.mig_plan.specs.Columns.{key_fault, place_named}
use Rattle.mig_plan.specs.Constraints.{Pairs, absent_fault, constraint_columns, constraint_created, constraint_dropped, create_faults, drop_faults, dropped, expr_for, first_of, loose_faults, made_by, pairs_for, stray_fault, way_faults, with_constraint, with_made, with_ways, without_constraint}
use Rattle.mig_plan.specs.Draft.{column_meant, has_either_constraint, is_key_named, is_now, is_unique_named, linked}
use Rattle.mig_plan.specs.Finish.{new_side, old_side}
use Rattle.mig_plan.specs.Versions.{first, when}
use Rattle.mig_plan.proofs.Each.{Each, each_append, each_mapped, each_more}
use Rattle.mig_plan.proofs.Fine.{all_none, each_filtered, each_fine, not_false, or_none, when_none, without_fault_ok}
use Rattle.mig_plan.proofs.Names.{Differ, Distinct, Stands, distinct_mapped, get_mapped, name_is, name_same, place_stands, side_kept, stands_mapped}
use Rattle.mig_plan.proofs.Operations.{After_, linked_twin}
use Rattle.mig_plan.proofs.Sides.{fits_default}
use Rattle.mig_plan.proofs.Sound.{ColumnSound, KeyIn, Stood, TableSound, stood_mapped}

-- ---- columns that are made on both sides

kept_by : (up down : Option Expr) (at : ℕ) (now : Column) (c : DraftColumn) → c.after.column ≡ Some now → (new_side (made_by up down at now c) ≡ new_side c) × (old_side (made_by up down at now c) ≡ old_side c)
kept_by None None at now c h = (refl, refl)
kept_by None (Some d) at now c h = (sym h, refl)
kept_by (Some u) down at now c h = (sym h, refl)

kept_both : (ups downs : Pairs) (at : ℕ) (c : DraftColumn) → (new_side (with_ways ups downs at c) ≡ new_side c) × (old_side (with_ways ups downs at c) ≡ old_side c)
kept_both ups downs at c = by_case c.after.column refl
  where
    by_case : (o : Option Column) → c.after.column ≡ o → (new_side (option_map_or (λ now. made_by (expr_for ups now.name) (expr_for downs now.name) at now c) o c) ≡ new_side c) × (old_side (option_map_or (λ now. made_by (expr_for ups now.name) (expr_for downs now.name) at now c) o c) ≡ old_side c)
    by_case None h = (refl, refl)
    by_case (Some now) h = kept_by (expr_for ups now.name) (expr_for downs now.name) at now c h

linked_sound : (c : DraftColumn) (now : Column) (up down : Option Expr) (at : ℕ) → ColumnSound c → c.after.column ≡ Some now → (is_none up ≡ true → is_none down ≡ true → ⊥) → ColumnSound (record c { after = linked c.before now up down at })
linked_sound c now up down at s h some =
    record { now_fits = sym (ap fits_default h) ∙ s.now_fits; old_fits = s.old_fits; twin = linked_twin c.before now up down (λ u d. absurd (some u d)); marked = tt }

made_sound : (up down : Option Expr) (at : ℕ) (now : Column) (c : DraftColumn) → c.after.column ≡ Some now → ColumnSound c → ColumnSound (made_by up down at now c)
made_sound None None at now c h s = s
made_sound None (Some d) at now c h s = linked_sound c now None (Some d) at s h (λ u d. cc)
made_sound (Some u) None at now c h s = linked_sound c now (Some u) None at s h (λ u d. cc)
made_sound (Some u) (Some d) at now c h s = linked_sound c now (Some u) (Some d) at s h (λ u d. cc)

ways_sound : (ups downs : Pairs) (at : ℕ) (c : DraftColumn) → ColumnSound c → ColumnSound (with_ways ups downs at c)
ways_sound ups downs at c s = by_case c.after.column refl
  where
    by_case : (o : Option Column) → c.after.column ≡ o → ColumnSound (option_map_or (λ now. made_by (expr_for ups now.name) (expr_for downs now.name) at now c) o c)
    by_case None h = s
    by_case (Some now) h = made_sound (expr_for ups now.name) (expr_for downs now.name) at now c h s

no_way : (name : List ℕ) (pairs : Pairs) → Each (λ pair. bytes_eq name pair.0 ≡ false) pairs → expr_for pairs name ≡ None
no_way name [] h = refl
no_way name (pair ∷ pairs) h = by_test (bytes_eq pair.0 name) refl (no_way name pairs h.1)
  where
    by_test : (b : Bool) → bytes_eq pair.0 name ≡ b → expr_for pairs name ≡ None → option_map (λ pair. pair.1) (if b then Some pair else find (λ pair. bytes_eq pair.0 name) pairs) ≡ None
    by_test true g more = absurd (false≢true (sym h.0 ∙ subst (λ n. bytes_eq name n ≡ true) (sym (name_is pair.0 name g)) (name_same name)))
    by_test false g more = more

key_free : (title : List ℕ) (t : DraftTable) (k : KeyIn t.columns t.key) (pairs : Pairs) → first_of (key_fault title t) pairs ≡ None → expr_for pairs k.now.name ≡ None
key_free title t k pairs h =
    no_way k.now.name pairs (each_more (λ pair. key_fault title t pair.0 ≡ None) (λ pair. bytes_eq k.now.name pair.0 ≡ false) (λ pair e. sym (ap (λ o. option_map_or (is_now pair.0) o false) k.is_at ∙ ap (λ o. named pair.0 o) k.is_now) ∙ when_none (is_key_named t pair.0) (KeyColumn title) e) pairs (each_fine (λ pair. key_fault title t pair.0) pairs h))
  where
    named : List ℕ → Option Column → Bool
    named name None = false
    named name (Some c) = bytes_eq c.name name

key_as_it_was : (ups downs : Pairs) (at : ℕ) (c : DraftColumn) (now : Column) → c.after.column ≡ Some now → expr_for ups now.name ≡ None → expr_for downs now.name ≡ None → with_ways ups downs at c ≡ c
key_as_it_was ups downs at c now is u d = ap (λ o. option_map_or (λ now. made_by (expr_for ups now.name) (expr_for downs now.name) at now c) o c) is ∙ ap (λ o. made_by o (expr_for downs now.name) at now c) u ∙ ap (λ o. made_by None o at now c) d

-- What is asked where columns are made: no fault of their names.
ways_stand : (ups downs : Pairs) (at : ℕ) (cs : List DraftColumn) (us : List Unique) → Each (λ u. Each (Stands cs) u.columns) us → Each (λ u. Each (Stands (map (with_ways ups downs at) cs)) u.columns) us
ways_stand ups downs at cs us h =
    each_more (λ u. Each (Stands cs) u.columns) (λ u. Each (Stands (map (with_ways ups downs at) cs)) u.columns) (λ u. each_more (Stands cs) (Stands (map (with_ways ups downs at) cs)) (λ place. stands_mapped (with_ways ups downs at) cs place (λ c g some. ap is_some (kept_both ups downs at c).0 ∙ some)) u.columns) us h

all_of : (cs : List DraftColumn) → Each (λ c. Unit {0}) cs
all_of [] = tt
all_of (c ∷ cs) = (tt, all_of cs)

pub ways_table : (old : Schema) (title : List ℕ) (ups downs : Pairs) (at : ℕ) (t next : DraftTable) → TableSound old t → first (way_faults title t ups downs) ≡ None → next.number ≡ t.number → next.stood ≡ t.stood → next.key ≡ t.key → next.columns ≡ map (with_ways ups downs at) t.columns → Each (λ u. Each (Stands t.columns) u.columns) next.uniques → TableSound old next
ways_table old title ups downs at t next s fine number stood key columns uniques =
    let f = with_ways ups downs at in
    let cs = t.columns in
    let faults = all_none (way_faults title t ups downs) fine in
    let same = key_as_it_was ups downs at s.key.at s.key.now s.key.is_now (key_free title t s.key ups (faults 0)) (key_free title t s.key downs (faults 1)) in
    let new_same : filter_map new_side (map f cs) ≡ filter_map new_side cs = side_kept new_side f (λ c. (kept_both ups downs at c).0) cs in
    let key_in : KeyIn (map f cs) t.key = record { at = s.key.at; is_at = get_mapped f cs t.key ∙ ap (option_map f) s.key.is_at ∙ ap Some same; now = s.key.now; is_now = s.key.is_now; is_key = s.key.is_key; up = s.key.up; down = s.key.down } in
    record {
      columns = subst (Each ColumnSound) (sym columns) (each_mapped ColumnSound ColumnSound f (ways_sound ups downs at) cs s.columns);
      distinct = subst Distinct (sym columns) (distinct_mapped f (λ c. Unit {0}) (λ c d p q h. subst (λ o. Differ o (new_side (f d))) (sym (kept_both ups downs at c).0) (subst (Differ (new_side c)) (sym (kept_both ups downs at d).0) h)) cs (all_of cs) s.distinct);
      few = subst (λ ds. length (filter_map new_side ds) ≤ max_columns) (sym columns) (subst (λ ns. length ns ≤ max_columns) (sym new_same) s.few);
      key = subst (λ ds. KeyIn ds next.key) (sym columns) (subst (KeyIn (map f cs)) (sym key) key_in);
      uniques = subst (λ ds. Each (λ u. Each (Stands ds) u.columns) next.uniques) (sym columns) (ways_stand ups downs at cs next.uniques uniques);
      stood = λ h.
          let before = stood_mapped old t.number t.key f cs (λ c. (kept_both ups downs at c).1) (s.stood (sym stood ∙ h)) in
          subst (Stood old next.number next.key) (sym columns) (subst (λ n. Stood old n next.key (map f cs)) (sym number) (subst (λ k. Stood old t.number k (map f cs)) (sym key) before));
    }

-- ---- create_constraint

places_stand : (title : List ℕ) (t : DraftTable) (columns : List (List ℕ)) → Each (λ name. absent_fault title t name ≡ None) columns → Each (Stands t.columns) (map (place_named t.columns) columns)
places_stand title t [] h = tt
places_stand title t (name ∷ columns) h =
    (place_stands t.columns name (not_false (is_some (column_meant t name)) (when_none (not (is_some (column_meant t name))) (NoSuchColumn title name) h.0)), places_stand title t columns h.1)

constraint_stands : (at : ℕ) (title name : List ℕ) (columns : List (List ℕ)) (check : Option Expr) (t : DraftTable) → Each (λ u. Each (Stands t.columns) u.columns) t.uniques → Each (λ name. absent_fault title t name ≡ None) columns → Each (λ u. Each (Stands t.columns) u.columns) (with_constraint at name columns check t).uniques
constraint_stands at title name columns (Some e) t h k = h
constraint_stands at title name columns None t h k =
    let places = places_stand title t columns k in
    each_append (λ u. Each (Stands t.columns) u.columns) t.uniques (record { name = name; columns = map (place_named t.columns) columns } ∷ []) h (places, tt)

made_frame : (ups downs : Pairs) (at : ℕ) (name : List ℕ) (columns : List (List ℕ)) (check : Option Expr) (t : DraftTable) → let next = with_made ups downs at (with_constraint at name columns check t) in (next.number ≡ t.number) × (next.stood ≡ t.stood) × (next.name ≡ t.name) × (next.key ≡ t.key) × (next.columns ≡ map (with_ways ups downs at) t.columns)
made_frame ups downs at name columns (Some e) t = (refl, refl, refl, refl, refl)
made_frame ups downs at name columns None t = (refl, refl, refl, refl, refl)

pub created_sound : (old : Schema) (at : ℕ) (title name : List ℕ) (columns : List (List ℕ)) (check : Option Expr) (ups downs : Pairs) (t next : DraftTable) → TableSound old t → constraint_created old at title name columns check ups downs t ≡ Ok next → After_ old t next
created_sound old at title name columns check ups downs t next s h =
    let a = without_fault_ok (first (create_faults old title t name columns ups downs)) (with_made ups downs at (with_constraint at name columns check t)) next h in
    let absent = first (map (absent_fault title t) columns) in
    let b = or_none absent _ a.0 in
    let c = or_none (first_of (stray_fault title columns) ups) _ b.1 in
    let d = or_none (first_of (stray_fault title columns) downs) _ c.1 in
    let e = or_none (when (has_either_constraint old title name t) (Exists name)) (first (way_faults title t ups downs)) d.1 in
    let frame = made_frame ups downs at name columns check t in
    let made = ways_table old title ups downs at t (with_made ups downs at (with_constraint at name columns check t)) s e.1 frame.0 frame.1 frame.3 frame.4 (constraint_stands at title name columns check t s.uniques (each_fine (absent_fault title t) columns b.0)) in
    subst (After_ old t) a.1 (record { sound = made; number = frame.0; stood = frame.1; name = frame.2 })

-- ---- drop_constraint

pub freed_sound : (old : Schema) (at : ℕ) (title name : List ℕ) (up down : Option Ways) (t next : DraftTable) → TableSound old t → constraint_dropped at title name up down t ≡ Ok next → After_ old t next
freed_sound old at title name up down t next s h =
    let a = and_then_ok (ok_or (constraint_columns title t name) (NoSuchColumn title name)) (dropped at title name up down t) next h in
    let ups = pairs_for a.0 up in
    let downs = pairs_for a.0 down in
    let b = without_fault_ok (option_or (first (drop_faults title t name a.0 ups downs)) (loose_faults at a.0 up down)) (with_made ups downs at (without_constraint name t)) next a.2 in
    let c = or_none (first (drop_faults title t name a.0 ups downs)) (loose_faults at a.0 up down) b.0 in
    let d = or_none (first_of (stray_fault title a.0) ups) _ c.0 in
    let e = or_none (first_of (stray_fault title a.0) downs) _ d.1 in
    let f = or_none _ (first (way_faults title t ups downs)) e.1 in
    let kept = each_filtered (λ u. Each (Stands t.columns) u.columns) (λ unique. not (is_unique_named name unique)) t.uniques s.uniques in
    let uniques = each_more (λ u. Each (Stands t.columns) u.columns × (not (is_unique_named name u) ≡ true)) (λ u. Each (Stands t.columns) u.columns) (λ u k. k.0) (filter (λ unique. not (is_unique_named name unique)) t.uniques) kept in
    let made = ways_table old title ups downs at t (with_made ups downs at (without_constraint name t)) s f.1 refl refl refl refl uniques in
    subst (After_ old t) b.1 (record { sound = made; number = refl; stood = refl; name = refl })

-- ---- drop_table and rename_table

pub retitled_sound : (old : Schema) (t : DraftTable) (name : Option (List ℕ)) → TableSound old t → TableSound old (record t { name = name })
retitled_sound old t name s = record { columns = s.columns; distinct = s.distinct; few = s.few; key = s.key; uniques = s.uniques; stood = s.stood }
