-- The lenses and shapes of a plan.
use Rattle.std.proofs.Common.{◌≡◌, ◌∙◌, ℕ, zero, suc, ◌≤◌, List, [], ◌∷◌, Bool, true, false, not, ◌||◌, Option, Some, None, Ok, Err, if◌then◌else◌, length, map, ap, refl, sym, subst, arith}
use Rattle.std.specs.Prelude.{◌==◌, codes, find, is_some, nat_le, nat_lt, slice_get}
use Rattle.std.specs.List.{cons_option, filter_map, list_all, list_any}
use Rattle.std.specs.Option.{option_and_then, option_map}
use Rattle.std.specs.Str.{bytes_eq}
use Rattle.std.proofs.lemmas.Bool.Decides.{nat_tests}
use Rattle.sql_base.specs.declared.exprs.Expr.{Expr}
use Rattle.sql_base.specs.declared.shapes.Column.{Column}
use Rattle.sql_base.specs.declared.shapes.Schema.{Schema}
use Rattle.sql_base.specs.declared.shapes.Shape.{Shape}
use Rattle.sql_base.specs.declared.shapes.Unique.{Unique}
use Rattle.sql_base.specs.declared.values.Ty.{Ty}
use Rattle.sql_base.specs.declared.values.Ty.TheVariants as ty
use Rattle.sql_base.specs.Fit.{has_type}
use Rattle.sql_base.specs.Laws.{all_true, and_then_ok, both}
use Rattle.sql_base.specs.Outcome.{every}
use Rattle.sql_eval.specs.Shape.{WellFormed, all_different, has_places, is_condition, is_key, max_columns}
use Rattle.sql_eval.specs.Typing.{Typed, same, type_of}
use Rattle.mig_lens.specs.declared.columns.Lens.{Lens}
use Rattle.mig_plan.specs.declared.drafts.Draft.{Draft}
use Rattle.mig_plan.specs.declared.drafts.DraftCheck.{DraftCheck}
use Rattle.mig_plan.specs.declared.drafts.DraftColumn.{DraftColumn}
use Rattle.mig_plan.specs.declared.drafts.DraftTable.{DraftTable}
use Rattle.mig_lens.specs.declared.faults.Member.{Member}
use Rattle.mig_lens.specs.declared.faults.Member.TheVariants as member
use Rattle.mig_lens.specs.declared.faults.Place.{Place}
use Rattle.mig_lens.specs.declared.faults.PlanFault.TheVariants.{BadExpr, Limit}
use Rattle.mig_lens.specs.declared.migrations.Migration.{Migration}
use Rattle.mig_lens.specs.declared.plans.Plan.{Plan}
use Rattle.mig_plan.specs.Finish.{fate, fate_of, finished, lens_of_columns, new_cells, new_side, new_table, old_cells, old_side, place, shape_of, unique_of}
use Rattle.mig_lens.specs.Laws.{AllBelow, IsBelow, IsSchema, numbers_differ}
use Rattle.mig_plan.specs.Laws.{PlannedLensesJoin, PlansKeepSchemas}
use Rattle.mig_lens.specs.Lens.{IsWellFormed, carries, cells_fit, cells_type, fits, types_as}
use Rattle.mig_plan.specs.Places.{bad, bad_check, bad_column, bad_in, bad_table, bad_way, check_place, earlier, first_bad, is_first, least, shape_now}
use Rattle.mig_lens.specs.Plan.{lens_in, lens_of}
use Rattle.mig_plan.specs.Plan.{all_done, begun, carried, first_table, kept, plan_of, typed}
use Rattle.mig_plan.specs.Versions.{Table, shape_numbered}
use Rattle.mig_plan.proofs.Each.{Each, Pairwise, each_both, each_more}
use Rattle.mig_plan.proofs.Fine.{without_fault_ok}
use Rattle.mig_plan.proofs.Names.{Differ, Distinct, Stands, all_differ, not_both}
use Rattle.mig_plan.proofs.Sides.{Carried, FitsOne, Twin, TypesOne, at_its_place, both_ways, carries_at, cells, cells_are_fit, cells_are_typed, fits_default, new_are, old_are, there}
use Rattle.mig_plan.proofs.Sound.{ColumnSound, Marked, Stood, TableSound}
use Rattle.mig_plan.proofs.Whole.{Apart, DraftSound, NewOne, TitlesDiffer, all_done_soundly}

-- ---- the new version begins as the old one

first_columns : (cs : List Column) → list_all (λ c. has_type (Some c.ty) c.default) cs ≡ true → Each ColumnSound (map carried cs)
first_columns [] h = tt
first_columns (c ∷ cs) h =
    let parts = both (has_type (Some c.ty) c.default) (list_all (λ c. has_type (Some c.ty) c.default) cs) h in
    (record { now_fits = parts.0; old_fits = parts.0; twin = refl; marked = tt }, first_columns cs parts.1)

first_apart : (c : Column) (cs : List Column) → list_any (bytes_eq c.name) (map (λ d. d.name) cs) ≡ false → Each (λ d. Differ (Some c) (new_side d)) (map carried cs)
first_apart c [] h = tt
first_apart c (d ∷ cs) h = by_test (first_apart c cs) (bytes_eq c.name d.name) refl h
  where
    by_test : (list_any (bytes_eq c.name) (map (λ d. d.name) cs) ≡ false → Each (λ d. Differ (Some c) (new_side d)) (map carried cs)) → (b : Bool) → bytes_eq c.name d.name ≡ b → (b || list_any (bytes_eq c.name) (map (λ d. d.name) cs)) ≡ false → Each (λ d. Differ (Some c) (new_side d)) (map carried (d ∷ cs))
    by_test more true g k = cc
    by_test more false g k = (g, more k)

first_distinct : (cs : List Column) → all_different (map (λ c. c.name) cs) ≡ true → Distinct (map carried cs)
first_distinct [] h = tt
first_distinct (c ∷ cs) h =
    let parts = not_both (list_any (bytes_eq c.name) (map (λ d. d.name) cs)) (all_different (map (λ d. d.name) cs)) h in
    (first_apart c cs parts.0, first_distinct cs parts.1)

all_stand : (side : DraftColumn → Option Column) → ((c : Column) → side (carried c) ≡ Some c) → (cs : List Column) → filter_map side (map carried cs) ≡ cs
all_stand side same [] = refl
all_stand side same (c ∷ cs) =
    let here = same c in
    let more = all_stand side same cs in
    cc

get_first : (cs : List Column) (k : ℕ) → slice_get (map carried cs) k ≡ option_map carried (slice_get cs k)
get_first [] k = refl
get_first (c ∷ cs) zero = refl
get_first (c ∷ cs) (suc k) = get_first cs k

place_first : (cs : List Column) (k : ℕ) → nat_lt k (length cs) ≡ true → place old_side (map carried cs) k ≡ k
place_first [] k h = grind (arith, nat_tests)
place_first (c ∷ cs) zero h = refl
place_first (c ∷ cs) (suc k) h = ap suc (place_first cs k (grind (arith, nat_tests)))

stands_first : (cs : List Column) (k : ℕ) → nat_lt k (length cs) ≡ true → Stands (map carried cs) k
stands_first [] k h = grind (arith, nat_tests)
stands_first (c ∷ cs) zero h = refl
stands_first (c ∷ cs) (suc k) h = stands_first cs k (grind (arith, nat_tests))

places_first : (cs : List Column) (ks : List ℕ) → list_all (λ at. nat_lt at (length cs)) ks ≡ true → Each (Stands (map carried cs)) ks
places_first cs [] h = tt
places_first cs (k ∷ ks) h =
    let parts = both (nat_lt k (length cs)) (list_all (λ at. nat_lt at (length cs)) ks) h in
    (stands_first cs k parts.0, places_first cs ks parts.1)

uniques_first : (cs : List Column) (us : List Unique) → list_all (has_places (length cs)) us ≡ true → Each (λ u. Each (Stands (map carried cs)) u.columns) us
uniques_first cs [] h = tt
uniques_first cs (u ∷ us) h =
    let parts = both (has_places (length cs) u) (list_all (has_places (length cs)) us) h in
    (places_first cs u.columns parts.0, uniques_first cs us parts.1)

key_there : (o : Option Column) → is_key o ≡ true → (c : Column) × (o ≡ Some c) × (is_key (Some c) ≡ true)
key_there None h = cc
key_there (Some c) h = (c, refl, h)

first_sound : (old : Schema) (t : Table) → shape_numbered old t.1 ≡ Some t.2 → WellFormed t.2 → TableSound old (kept t)
first_sound old t in_old w =
    let cs = t.2.columns in
    let key = key_there (slice_get cs t.2.key) w.key in
    let at = get_first cs t.2.key ∙ ap (option_map carried) key.1 in
    let within = there cs t.2.key key.0 key.1 in
    record {
      columns = first_columns cs w.defaults;
      distinct = first_distinct cs w.different;
      few = subst (λ ns. length ns ≤ max_columns) (sym (all_stand new_side (λ c. refl) cs)) w.few;
      key = record { at = carried key.0; is_at = at; now = key.0; is_now = refl; is_key = key.2; up = refl; down = refl };
      uniques = uniques_first cs t.2.uniques w.uniques;
      stood = λ h. record {
        shape = t.2;
        in_old = in_old;
        columns = all_stand old_side (λ c. refl) cs;
        place = place_first cs t.2.key within;
        before = λ c g.
            let is : carried key.0 ≡ c = let e = sym at ∙ g in cc in
            ap (λ d. is_some d.before) (sym is);
      };
    }

-- each table is found by its number
differ_behind : (t : Table) (all ts : List Table) → list_any (λ m. m == t.1) (map (λ u. u.1) ts) ≡ false → Each (λ u. find (λ v. v.1 == u.1) all ≡ Some u) ts → Each (λ u. find (λ v. v.1 == u.1) (t ∷ all) ≡ Some u) ts
differ_behind t all [] h f = tt
differ_behind t all (u ∷ ts) h f = by_test (λ k. differ_behind t all ts k f.1) (u.1 == t.1) refl h
  where
    by_test : (list_any (λ m. m == t.1) (map (λ u. u.1) ts) ≡ false → Each (λ u. find (λ v. v.1 == u.1) (t ∷ all) ≡ Some u) ts) → (b : Bool) → (u.1 == t.1) ≡ b → (b || list_any (λ m. m == t.1) (map (λ u. u.1) ts)) ≡ false → Each (λ u. find (λ v. v.1 == u.1) (t ∷ all) ≡ Some u) (u ∷ ts)
    by_test more true g k = cc
    by_test more false g k =
        let apart : (t.1 == u.1) ≡ false = grind (arith, nat_tests) in
        (rw apart f.0, more k)

all_found : (ts : List Table) → numbers_differ (map (λ t. t.1) ts) ≡ true → Each (λ u. find (λ v. v.1 == u.1) ts ≡ Some u) ts
all_found [] h = tt
all_found (t ∷ ts) h =
    let parts = not_both (list_any (λ m. m == t.1) (map (λ u. u.1) ts)) (numbers_differ (map (λ u. u.1) ts)) h in
    let itself : (t.1 == t.1) ≡ true = grind (arith, nat_tests) in
    (rw itself, differ_behind t ts ts parts.0 (all_found ts parts.1))

first_is : (t : Table) (d : DraftTable) → first_table t ≡ Ok d → kept t ≡ d
first_is t d h = by_test (nat_le (length t.2.columns) max_columns) h
  where
    by_test : (b : Bool) → (if b then Ok (kept t) else Err (Limit (codes "columns"))) ≡ Ok d → kept t ≡ d
    by_test true k = cc
    by_test false k = cc

pub firsts_are : (ts : List Table) (ds : List DraftTable) → every (map first_table ts) ≡ Ok ds → map kept ts ≡ ds
firsts_are [] ds h = cc
firsts_are (t ∷ ts) ds h =
    let a = and_then_ok (first_table t) _ ds h in
    let b = and_then_ok (every (map first_table ts)) _ ds a.2 in
    let here = first_is t a.0 a.1 in
    let more = firsts_are ts b.0 b.1 in
    cc

firsts_sound : (old : Schema) (ts : List Table) → IsSchema old → Each (λ u. find (λ v. v.1 == u.1) old.tables ≡ Some u) ts → Each (TableSound old) (map kept ts)
firsts_sound old [] is f = tt
firsts_sound old (t ∷ ts) is f =
    let in_old : shape_numbered old t.1 ≡ Some t.2 = ap (option_map (λ u. u.2)) f.0 in
    (first_sound old t in_old (is.shapes t.1 t.2 in_old), firsts_sound old ts is f.1)

first_rest : (t : Table) (ts : List Table) → list_any (bytes_eq t.0) (map (λ u. u.0) ts) ≡ false → list_any (λ m. m == t.1) (map (λ u. u.1) ts) ≡ false → Each (Apart (kept t)) (map kept ts)
first_rest t [] h k = tt
first_rest t (u ∷ ts) h k = by_tests (first_rest t ts) (bytes_eq t.0 u.0) (u.1 == t.1) refl refl h k
  where
    by_tests : (list_any (bytes_eq t.0) (map (λ u. u.0) ts) ≡ false → list_any (λ m. m == t.1) (map (λ u. u.1) ts) ≡ false → Each (Apart (kept t)) (map kept ts)) → (b c : Bool) → bytes_eq t.0 u.0 ≡ b → (u.1 == t.1) ≡ c → (b || list_any (bytes_eq t.0) (map (λ u. u.0) ts)) ≡ false → (c || list_any (λ m. m == t.1) (map (λ u. u.1) ts)) ≡ false → Each (Apart (kept t)) (map kept (u ∷ ts))
    by_tests more true c f g h k = cc
    by_tests more false true f g h k = cc
    by_tests more false false f g h k =
        let other : (t.1 == u.1) ≡ false = grind (arith, nat_tests) in
        ((f, other), more h k)

firsts_apart : (ts : List Table) → all_different (map (λ t. t.0) ts) ≡ true → numbers_differ (map (λ t. t.1) ts) ≡ true → Pairwise Apart (map kept ts)
firsts_apart [] h k = tt
firsts_apart (t ∷ ts) h k =
    let names = not_both (list_any (bytes_eq t.0) (map (λ u. u.0) ts)) (all_different (map (λ u. u.0) ts)) h in
    let numbers = not_both (list_any (λ m. m == t.1) (map (λ u. u.1) ts)) (numbers_differ (map (λ u. u.1) ts)) k in
    (first_rest t ts names.0 numbers.0, firsts_apart ts names.1 numbers.1)

firsts_below : (next : ℕ) (ts : List Table) → AllBelow next ts → Each (λ t. nat_lt t.number next ≡ true) (map kept ts)
firsts_below next [] h = tt
firsts_below next (t ∷ ts) h =
    let low = h.0 in
    let here : nat_lt t.1 next ≡ true = grind (arith, nat_tests) in
    (here, firsts_below next ts h.1)

pub begun_is : (old : Schema) (next : ℕ) (d : Draft) → begun old next ≡ Ok d → record { tables = map kept old.tables; next_table = next } ≡ d
begun_is old next d h =
    let a = and_then_ok (every (map first_table old.tables)) _ d h in
    let tables = firsts_are old.tables a.0 a.1 in
    cc

all_old : (old : Schema) (ts : List Table) → Each (NewOne old) (map kept ts)
all_old old [] = tt
all_old old (t ∷ ts) = ((λ no. cc), all_old old ts)

old_there : (ts more : List Table) → Each {X = Table} (λ o. list_any (λ n. n == o.1) (map (λ t. t.number) (map kept ts)) ≡ true) more → (t : Table) → Each {X = Table} (λ o. list_any (λ n. n == o.1) (map (λ t. t.number) (map kept (t ∷ ts))) ≡ true) more
old_there ts [] h t = tt
old_there ts (o ∷ more) h t = (by_test (t.1 == o.1), old_there ts more h.1 t)
  where
    by_test : (b : Bool) → (b || list_any (λ n. n == o.1) (map (λ t. t.number) (map kept ts))) ≡ true
    by_test true = refl
    by_test false = h.0

olds_there : (ts : List Table) → Each {X = Table} (λ o. list_any (λ n. n == o.1) (map (λ t. t.number) (map kept ts)) ≡ true) ts
olds_there [] = tt
olds_there (t ∷ ts) =
    let itself : (t.1 == t.1) ≡ true = grind (arith, nat_tests) in
    (rw itself, old_there ts ts (olds_there ts) t)

pub begun_sound : (old : Schema) (next : ℕ) (d : Draft) → IsSchema old → IsBelow next old → begun old next ≡ Ok d → DraftSound old d
begun_sound old next d is below h =
    subst (DraftSound old) (begun_is old next d h)
    (record {
      tables = firsts_sound old old.tables is (all_found old.tables is.numbers);
      apart = firsts_apart old.tables is.names is.numbers;
      below = firsts_below next old.tables below;
      old_below = below;
      new_ones = all_old old old.tables;
      has_olds = olds_there old.tables;
    })

-- ---- what a plan comes from

pub record Comes (old : Schema) (plan : Plan) : Type 0 where
  pub draft : Draft
  pub sound : DraftSound old draft
  pub typed : first_bad old draft.tables ≡ None
  pub is : finished draft ≡ plan

bad_none : (o : Option Place) → option_map BadExpr o ≡ None → o ≡ None
bad_none None h = refl
bad_none (Some p) h = cc

pub comes : (old : Schema) (next_table : ℕ) (m : Migration) (plan : Plan) → IsSchema old → IsBelow next_table old → plan_of old next_table m ≡ Ok plan → Comes old plan
comes old next_table m plan is below h =
    let a = and_then_ok (begun old next_table) _ plan h in
    let b = and_then_ok (all_done old 0 m.operations a.0) (typed old) plan a.2 in
    let c = without_fault_ok (option_map BadExpr (first_bad old b.0.tables)) (finished b.0) plan b.2 in
    record { draft = b.0; sound = all_done_soundly old 0 m.operations a.0 b.0 (begun_sound old next_table a.0 is below a.1) b.1; typed = bad_none (first_bad old b.0.tables) c.0; is = c.1 }

-- ---- typing

earlier_none : (p q : Option Place) → earlier p q ≡ None → (p ≡ None) × (q ≡ None)
earlier_none None q h = (refl, h)
earlier_none (Some p) None h = cc
earlier_none (Some p) (Some q) h = by_test (is_first p q) h
  where
    by_test : (b : Bool) → (if b then Some p else Some q) ≡ None → (Some p ≡ None) × (Some q ≡ None)
    by_test true k = cc
    by_test false k = cc

least_none : {X : Type 0} (f : X → Option Place) (xs : List X) → least (map f xs) ≡ None → Each (λ x. f x ≡ None) xs
least_none f [] h = tt
least_none f (x ∷ xs) h =
    let parts = earlier_none (f x) (least (map f xs)) h in
    (parts.0, least_none f xs parts.1)

well_typed : (over : Shape) (wanted : Ty) (e : Expr) (p : Place) → bad over wanted e p ≡ None → types_as wanted (type_of over e) ≡ true
well_typed over wanted e p h = by_test (types_as wanted (type_of over e)) h
  where
    by_test : (b : Bool) → (if b then None else Some p) ≡ None → b ≡ true
    by_test true k = refl
    by_test false k = cc

way_types : (over : Shape) (which : Member) (at : Option ℕ) (column : Option Column) (e : Option Expr) → is_some e ≡ true → is_some at ≡ true → bad_way (Some over) which at column e ≡ None → TypesOne over column e
way_types over which at None e h k b = tt
way_types over which at (Some c) None h k b = tt
way_types over which None (Some c) (Some e) h k b = cc
way_types over which (Some n) (Some c) (Some e) h k b = well_typed over c.ty e (record { operation = n; member = which }) b

no_way_types : (over : Shape) (column : Option Column) (e : Option Expr) → is_some e ≡ false → TypesOne over column e
no_way_types over None e h = tt
no_way_types over (Some c) None h = tt
no_way_types over (Some c) (Some e) h = cc

up_marked : (up down : Option Expr) (at : Option ℕ) → Marked up down at → is_some up ≡ true → is_some at ≡ true
up_marked up down (Some n) m h = refl
up_marked None None None m h = cc
up_marked None (Some d) None m h = cc
up_marked (Some u) down None m h = absurd m

down_marked : (up down : Option Expr) (at : Option ℕ) → Marked up down at → is_some down ≡ true → is_some at ≡ true
down_marked up down (Some n) m h = refl
down_marked None None None m h = cc
down_marked None (Some d) None m h = absurd m
down_marked (Some u) down None m h = absurd m

any_types : (over : Shape) (which : Member) (at : Option ℕ) (column : Option Column) (e : Option Expr) → (is_some e ≡ true → is_some at ≡ true) → bad_way (Some over) which at column e ≡ None → TypesOne over column e
any_types over which at column None m b = no_way_types over column None refl
any_types over which at column (Some e) m b = way_types over which at column (Some e) refl (m refl) b

record ColumnTyped (old new : Shape) (c : DraftColumn) : Type 0 where
  up : TypesOne old c.after.column c.after.up
  down : TypesOne new c.before c.after.down

column_types : (old new : Shape) (c : DraftColumn) → ColumnSound c → bad_column (Some old) (Some new) c ≡ None → ColumnTyped old new c
column_types old new c s h =
    let parts = earlier_none (bad_way (Some old) member.Up c.after.subject c.after.column c.after.up) (bad_way (Some new) member.Down c.after.subject c.before c.after.down) h in
    record {
      up = any_types old member.Up c.after.subject c.after.column c.after.up (up_marked c.after.up c.after.down c.after.subject s.marked) parts.0;
      down = any_types new member.Down c.after.subject c.before c.after.down (down_marked c.after.up c.after.down c.after.subject s.marked) parts.1;
    }

as_condition : (t : Typed) → types_as ty.Boolean t ≡ true → is_condition t ≡ true
as_condition (Ok None) h = h
as_condition (Ok (Some u)) h = h
as_condition (Err f) h = h

checks_type : (over : Shape) (cs : List DraftColumn) (checks : List DraftCheck) → Each (λ check. bad_check (Some over) cs check ≡ None) checks → list_all (λ check. is_condition (type_of over check.expr)) (map (λ check. check.check) checks) ≡ true
checks_type over cs [] h = refl
checks_type over cs (check ∷ checks) h =
    all_true (is_condition (type_of over check.check.expr)) (list_all (λ check. is_condition (type_of over check.expr)) (map (λ check. check.check) checks)) (as_condition (type_of over check.check.expr) (well_typed over ty.Boolean check.check.expr (record { operation = check_place cs check; member = member.Check }) h.0)) (checks_type over cs checks h.1)

-- ---- the shape of a table

standing_one : (o : Option DraftColumn) → is_some (option_and_then new_side o) ≡ true → (c : DraftColumn) × (n : Column) × (o ≡ Some c) × (new_side c ≡ Some n)
standing_one None h = cc
standing_one (Some c) h = by_side (new_side c) refl h
  where
    by_side : (p : Option Column) → new_side c ≡ p → is_some p ≡ true → (d : DraftColumn) × (n : Column) × (Some c ≡ Some d) × (new_side d ≡ Some n)
    by_side None e k = cc
    by_side (Some n) e k = (c, n, refl, e)

place_within : (cs : List DraftColumn) (k : ℕ) → Stands cs k → nat_lt (place new_side cs k) (length (filter_map new_side cs)) ≡ true
place_within cs k h =
    let one = standing_one (slice_get cs k) h in
    there (filter_map new_side cs) (place new_side cs k) one.1 (at_its_place new_side cs k one.0 one.1 one.2 one.3)

places_within : (cs : List DraftColumn) (ks : List ℕ) → Each (Stands cs) ks → list_all (λ at. nat_lt at (length (filter_map new_side cs))) (map (place new_side cs) ks) ≡ true
places_within cs [] h = refl
places_within cs (k ∷ ks) h = all_true (nat_lt (place new_side cs k) (length (filter_map new_side cs))) (list_all (λ at. nat_lt at (length (filter_map new_side cs))) (map (place new_side cs) ks)) (place_within cs k h.0) (places_within cs ks h.1)

uniques_within : (cs : List DraftColumn) (us : List Unique) → Each (λ u. Each (Stands cs) u.columns) us → list_all (has_places (length (filter_map new_side cs))) (map (unique_of cs) us) ≡ true
uniques_within cs [] h = refl
uniques_within cs (u ∷ us) h = all_true (has_places (length (filter_map new_side cs)) (unique_of cs u)) (list_all (has_places (length (filter_map new_side cs))) (map (unique_of cs) us)) (places_within cs u.columns h.0) (uniques_within cs us h.1)

defaults_fit : (cs : List DraftColumn) → Each ColumnSound cs → list_all (λ c. has_type (Some c.ty) c.default) (filter_map new_side cs) ≡ true
defaults_fit [] h = refl
defaults_fit (c ∷ cs) h = by_side (new_side c) h.0.now_fits (defaults_fit cs h.1)
  where
    by_side : (o : Option Column) → fits_default o ≡ true → list_all (λ c. has_type (Some c.ty) c.default) (filter_map new_side cs) ≡ true → list_all (λ c. has_type (Some c.ty) c.default) (cons_option o (filter_map new_side cs)) ≡ true
    by_side None f k = k
    by_side (Some x) f k = all_true (has_type (Some x.ty) x.default) (list_all (λ c. has_type (Some c.ty) c.default) (filter_map new_side cs)) f k

shape_stands : (old : Schema) (t : DraftTable) → TableSound old t → Each (λ check. bad_check (Some (shape_of t)) t.columns check ≡ None) t.checks → WellFormed (shape_of t)
shape_stands old t s h =
    record {
      few = s.few;
      different = all_differ t.columns s.distinct;
      key = ap is_key (at_its_place new_side t.columns t.key s.key.at s.key.now s.key.is_at s.key.is_now) ∙ s.key.is_key;
      uniques = uniques_within t.columns t.uniques s.uniques;
      defaults = defaults_fit t.columns s.columns;
      checks = checks_type (shape_of t) t.columns t.checks h;
    }

-- ---- the lens of a table

twin_back : (p o : Option Column) (u v : Option Expr) → Twin p o u v → Twin o p u v
twin_back None None u v t = tt
twin_back None (Some y) u v t = tt
twin_back (Some x) None u v t = tt
twin_back (Some x) (Some y) None None t = sym t
twin_back (Some x) (Some y) (Some u) (Some v) t = tt
twin_back (Some x) (Some y) None (Some v) t = absurd t
twin_back (Some x) (Some y) (Some u) None t = absurd t

new_carried : (p o : Option Column) (u v : Option Expr) → Twin p o u v → Carried o p u
new_carried p None u v t = tt
new_carried None (Some y) u v t = tt
new_carried (Some x) (Some y) None None t = sym t
new_carried (Some x) (Some y) (Some u) v t = tt
new_carried (Some x) (Some y) None (Some v) t = absurd t

old_carried : (p o : Option Column) (u v : Option Expr) → Twin p o u v → Carried p o v
old_carried None o u v t = tt
old_carried (Some x) None u v t = tt
old_carried (Some x) (Some y) None None t = t
old_carried (Some x) (Some y) u (Some v) t = tt
old_carried (Some x) (Some y) (Some u) None t = absurd t

is_there : (o : Option Column) (n : Column) → o ≡ Some n → is_some o ≡ true
is_there o n h = ap is_some h

-- The lens joins the old shape, which the table's columns have on the old side, and the new one.
lens_joins : (old : Schema) (t : DraftTable) (s : TableSound old t) (before : Stood old t.number t.key t.columns) → Each (ColumnTyped before.shape (shape_of t)) t.columns → (fits (lens_of_columns t.columns) before.shape (shape_of t) ≡ true) × IsWellFormed (lens_of_columns t.columns) before.shape (shape_of t)
lens_joins old t s before ok =
    let cs = t.columns in
    let ups : DraftColumn → Option Expr = λ c. c.after.up in
    let downs : DraftColumn → Option Expr = λ c. c.after.down in
    let news : new_cells 0 cs ≡ cells new_side old_side ups 0 cs = new_are 0 cs in
    let olds : old_cells 0 cs ≡ cells old_side new_side downs 0 cs = old_are 0 cs in
    let new_fit = cells_are_fit new_side old_side ups cs (each_more ColumnSound (FitsOne new_side old_side ups) (λ c h. (h.now_fits, new_carried c.before c.after.column c.after.up c.after.down h.twin)) cs s.columns) in
    let old_fit = cells_are_fit old_side new_side downs cs (each_more ColumnSound (FitsOne old_side new_side downs) (λ c h. (h.old_fits, old_carried c.before c.after.column c.after.up c.after.down h.twin)) cs s.columns) in
    let fit_new : cells_fit before.shape.columns (filter_map new_side cs) (new_cells 0 cs) ≡ true = subst (λ xs. cells_fit before.shape.columns (filter_map new_side cs) xs ≡ true) (sym news) (subst (λ ys. cells_fit ys (filter_map new_side cs) (cells new_side old_side ups 0 cs) ≡ true) before.columns new_fit) in
    let fit_old : cells_fit (filter_map new_side cs) before.shape.columns (old_cells 0 cs) ≡ true = subst (λ xs. cells_fit (filter_map new_side cs) before.shape.columns xs ≡ true) (sym olds) (subst (λ ys. cells_fit (filter_map new_side cs) ys (cells old_side new_side downs 0 cs) ≡ true) before.columns old_fit) in
    let type_new : cells_type before.shape (filter_map new_side cs) (new_cells 0 cs) ≡ true = subst (λ xs. cells_type before.shape (filter_map new_side cs) xs ≡ true) (sym news) (cells_are_typed before.shape new_side old_side ups cs (each_more (ColumnTyped before.shape (shape_of t)) (λ c. TypesOne before.shape (new_side c) (ups c)) (λ c h. h.up) cs ok) 0) in
    let type_old : cells_type (shape_of t) before.shape.columns (old_cells 0 cs) ≡ true = subst (λ xs. cells_type (shape_of t) before.shape.columns xs ≡ true) (sym olds) (subst (λ ys. cells_type (shape_of t) ys (cells old_side new_side downs 0 cs) ≡ true) before.columns (cells_are_typed (shape_of t) old_side new_side downs cs (each_more (ColumnTyped before.shape (shape_of t)) (λ c. TypesOne (shape_of t) (old_side c) (downs c)) (λ c h. h.down) cs ok) 0)) in
    let now_there : is_some (new_side s.key.at) ≡ true = is_there s.key.at.after.column s.key.now s.key.is_now in
    let was_there : is_some (old_side s.key.at) ≡ true = before.before s.key.at s.key.is_at in
    let key_new = carries_at new_side old_side ups cs t.key s.key.at s.key.is_at now_there was_there s.key.up in
    let key_old = carries_at old_side new_side downs cs t.key s.key.at s.key.is_at was_there now_there s.key.down in
    let ways = both_ways new_side old_side ups downs cs (each_more ColumnSound (λ c. Twin (new_side c) (old_side c) (ups c) (downs c)) (λ c h. twin_back c.before c.after.column c.after.up c.after.down h.twin) cs s.columns) in (
      all_true (cells_fit before.shape.columns (filter_map new_side cs) (new_cells 0 cs)) (cells_fit (filter_map new_side cs) before.shape.columns (old_cells 0 cs)) fit_new fit_old,
      record {
        ups = type_new;
        downs = type_old;
        new_key = subst (λ xs. carries xs (place new_side cs t.key) before.shape.key ≡ true) (sym news) (subst (λ k. carries (cells new_side old_side ups 0 cs) (place new_side cs t.key) k ≡ true) before.place key_new);
        old_key = subst (λ xs. carries xs before.shape.key (place new_side cs t.key) ≡ true) (sym olds) (subst (λ k. carries (cells old_side new_side downs 0 cs) k (place new_side cs t.key) ≡ true) before.place key_old);
        both_ways = λ i j. ap (λ xs. carries xs i j) news ∙ ways i j ∙ ap (λ xs. carries xs j i) (sym olds);
      },
    )

-- ---- tables of a number

record Kept_ (t : DraftTable) : Type 0 where
  name : List ℕ
  is_named : t.name ≡ Some name
  stood : t.stood ≡ true

kept_fate : (stood : Bool) (name : Option (List ℕ)) (cs : List DraftColumn) (lens : Lens) → lens_in (fate stood name cs) ≡ Some lens → (stood ≡ true) × (is_some name ≡ true) × (lens_of_columns cs ≡ lens)
kept_fate false name cs lens h = cc
kept_fate true None cs lens h = cc
kept_fate true (Some n) cs lens h = (refl, refl, cc)

-- the table of a draft that has a number, and stands in the new version
record At (old : Schema) (ts : List DraftTable) (number : ℕ) (lens : Lens) : Type 0 where
  t : DraftTable
  sound : TableSound old t
  well : bad_table old t ≡ None
  is_number : t.number ≡ number
  stood : t.stood ≡ true
  titled : is_some t.name ≡ true
  lens_is : lens_of_columns t.columns ≡ lens
  in_new : option_map (λ u. u.2) (find (λ u. u.1 == number) (filter_map new_table ts)) ≡ Some (shape_of t)

lens_at : (old : Schema) (ts : List DraftTable) (number : ℕ) (lens : Lens) → Each (TableSound old) ts → Each (λ t. bad_table old t ≡ None) ts → option_and_then (λ f. lens_in f.1) (find (λ f. f.0 == number) (map fate_of ts)) ≡ Some lens → At old ts number lens
lens_at old [] number lens s b h = cc
lens_at old (t ∷ ts) number lens s b h = by_test (lens_at old ts number lens s.1 b.1) (t.number == number) refl h
  where
    here : (name : Option (List ℕ)) → t.name ≡ name → is_some name ≡ true → (t.number == number) ≡ true → option_map (λ u. u.2) (find (λ u. u.1 == number) (cons_option (option_map (λ n. (n, t.number, shape_of t)) name) (filter_map new_table ts))) ≡ Some (shape_of t)
    here None e k g = cc
    here (Some n) e k g = rw g

    behind : (name : Option (List ℕ)) (shape : Shape) → (t.number == number) ≡ false → option_map (λ u. u.2) (find (λ u. u.1 == number) (filter_map new_table ts)) ≡ Some shape → option_map (λ u. u.2) (find (λ u. u.1 == number) (cons_option (option_map (λ n. (n, t.number, shape_of t)) name) (filter_map new_table ts))) ≡ Some shape
    behind None shape g k = k
    behind (Some n) shape g k = rw g k

    by_test : (option_and_then (λ f. lens_in f.1) (find (λ f. f.0 == number) (map fate_of ts)) ≡ Some lens → At old ts number lens) → (c : Bool) → (t.number == number) ≡ c → option_and_then (λ f. lens_in f.1) (if c then Some (fate_of t) else find (λ f. f.0 == number) (map fate_of ts)) ≡ Some lens → At old (t ∷ ts) number lens
    by_test more true g k =
        let f = kept_fate t.stood t.name t.columns lens k in
        record { t = t; sound = s.0; well = b.0; is_number = grind (arith, nat_tests); stood = f.0; titled = f.1; lens_is = f.2; in_new = here t.name refl f.1 g }
    by_test more false g k =
        let r = more k in
        record { t = r.t; sound = r.sound; well = r.well; is_number = r.is_number; stood = r.stood; titled = r.titled; lens_is = r.lens_is; in_new = behind t.name (shape_of r.t) g r.in_new }

now_is : (t : DraftTable) → is_some t.name ≡ true → shape_now t ≡ Some (shape_of t)
now_is t h = rw h

columns_typed : (old : Schema) (t : DraftTable) (shape : Shape) → TableSound old t → shape_numbered old t.number ≡ Some shape → is_some t.name ≡ true → bad_table old t ≡ None → Each (ColumnTyped shape (shape_of t)) t.columns
columns_typed old t shape s in_old titled well =
    let e : bad_in (Some shape) (Some (shape_of t)) t ≡ None = subst (λ n. bad_in (Some shape) n t ≡ None) (now_is t titled) (subst (λ o. bad_in o (shape_now t) t ≡ None) in_old well) in
    let parts = earlier_none (least (map (bad_column (Some shape) (Some (shape_of t))) t.columns)) (least (map (bad_check (Some (shape_of t)) t.columns) t.checks)) e in
    each_both ColumnSound (λ c. bad_column (Some shape) (Some (shape_of t)) c ≡ None) (ColumnTyped shape (shape_of t)) (column_types shape (shape_of t)) t.columns s.columns (least_none (bad_column (Some shape) (Some (shape_of t))) t.columns parts.0)

checks_fine : (old : Schema) (t : DraftTable) → is_some t.name ≡ true → bad_table old t ≡ None → Each (λ check. bad_check (Some (shape_of t)) t.columns check ≡ None) t.checks
checks_fine old t titled well =
    let e : bad_in (shape_numbered old t.number) (Some (shape_of t)) t ≡ None = subst (λ n. bad_in (shape_numbered old t.number) n t ≡ None) (now_is t titled) well in
    let parts = earlier_none (least (map (bad_column (shape_numbered old t.number) (Some (shape_of t))) t.columns)) (least (map (bad_check (Some (shape_of t)) t.columns) t.checks)) e in
    least_none (bad_check (Some (shape_of t)) t.columns) t.checks parts.1

pub planned_lenses_join : PlannedLensesJoin
planned_lenses_join old next_table m plan is below h number lens k =
    let c = comes old next_table m plan is below h in
    let found : lens_of (finished c.draft) number ≡ Some lens = subst (λ p. lens_of p number ≡ Some lens) (sym c.is) k in
    let a = lens_at old c.draft.tables number lens c.sound.tables (least_none (bad_table old) c.draft.tables c.typed) found in
    let before = a.sound.stood a.stood in
    let joined = lens_joins old a.t a.sound before (columns_typed old a.t before.shape a.sound before.in_old a.titled a.well) in
    record {
      before = before.shape;
      after = shape_of a.t;
      in_old = subst (λ n. shape_numbered old n ≡ Some before.shape) a.is_number before.in_old;
      in_new = subst (λ p. shape_numbered p.schema number ≡ Some (shape_of a.t)) c.is a.in_new;
      fitting = subst (λ l. fits l before.shape (shape_of a.t) ≡ true) a.lens_is joined.0;
      well_formed = subst (λ l. IsWellFormed l before.shape (shape_of a.t)) a.lens_is joined.1;
    }

-- ---- the new version is a schema

titles_apart : (title : List ℕ) (ts : List DraftTable) → Each (λ t. TitlesDiffer (Some title) t.name) ts → list_any (bytes_eq title) (map (λ u. u.0) (filter_map new_table ts)) ≡ false
titles_apart title [] h = refl
titles_apart title (t ∷ ts) h = by_name t.name h.0 (titles_apart title ts h.1)
  where
    by_name : (name : Option (List ℕ)) → TitlesDiffer (Some title) name → list_any (bytes_eq title) (map (λ u. u.0) (filter_map new_table ts)) ≡ false → list_any (bytes_eq title) (map (λ u. u.0) (cons_option (option_map (λ n. (n, t.number, shape_of t)) name) (filter_map new_table ts))) ≡ false
    by_name None d k = k
    by_name (Some n) d k = rw d k

titles_differ : (ts : List DraftTable) → Pairwise Apart ts → all_different (map (λ u. u.0) (filter_map new_table ts)) ≡ true
titles_differ [] h = refl
titles_differ (t ∷ ts) h = by_name t.name (each_more (Apart t) (λ u. TitlesDiffer t.name u.name) (λ u a. a.0) ts h.0) (titles_differ ts h.1)
  where
    by_name : (name : Option (List ℕ)) → Each (λ u. TitlesDiffer name u.name) ts → all_different (map (λ u. u.0) (filter_map new_table ts)) ≡ true → all_different (map (λ u. u.0) (cons_option (option_map (λ n. (n, t.number, shape_of t)) name) (filter_map new_table ts))) ≡ true
    by_name None d k = k
    by_name (Some n) d k = all_true (not (list_any (bytes_eq n) (map (λ u. u.0) (filter_map new_table ts)))) (all_different (map (λ u. u.0) (filter_map new_table ts))) (ap not (titles_apart n ts d)) k

numbers_apart : (number : ℕ) (ts : List DraftTable) → Each (λ t. (number == t.number) ≡ false) ts → list_any (λ m. m == number) (map (λ u. u.1) (filter_map new_table ts)) ≡ false
numbers_apart number [] h = refl
numbers_apart number (t ∷ ts) h = by_name t.name (numbers_apart number ts h.1)
  where
    other : (t.number == number) ≡ false
    other = let e = h.0 in grind (arith, nat_tests)

    by_name : (name : Option (List ℕ)) → list_any (λ m. m == number) (map (λ u. u.1) (filter_map new_table ts)) ≡ false → list_any (λ m. m == number) (map (λ u. u.1) (cons_option (option_map (λ n. (n, t.number, shape_of t)) name) (filter_map new_table ts))) ≡ false
    by_name None k = k
    by_name (Some n) k = rw other k

numbers_apart_all : (ts : List DraftTable) → Pairwise Apart ts → numbers_differ (map (λ u. u.1) (filter_map new_table ts)) ≡ true
numbers_apart_all [] h = refl
numbers_apart_all (t ∷ ts) h = by_name t.name (each_more (Apart t) (λ u. (t.number == u.number) ≡ false) (λ u a. a.1) ts h.0) (numbers_apart_all ts h.1)
  where
    by_name : (name : Option (List ℕ)) → Each (λ u. (t.number == u.number) ≡ false) ts → numbers_differ (map (λ u. u.1) (filter_map new_table ts)) ≡ true → numbers_differ (map (λ u. u.1) (cons_option (option_map (λ n. (n, t.number, shape_of t)) name) (filter_map new_table ts))) ≡ true
    by_name None d k = k
    by_name (Some n) d k = all_true (not (list_any (λ m. m == t.number) (map (λ u. u.1) (filter_map new_table ts)))) (numbers_differ (map (λ u. u.1) (filter_map new_table ts))) (ap not (numbers_apart t.number ts d)) k

shape_among : (old : Schema) (ts : List DraftTable) (number : ℕ) (shape : Shape) → Each (TableSound old) ts → Each (λ t. bad_table old t ≡ None) ts → option_map (λ u. u.2) (find (λ u. u.1 == number) (filter_map new_table ts)) ≡ Some shape → WellFormed shape
shape_among old [] number shape s b h = cc
shape_among old (t ∷ ts) number shape s b h = by_name (shape_among old ts number shape s.1 b.1) t.name refl h
  where
    by_test : (n : List ℕ) → is_some t.name ≡ true → (c : Bool) → (option_map (λ u. u.2) (find (λ u. u.1 == number) (filter_map new_table ts)) ≡ Some shape → WellFormed shape) → option_map (λ u. u.2) (if c then Some (n, t.number, shape_of t) else find (λ u. u.1 == number) (filter_map new_table ts)) ≡ Some shape → WellFormed shape
    by_test n titled true more k = let is : shape_of t ≡ shape = cc in subst WellFormed is (shape_stands old t s.0 (checks_fine old t titled b.0))
    by_test n titled false more k = more k

    by_name : (option_map (λ u. u.2) (find (λ u. u.1 == number) (filter_map new_table ts)) ≡ Some shape → WellFormed shape) → (name : Option (List ℕ)) → t.name ≡ name → option_map (λ u. u.2) (find (λ u. u.1 == number) (cons_option (option_map (λ n. (n, t.number, shape_of t)) name) (filter_map new_table ts))) ≡ Some shape → WellFormed shape
    by_name more None e k = more k
    by_name more (Some n) e k = by_test n (ap is_some e) (t.number == number) more k

pub planned_schema : PlansKeepSchemas
planned_schema old next_table m plan is below h =
    let c = comes old next_table m plan is below h in
    let well = least_none (bad_table old) c.draft.tables c.typed in
    subst (λ p. IsSchema p.schema) c.is
    (record {
      names = titles_differ c.draft.tables c.sound.apart;
      numbers = numbers_apart_all c.draft.tables c.sound.apart;
      shapes = λ number shape k. shape_among old c.draft.tables number shape c.sound.tables well k;
    })
