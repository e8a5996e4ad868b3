-- Tables of a draft from which well-formed shapes and lenses come, and what keeps them so.
use Rattle.std.proofs.Common.{◌≡◌, ◌∙◌, ℕ, zero, suc, ◌+◌, ◌≤◌, List, [], ◌∷◌, ◌++◌, Bool, true, false, ◌⊎◌, inl, inr, Option, Some, None, if◌then◌else◌, length, map, take, ap, refl, sym, subst, arith, append-nil, length-append}
use Rattle.std.specs.Prelude.{find, is_some, slice_get}
use Rattle.std.specs.List.{cons_option, filter_map}
use Rattle.std.specs.Option.{option_map}
use Rattle.std.proofs.lemmas.Bool.{false≢true}
use Rattle.std.proofs.lemmas.List.Elements.{filter_map-append}
use Rattle.sql_base.specs.declared.exprs.Expr.{Expr}
use Rattle.sql_base.specs.declared.shapes.Column.{Column}
use Rattle.sql_base.specs.declared.shapes.Schema.{Schema}
use Rattle.sql_base.specs.declared.shapes.Shape.{Shape}
use Rattle.sql_base.specs.declared.shapes.Unique.{Unique}
use Rattle.sql_eval.specs.Shape.{is_key, max_columns}
use Rattle.mig_plan.specs.declared.drafts.After.{After}
use Rattle.mig_plan.specs.declared.drafts.DraftColumn.{DraftColumn}
use Rattle.mig_plan.specs.declared.drafts.DraftTable.{DraftTable}
use Rattle.mig_plan.specs.Draft.{is_called, is_now, put_after}
use Rattle.mig_plan.specs.Finish.{new_side, old_side, place}
use Rattle.mig_plan.specs.Versions.{shape_numbered}
use Rattle.mig_plan.proofs.Each.{Each, each_append, each_more}
use Rattle.mig_plan.proofs.Names.{Differ, Distinct, MayBe, Stands, distinct_more, get_mapped, get_more, no_longer, only, place_kept, put_distinct, side_kept, stands_more}
use Rattle.mig_plan.proofs.Sides.{Twin, fits_default}

-- ---- columns

-- What makes a column on either side is that of an operation.
abbrev pub Marked : Option Expr → Option Expr → Option ℕ → Type 0
Marked up down (Some at) = Unit {0}
Marked None None None = Unit {0}
Marked None (Some v) None = ⊥
Marked (Some u) down None = ⊥

pub record ColumnSound (c : DraftColumn) : Type 0 where
  pub now_fits : fits_default c.after.column ≡ true
  pub old_fits : fits_default c.before ≡ true
  pub twin : Twin c.before c.after.column c.after.up c.after.down
  pub marked : Marked c.after.up c.after.down c.after.subject

-- ---- tables

-- The key's column stands, and is carried.
pub record KeyIn (cs : List DraftColumn) (key : ℕ) : Type 0 where
  pub at : DraftColumn
  pub is_at : slice_get cs key ≡ Some at
  pub now : Column
  pub is_now : at.after.column ≡ Some now
  pub is_key : is_key (Some now) ≡ true
  pub up : at.after.up ≡ None
  pub down : at.after.down ≡ None

-- The old version has the table, with this shape.
pub record Stood (old : Schema) (number key : ℕ) (cs : List DraftColumn) : Type 0 where
  pub shape : Shape
  pub in_old : shape_numbered old number ≡ Some shape
  pub columns : filter_map old_side cs ≡ shape.columns
  pub place : place old_side cs key ≡ shape.key
  pub before : (c : DraftColumn) → slice_get cs key ≡ Some c → is_some c.before ≡ true

pub record TableSound (old : Schema) (t : DraftTable) : Type 0 where
  pub columns : Each ColumnSound t.columns
  pub distinct : Distinct t.columns
  pub few : length (filter_map new_side t.columns) ≤ max_columns
  pub key : KeyIn t.columns t.key
  pub uniques : Each (λ u. Each (Stands t.columns) u.columns) t.uniques
  pub stood : t.stood ≡ true → Stood old t.number t.key t.columns

-- ---- columns that change, and keep what they were before

some_mapped : {X : Type 0} (f : X → X) (o : Option X) (y : X) → option_map f o ≡ Some y → (x : X) × (o ≡ Some x) × (f x ≡ y)
some_mapped f None y h = cc
some_mapped f (Some x) y h = (x, refl, cc)

pub stood_mapped : (old : Schema) (number key : ℕ) (f : DraftColumn → DraftColumn) (cs : List DraftColumn) → ((c : DraftColumn) → old_side (f c) ≡ old_side c) → Stood old number key cs → Stood old number key (map f cs)
stood_mapped old number key f cs same s =
    record {
      shape = s.shape;
      in_old = s.in_old;
      columns = side_kept old_side f same cs ∙ s.columns;
      place = place_kept old_side f same cs key ∙ s.place;
      before = λ c h.
          let x = some_mapped f (slice_get cs key) c (sym (get_mapped f cs key) ∙ h) in
          ap (λ d. is_some (old_side d)) (sym x.2) ∙ ap is_some (same x.0) ∙ s.before x.0 x.1;
    }

-- ---- one column is put

put_before : (name : List ℕ) (a : After) (c : DraftColumn) → old_side (put_after name a c) ≡ old_side c
put_before name a c = by_test (is_now name c)
  where
    by_test : (b : Bool) → old_side (if b then record c { after = a } else c) ≡ old_side c
    by_test true = refl
    by_test false = refl

put_none : (name : List ℕ) (a : After) (c : DraftColumn) → new_side c ≡ None → new_side (put_after name a c) ≡ None
put_none name a c h = rw (ap (is_called name) h) h

put_column : (name : List ℕ) (a : After) (found c : DraftColumn) → ColumnSound (record found { after = a }) → ColumnSound c → (is_now name c ≡ true → c ≡ found) → ColumnSound (put_after name a c)
put_column name a found c new old same = by_test (is_now name c) refl
  where
    by_test : (b : Bool) → is_now name c ≡ b → ColumnSound (if b then record c { after = a } else c)
    by_test true h = subst (λ d. ColumnSound (record d { after = a })) (sym (same h)) new
    by_test false h = old

put_each : (name : List ℕ) (a : After) (found : DraftColumn) (cs : List DraftColumn) → ColumnSound (record found { after = a }) → Each ColumnSound cs → Each (λ c. is_now name c ≡ true → c ≡ found) cs → Each ColumnSound (map (put_after name a) cs)
put_each name a found [] new old same = tt
put_each name a found (c ∷ cs) new old same = (put_column name a found c new old.0 same.0, put_each name a found cs new old.1 same.1)

-- Either the key's column hasn't the name, or the column that is put is a key's, and carried.
abbrev pub KeyStays : List ℕ → After → DraftColumn → Type 0
KeyStays name a at = (is_now name at ≡ false) ⊎ ((n : Column) × (a.column ≡ Some n) × (is_key (Some n) ≡ true) × (a.up ≡ None) × (a.down ≡ None))

put_key : (name : List ℕ) (a : After) (cs : List DraftColumn) (key : ℕ) (k : KeyIn cs key) → KeyStays name a k.at → KeyIn (map (put_after name a) cs) key
put_key name a cs key k stays = by_test (is_now name k.at) refl stays
  where
    placed : slice_get (map (put_after name a) cs) key ≡ Some (put_after name a k.at)
    placed = get_mapped (put_after name a) cs key ∙ ap (option_map (put_after name a)) k.is_at

    by_test : (b : Bool) → is_now name k.at ≡ b → KeyStays name a k.at → KeyIn (map (put_after name a) cs) key
    by_test false h stays =
        let at_is : put_after name a k.at ≡ k.at = rw h in
        record { at = k.at; is_at = placed ∙ ap Some at_is; now = k.now; is_now = k.is_now; is_key = k.is_key; up = k.up; down = k.down }
    by_test true h (inl apart) = absurd (false≢true (sym apart ∙ h))
    by_test true h (inr y) =
        let at_is : put_after name a k.at ≡ record k.at { after = a } = rw h in
        record { at = record k.at { after = a }; is_at = placed ∙ ap Some at_is; now = y.0; is_now = y.1; is_key = y.2; up = y.3; down = y.4 }

-- What is asked of a column that is put.
pub record Puts (name : List ℕ) (a : After) (t : DraftTable) (key : DraftColumn) : Type 0 where
  pub found : DraftColumn
  pub is_found : find (is_now name) t.columns ≡ Some found
  pub sound : ColumnSound (record found { after = a })
  pub named : MayBe name t.columns a.column
  pub stays : KeyStays name a key

-- A table with the column put is sound, where its unique constraints are over columns that stand.
pub put_sound : (old : Schema) (t next : DraftTable) (name : List ℕ) (a : After) (s : TableSound old t) → Puts name a t s.key.at → next.number ≡ t.number → next.stood ≡ t.stood → next.key ≡ t.key → next.columns ≡ map (put_after name a) t.columns → Each (λ u. Each (Stands (map (put_after name a) t.columns)) u.columns) next.uniques → TableSound old next
put_sound old t next name a s p number stood key columns uniques =
    let cs = t.columns in
    let made = put_each name a p.found cs p.sound s.columns (only name cs p.found s.distinct p.is_found) in
    let fewer = no_longer new_side (put_after name a) (put_none name a) cs in
    let few : length (filter_map new_side (map (put_after name a) cs)) ≤ max_columns = let was = s.few in omega arith in
    record {
      columns = subst (Each ColumnSound) (sym columns) made;
      distinct = subst Distinct (sym columns) (put_distinct name a cs p.named s.distinct);
      few = subst (λ ds. length (filter_map new_side ds) ≤ max_columns) (sym columns) few;
      key = subst (λ ds. KeyIn ds next.key) (sym columns) (subst (KeyIn (map (put_after name a) cs)) (sym key) (put_key name a cs t.key s.key p.stays));
      uniques = subst (λ ds. Each (λ u. Each (Stands ds) u.columns) next.uniques) (sym columns) uniques;
      stood = λ h.
          let before = stood_mapped old t.number t.key (put_after name a) cs (put_before name a) (s.stood (sym stood ∙ h)) in
          subst (Stood old next.number next.key) (sym columns) (subst (λ n. Stood old n next.key (map (put_after name a) cs)) (sym number) (subst (λ k. Stood old t.number k (map (put_after name a) cs)) (sym key) before));
    }

-- ---- one column more

place_more : (cs : List DraftColumn) (x c : DraftColumn) (k : ℕ) → slice_get cs k ≡ Some c → take k (cs ++ x ∷ []) ≡ take k cs
place_more [] x c k h = cc
place_more (d ∷ cs) x c zero h = refl
place_more (d ∷ cs) x c (suc k) h = ap (λ ds. d ∷ ds) (place_more cs x c k h)

pub key_more : (cs : List DraftColumn) (x : DraftColumn) (key : ℕ) → KeyIn cs key → KeyIn (cs ++ x ∷ []) key
key_more cs x key k = record { at = k.at; is_at = get_more cs (x ∷ []) key k.at k.is_at; now = k.now; is_now = k.is_now; is_key = k.is_key; up = k.up; down = k.down }

stood_more : (old : Schema) (number key : ℕ) (cs : List DraftColumn) (x : DraftColumn) → x.before ≡ None → KeyIn cs key → Stood old number key cs → Stood old number key (cs ++ x ∷ [])
stood_more old number key cs x none k s =
    let old_same : filter_map old_side (cs ++ x ∷ []) ≡ filter_map old_side cs = filter_map-append old_side cs (x ∷ []) ∙ ap (λ o. filter_map old_side cs ++ cons_option o []) none ∙ append-nil (filter_map old_side cs) in
    record {
      shape = s.shape;
      in_old = s.in_old;
      columns = old_same ∙ s.columns;
      place = ap (λ ds. length (filter_map old_side ds)) (place_more cs x k.at key k.is_at) ∙ s.place;
      before = λ c h.
          let same : k.at ≡ c = let e = sym (get_more cs (x ∷ []) key k.at k.is_at) ∙ h in cc in
          s.before c (k.is_at ∙ ap Some same);
    }

-- A table with a column more is sound, where its unique constraints are over columns that stand.
pub more_sound : (old : Schema) (t next : DraftTable) (x : DraftColumn) (s : TableSound old t) → ColumnSound x → x.before ≡ None → Each (λ c. Differ (new_side c) (new_side x)) t.columns → length (filter_map new_side t.columns) + 1 ≤ max_columns → next.number ≡ t.number → next.stood ≡ t.stood → next.key ≡ t.key → next.columns ≡ t.columns ++ x ∷ [] → Each (λ u. Each (Stands (t.columns ++ x ∷ [])) u.columns) next.uniques → TableSound old next
more_sound old t next x s sound none apart room number stood key columns uniques =
    let cs = t.columns in
    let few : length (filter_map new_side (cs ++ x ∷ [])) ≤ max_columns = fewer (new_side x) (ap length (filter_map-append new_side cs (x ∷ []))) in
    record {
      columns = subst (Each ColumnSound) (sym columns) (each_append ColumnSound cs (x ∷ []) s.columns (sound, tt));
      distinct = subst Distinct (sym columns) (distinct_more cs x s.distinct apart);
      few = subst (λ ds. length (filter_map new_side ds) ≤ max_columns) (sym columns) few;
      key = subst (λ ds. KeyIn ds next.key) (sym columns) (subst (KeyIn (cs ++ x ∷ [])) (sym key) (key_more cs x t.key s.key));
      uniques = subst (λ ds. Each (λ u. Each (Stands ds) u.columns) next.uniques) (sym columns) uniques;
      stood = λ h.
          let before = stood_more old t.number t.key cs x none s.key (s.stood (sym stood ∙ h)) in
          subst (Stood old next.number next.key) (sym columns) (subst (λ n. Stood old n next.key (cs ++ x ∷ [])) (sym number) (subst (λ k. Stood old t.number k (cs ++ x ∷ [])) (sym key) before));
    }
  where
    fewer : (o : Option Column) → length (filter_map new_side (t.columns ++ x ∷ [])) ≡ length (filter_map new_side t.columns ++ cons_option o []) → length (filter_map new_side (t.columns ++ x ∷ [])) ≤ max_columns
    fewer None e = let l = ap length (append-nil (filter_map new_side t.columns)) in omega arith
    fewer (Some y) e = let l = length-append (filter_map new_side t.columns) (y ∷ []) in omega arith

pub uniques_more : (cs more : List DraftColumn) (us : List Unique) → Each (λ u. Each (Stands cs) u.columns) us → Each (λ u. Each (Stands (cs ++ more)) u.columns) us
uniques_more cs more us h = each_more (λ u. Each (Stands cs) u.columns) (λ u. Each (Stands (cs ++ more)) u.columns) (λ u. each_more (Stands cs) (Stands (cs ++ more)) (λ at. stands_more cs more at) u.columns) us h
