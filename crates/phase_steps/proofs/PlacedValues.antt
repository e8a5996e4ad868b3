-- Rows of stored places: their parts, and what stands in them.
use Rattle.std.proofs.Common.{◌≡◌, ◌∙◌, ℕ, zero, suc, List, [], ◌∷◌, ◌++◌, Bool, true, false, Some, length, map, append_assoc, ap, refl, sym, subst, arith}
use Rattle.std.specs.Prelude.{filter, slice_get, slice_index_or}
use Rattle.std.proofs.lemmas.Bool.Decides.{nat_tests}
use Rattle.sql_base.specs.declared.shapes.Column.{Column}
use Rattle.sql_base.specs.declared.values.Ty.{Ty}
use Rattle.sql_base.specs.declared.values.Value.{Value}
use Rattle.sql_base.specs.declared.values.Value.TheVariants.{Null}
use Rattle.sql_base.specs.Fit.{fits_columns, has_type}
use Rattle.sql_base.specs.Laws.{all_true, both}
use Rattle.sql_eval.specs.Typing.{same}
use Rattle.mig_lens.specs.declared.columns.Cell.{Cell}
use Rattle.mig_lens.specs.declared.columns.Cell.TheVariants.{Carry, Make, Still}
use Rattle.mig_lens.specs.Layout.{StoredPlace, has_mark, mark_place, place_of, shadows}
use Rattle.mig_lens.specs.Lens.{is_carry, is_of_type}
use Rattle.trigger_pair.specs.declared.pairs.Pair.{Pair}
use Rattle.trigger_pair.specs.Laws.{IsPair}
use Rattle.trigger_pair.specs.Stored.{mark_value, shadow_values}
use Rattle.phase_steps.specs.Rows.{IsLaidRow, carried_before, carried_columns, carried_values, fits_places, is_shadow}

-- ---- parts of a row

pub places_long : (places : List StoredPlace) (row : List Value) → fits_places places row ≡ true
    → length row ≡ length places
places_long [] [] f = refl
places_long [] (v ∷ row) f = cc
places_long (place ∷ places) [] f = cc
places_long (place ∷ places) (v ∷ row) f =
    ap suc (places_long places row (both (has_type (Some place.1) v) (fits_places places row) f).1)

pub places_joined : (front behind : List StoredPlace) (row rest : List Value) → fits_places front row ≡ true
    → fits_places behind rest ≡ true → fits_places (front ++ behind) (row ++ rest) ≡ true
places_joined [] behind [] rest f g = g
places_joined [] behind (v ∷ row) rest f g = cc
places_joined (place ∷ front) behind [] rest f g = cc
places_joined (place ∷ front) behind (v ∷ row) rest f g =
    let parts = both (has_type (Some place.1) v) (fits_places front row) f in
    all_true (has_type (Some place.1) v) (fits_places (front ++ behind) (row ++ rest)) parts.0
    (places_joined front behind row rest parts.1 g)

-- A row of some places and others is one of the first and one of the others.
pub record Parted (front behind : List StoredPlace) (row : List Value) : Type 0 where
  pub first : List Value
  pub rest : List Value
  pub first_fits : fits_places front first ≡ true
  pub rest_fits : fits_places behind rest ≡ true
  pub is : row ≡ first ++ rest

pub places_parted : (front behind : List StoredPlace) (row : List Value) → fits_places (front ++ behind) row ≡ true
    → Parted front behind row
places_parted [] behind row f = record { first = []; rest = row; first_fits = refl; rest_fits = f; is = refl }
places_parted (place ∷ front) behind [] f = cc
places_parted (place ∷ front) behind (v ∷ row) f =
    let parts = both (has_type (Some place.1) v) (fits_places (front ++ behind) row) f in
    let others = places_parted front behind row parts.1 in
    record {
      first = v ∷ others.first;
      rest = others.rest;
      first_fits = all_true (has_type (Some place.1) v) (fits_places front others.first) parts.0 others.first_fits;
      rest_fits = others.rest_fits;
      is = ap (λ values. v ∷ values) others.is;
    }

-- ---- places of columns

pub own_placed : (columns : List Column) (row : List Value) → fits_columns columns row ≡ true
    → fits_places (map place_of columns) row ≡ true
own_placed [] [] f = refl
own_placed [] (v ∷ row) f = cc
own_placed (column ∷ columns) [] f = cc
own_placed (column ∷ columns) (v ∷ row) f =
    let parts = both (has_type (Some column.ty) v) (fits_columns columns row) f in
    all_true (has_type (Some column.ty) v) (fits_places (map place_of columns) row) parts.0
    (own_placed columns row parts.1)

pub own_fits : (columns : List Column) (row : List Value) → fits_places (map place_of columns) row ≡ true
    → fits_columns columns row ≡ true
own_fits [] [] f = refl
own_fits [] (v ∷ row) f = cc
own_fits (column ∷ columns) [] f = cc
own_fits (column ∷ columns) (v ∷ row) f =
    let parts = both (has_type (Some column.ty) v) (fits_places (map place_of columns) row) f in
    all_true (has_type (Some column.ty) v) (fits_columns columns row) parts.0 (own_fits columns row parts.1)

pub shadows_placed : (columns : List Column) (cells : List Cell) (new : List Value) → fits_columns columns new ≡ true
    → fits_places (shadows columns cells) (shadow_values cells new) ≡ true
shadows_placed [] [] new f = refl
shadows_placed [] (cell ∷ cells) [] f = refl
shadows_placed [] (cell ∷ cells) (v ∷ new) f = cc
shadows_placed (column ∷ columns) [] new f = refl
shadows_placed (column ∷ columns) (cell ∷ cells) [] f = cc
shadows_placed (column ∷ columns) (Carry at ∷ cells) (v ∷ new) f =
    shadows_placed columns cells new (both (has_type (Some column.ty) v) (fits_columns columns new) f).1
shadows_placed (column ∷ columns) (Make up ∷ cells) (v ∷ new) f =
    let parts = both (has_type (Some column.ty) v) (fits_columns columns new) f in
    all_true (has_type (Some column.ty) v) (fits_places (shadows columns cells) (shadow_values cells new)) parts.0
    (shadows_placed columns cells new parts.1)
shadows_placed (column ∷ columns) (Still x ∷ cells) (v ∷ new) f =
    let parts = both (has_type (Some column.ty) v) (fits_columns columns new) f in
    all_true (has_type (Some column.ty) v) (fits_places (shadows columns cells) (shadow_values cells new)) parts.0
    (shadows_placed columns cells new parts.1)

pub nulls_placed : (columns : List Column) (cells : List Cell) → length cells ≡ length columns
    → fits_places (shadows columns cells) (map (λ cell. Null) (filter is_shadow cells)) ≡ true
nulls_placed [] [] e = refl
nulls_placed [] (cell ∷ cells) e = absurd (omega arith)
nulls_placed (column ∷ columns) [] e = absurd (omega arith)
nulls_placed (column ∷ columns) (Carry at ∷ cells) e = nulls_placed columns cells (omega arith)
nulls_placed (column ∷ columns) (Make up ∷ cells) e = nulls_placed columns cells (omega arith)
nulls_placed (column ∷ columns) (Still x ∷ cells) e = nulls_placed columns cells (omega arith)

pub mark_placed : (mark marked : Bool) → fits_places (mark_place mark) (mark_value mark marked) ≡ true
mark_placed true marked = refl
mark_placed false marked = refl

pub carried_placed : (columns : List Column) (cells : List Cell) (old : List Value) → fits_columns columns old ≡ true
    → fits_places (carried_columns columns cells) (carried_values cells old) ≡ true
carried_placed [] [] old f = refl
carried_placed [] (cell ∷ cells) [] f = refl
carried_placed [] (cell ∷ cells) (v ∷ old) f = cc
carried_placed (column ∷ columns) [] old f = refl
carried_placed (column ∷ columns) (cell ∷ cells) [] f = cc
carried_placed (column ∷ columns) (Carry at ∷ cells) (v ∷ old) f =
    let parts = both (has_type (Some column.ty) v) (fits_columns columns old) f in
    all_true (has_type (Some column.ty) v) (fits_places (carried_columns columns cells) (carried_values cells old))
    parts.0 (carried_placed columns cells old parts.1)
carried_placed (column ∷ columns) (Make up ∷ cells) (v ∷ old) f =
    carried_placed columns cells old (both (has_type (Some column.ty) v) (fits_columns columns old) f).1
carried_placed (column ∷ columns) (Still x ∷ cells) (v ∷ old) f =
    carried_placed columns cells old (both (has_type (Some column.ty) v) (fits_columns columns old) f).1

-- ---- how many there are

pub shadows_count : (columns : List Column) (cells : List Cell) → length cells ≡ length columns
    → length (shadows columns cells) ≡ length (filter is_shadow cells)
shadows_count [] [] e = refl
shadows_count [] (cell ∷ cells) e = absurd (omega arith)
shadows_count (column ∷ columns) [] e = absurd (omega arith)
shadows_count (column ∷ columns) (Carry at ∷ cells) e = shadows_count columns cells (omega arith)
shadows_count (column ∷ columns) (Make up ∷ cells) e = ap suc (shadows_count columns cells (omega arith))
shadows_count (column ∷ columns) (Still x ∷ cells) e = ap suc (shadows_count columns cells (omega arith))

pub carried_count : (columns : List Column) (cells : List Cell) → length cells ≡ length columns
    → length (carried_columns columns cells) ≡ length (filter is_carry cells)
carried_count [] [] e = refl
carried_count [] (cell ∷ cells) e = absurd (omega arith)
carried_count (column ∷ columns) [] e = absurd (omega arith)
carried_count (column ∷ columns) (Carry at ∷ cells) e = ap suc (carried_count columns cells (omega arith))
carried_count (column ∷ columns) (Make up ∷ cells) e = carried_count columns cells (omega arith)
carried_count (column ∷ columns) (Still x ∷ cells) e = carried_count columns cells (omega arith)

-- ---- types of what is carried

same_type : (a b : Ty) (v : Value) → same a b ≡ true → has_type (Some b) v ≡ true → has_type (Some a) v ≡ true
same_type a b v s h = grind (arith, nat_tests)

-- What a row has in a column that a cell names has the cell's column's type, whatever stands behind the columns.
pub carried_type : (ty : Ty) (others : List Column) (values behind : List Value) (at : ℕ)
    → fits_columns others values ≡ true → is_of_type ty (slice_get others at) ≡ true
    → has_type (Some ty) (slice_index_or (values ++ behind) at Null) ≡ true
carried_type ty [] values behind at f t = cc
carried_type ty (c ∷ cs) [] behind at f t = cc
carried_type ty (c ∷ cs) (v ∷ vs) behind zero f t =
    same_type ty c.ty v t (both (has_type (Some c.ty) v) (fits_columns cs vs) f).0
carried_type ty (c ∷ cs) (v ∷ vs) behind (suc at) f t =
    carried_type ty cs vs behind at (both (has_type (Some c.ty) v) (fits_columns cs vs) f).1 t

-- So it has after C2.
pub trimmed_type : (ty : Ty) (others : List Column) (cells : List Cell) (values behind : List Value) (at i : ℕ)
    → fits_places (carried_columns others cells) values ≡ true → slice_get cells at ≡ Some (Carry i)
    → is_of_type ty (slice_get others at) ≡ true
    → has_type (Some ty) (slice_index_or (values ++ behind) (carried_before cells at) Null) ≡ true
trimmed_type ty [] cells values behind at i f e t = cc
trimmed_type ty (c ∷ cs) [] values behind at i f e t = cc
trimmed_type ty (c ∷ cs) (Carry from ∷ cells) [] behind at i f e t = cc
trimmed_type ty (c ∷ cs) (Carry from ∷ cells) (v ∷ vs) behind zero i f e t =
    same_type ty c.ty v t (both (has_type (Some c.ty) v) (fits_places (carried_columns cs cells) vs) f).0
trimmed_type ty (c ∷ cs) (Carry from ∷ cells) (v ∷ vs) behind (suc at) i f e t =
    trimmed_type ty cs cells vs behind at i
    (both (has_type (Some c.ty) v) (fits_places (carried_columns cs cells) vs) f).1 e t
trimmed_type ty (c ∷ cs) (Make up ∷ cells) values behind zero i f e t = cc
trimmed_type ty (c ∷ cs) (Make up ∷ cells) values behind (suc at) i f e t =
    trimmed_type ty cs cells values behind at i f e t
trimmed_type ty (c ∷ cs) (Still x ∷ cells) values behind zero i f e t = cc
trimmed_type ty (c ∷ cs) (Still x ∷ cells) values behind (suc at) i f e t =
    trimmed_type ty cs cells values behind at i f e t

-- ---- rows of the layout

-- Values of the old columns, of the shadow places and of the mark.
pub record LaidParts (pair : Pair) (stored : List Value) : Type 0 where
  pub old : List Value
  pub shadow : List Value
  pub mark : List Value
  pub old_fits : fits_columns pair.old.columns old ≡ true
  pub shadow_fits : fits_places (shadows pair.new.columns pair.lens.new_cols) shadow ≡ true
  pub mark_fits : fits_places (mark_place (has_mark pair.lens)) mark ≡ true
  pub is : stored ≡ old ++ (shadow ++ mark)

abbrev front_places : Pair → List StoredPlace
front_places pair = map place_of pair.old.columns ++ shadows pair.new.columns pair.lens.new_cols

layout_places : (pair : Pair) → IsPair pair → pair.layout.columns ≡ front_places pair ++ mark_place (has_mark pair.lens)
layout_places pair p = ap (λ l. l.columns) p.layout

pub laid_parts : (pair : Pair) (stored : List Value) → IsPair pair → IsLaidRow pair stored → LaidParts pair stored
laid_parts pair stored p laid =
    let fits : fits_places (front_places pair ++ mark_place (has_mark pair.lens)) stored ≡ true =
    subst (λ places. fits_places places stored ≡ true) (layout_places pair p) laid in
    let all = places_parted (front_places pair) (mark_place (has_mark pair.lens)) stored fits in
    let front =
    places_parted (map place_of pair.old.columns) (shadows pair.new.columns pair.lens.new_cols) all.first
    all.first_fits in
    record {
      old = front.first;
      shadow = front.rest;
      mark = all.rest;
      old_fits = own_fits pair.old.columns front.first front.first_fits;
      shadow_fits = front.rest_fits;
      mark_fits = all.rest_fits;
      is = all.is ∙ ap (λ values. values ++ all.rest) front.is ∙ append_assoc front.first front.rest all.rest;
    }

pub parts_are_laid : (pair : Pair) (stored : List Value) → IsPair pair → LaidParts pair stored → IsLaidRow pair stored
parts_are_laid pair stored p parts =
    let front =
    places_joined (map place_of pair.old.columns) (shadows pair.new.columns pair.lens.new_cols) parts.old
    parts.shadow (own_placed pair.old.columns parts.old parts.old_fits) parts.shadow_fits in
    let all =
    places_joined (front_places pair) (mark_place (has_mark pair.lens)) (parts.old ++ parts.shadow) parts.mark
    front parts.mark_fits in
    let is : stored ≡ parts.old ++ parts.shadow ++ parts.mark = parts.is
    ∙ sym (append_assoc parts.old parts.shadow parts.mark) in
    subst (λ places. fits_places places stored ≡ true) (sym (layout_places pair p))
    (ap (fits_places (front_places pair ++ mark_place (has_mark pair.lens))) is ∙ all)
