-- Which rows are stored after a step.
use Rattle.std.proofs.Common.{◌≡◌, ◌∙◌, ⊎_elim, ℕ, ◌+◌, List, [], ◌∷◌, ◌++◌, Bool, true, false, Option, Some, None, length, map, append-nil, append_assoc, length-append, unwrap_or, ap, refl, sym, subst, arith}
use Rattle.std.specs.List.{enumerate_from}
use Rattle.std.specs.Prelude.{filter, slice_index_or}
use Rattle.std.proofs.lemmas.List.{drop_at, take_at}
use Rattle.sql_base.specs.declared.shapes.Column.{Column}
use Rattle.sql_base.specs.declared.values.Value.{Value}
use Rattle.sql_base.specs.declared.values.Value.TheVariants.{Null}
use Rattle.sql_base.specs.Fit.{fits_columns, has_type}
use Rattle.sql_base.specs.Laws.{all_true, both, columns_fit, columns_long}
use Rattle.mig_lens.specs.declared.columns.Cell.{Cell}
use Rattle.mig_lens.specs.declared.columns.Cell.TheVariants.{Carry, Make, Still}
use Rattle.mig_lens.specs.Layout.{has_mark, shadows}
use Rattle.mig_lens.specs.Lens.{cell_fits, cells_fit, unfilled, unfilled_value}
use Rattle.trigger_pair.specs.declared.pairs.Pair.{Pair}
use Rattle.trigger_pair.specs.Laws.{IsPair, PairsAreLong}
use Rattle.trigger_pair.specs.Rows.{IsFilledRow, IsUnfilledRow}
use Rattle.trigger_pair.specs.Stored.{mark_value, shadow_values, stored_row}
use Rattle.phase_steps.specs.Laws.{LaidBefore, LeftRowsAreFilled, LeftRowsAreLaid, PairedRowsAreLaid, TrimmingLeavesTrimmed}
use Rattle.phase_steps.specs.Rows.{IsLaidRow, carried_columns, carried_of, carried_values, fits_places, is_shadow, left_row, left_value, left_values, trimmed, trimmed_columns}
use Rattle.phase_steps.proofs.PlacedValues.{carried_placed, carried_type, laid_parts, mark_placed, parts_are_laid, places_joined, places_long, shadows_count, shadows_placed}
use Rattle.phase_steps.proofs.ShownRows.{new_cells_fit}

-- ---- rows of both versions

-- The stored row of two halves is a row of the layout.
of_is_laid : (pair : Pair) (old new : List Value) (marked : Bool) → IsPair pair
    → fits_columns pair.old.columns old ≡ true → fits_columns pair.new.columns new ≡ true
    → IsLaidRow pair (stored_row pair old new marked)
of_is_laid pair old new marked p old_fits new_fits =
    let shadow = shadow_values pair.lens.new_cols new in
    let mark : pair.layout.mark ≡ has_mark pair.lens = ap (λ l. l.mark) p.layout in
    parts_are_laid pair (stored_row pair old new marked) p (record {
      old = old;
      shadow = shadow;
      mark = mark_value (has_mark pair.lens) marked;
      old_fits = old_fits;
      shadow_fits = shadows_placed pair.new.columns pair.lens.new_cols new new_fits;
      mark_fits = mark_placed (has_mark pair.lens) marked;
      is = ap (λ m. old ++ shadow ++ mark_value m marked) mark
          ∙ append_assoc old shadow (mark_value (has_mark pair.lens) marked);
    })

filled_is_laid : (pair : Pair) (stored : List Value) → IsPair pair → IsFilledRow pair stored → IsLaidRow pair stored
filled_is_laid pair stored p row = ap (fits_places pair.layout.columns) row.is
    ∙ of_is_laid pair row.old row.new false p row.old_fits row.new_fits

unfilled_type : (others : List Column) (column : Column) (old : List Value) (cell : Cell)
    → fits_columns others old ≡ true → cell_fits others column cell ≡ true
    → has_type (Some column.ty) (unfilled_value old cell) ≡ true
unfilled_type others column old (Carry at) f c =
    ap (λ values. has_type (Some column.ty) (slice_index_or values at Null)) (sym (append-nil old))
    ∙ carried_type column.ty others old [] at f c
unfilled_type others column old (Make up) f c = refl
unfilled_type others column old (Still x) f c = c

unfilled_fits : (others columns : List Column) (old : List Value) (cells : List Cell) → fits_columns others old ≡ true
    → cells_fit others columns cells ≡ true → fits_columns columns (map (unfilled_value old) cells) ≡ true
unfilled_fits others [] old [] f c = refl
unfilled_fits others [] old (cell ∷ cells) f c = cc
unfilled_fits others (column ∷ columns) old [] f c = cc
unfilled_fits others (column ∷ columns) old (cell ∷ cells) f c =
    let parts = both (cell_fits others column cell) (cells_fit others columns cells) c in
    let here = unfilled_type others column old cell f parts.0 in
    let there = unfilled_fits others columns old cells f parts.1 in
    all_true (has_type (Some column.ty) (unfilled_value old cell))
    (fits_columns columns (map (unfilled_value old) cells)) here there

unfilled_is_laid : (pair : Pair) (stored : List Value) → IsPair pair → IsUnfilledRow pair stored → IsLaidRow pair stored
unfilled_is_laid pair stored p row =
    let new_fits =
    unfilled_fits pair.old.columns pair.new.columns row.old pair.lens.new_cols row.fits (new_cells_fit pair p) in
    ap (fits_places pair.layout.columns) row.is
    ∙ of_is_laid pair row.old (unfilled pair.lens row.old) true p row.fits new_fits

pub paired_rows_are_laid : PairedRowsAreLaid
paired_rows_are_laid pair stored p row = ⊎_elim (filled_is_laid pair stored p) (unfilled_is_laid pair stored p) row

-- ---- rows that are written between C1 and C2

-- What was held has the columns' types, from this place on.
abbrev HeldFits : ℕ → List Column → List Value → Type 0
HeldFits k [] held = Unit {0}
HeldFits k (column ∷ columns) held = (has_type (Some column.ty) (slice_index_or held k Null) ≡ true) × HeldFits (k + 1) columns held

nothing_held : (k : ℕ) (columns : List Column) → HeldFits k columns []
nothing_held k [] = tt
nothing_held k (column ∷ columns) = (refl, nothing_held (k + 1) columns)

value_of : (front rest : List Value) (v : Value) → slice_index_or (front ++ (v ∷ rest)) (length front) Null ≡ v
value_of [] rest v = refl
value_of (w ∷ front) rest v = value_of front rest v

old_held : (front : List Value) (columns : List Column) (old behind : List Value) → fits_columns columns old ≡ true → HeldFits (length front) columns (front ++ (old ++ behind))
old_held front [] old behind f = tt
old_held front (column ∷ columns) [] behind f = cc
old_held front (column ∷ columns) (v ∷ old) behind f =
    let parts = both (has_type (Some column.ty) v) (fits_columns columns old) f in
    let more : length (front ++ (v ∷ [])) ≡ length front + 1 = length-append front (v ∷ []) in
    let there = old_held (front ++ (v ∷ [])) columns old behind parts.1 in
    let moved = subst (HeldFits (length (front ++ (v ∷ []))) columns) (append_assoc front (v ∷ []) (old ++ behind)) there in
    (ap (has_type (Some column.ty)) (value_of front (old ++ behind) v) ∙ parts.0, subst (λ n. HeldFits n columns (front ++ (v ∷ (old ++ behind)))) more moved)

left_type : (others : List Column) (column : Column) (values held : List Value) (k : ℕ) (cell : Cell) → fits_columns others values ≡ true → has_type (Some column.ty) (slice_index_or held k Null) ≡ true → cell_fits others column cell ≡ true → has_type (Some column.ty) (left_value values held (k, cell)) ≡ true
left_type others column values held k (Carry at) f h c =
    ap (λ row. has_type (Some column.ty) (slice_index_or row at Null)) (sym (append-nil values))
    ∙ carried_type column.ty others values [] at f c
left_type others column values held k (Make up) f h c = h
left_type others column values held k (Still x) f h c = h

left_fits : (others columns : List Column) (values held : List Value) (k : ℕ) (cells : List Cell) → fits_columns others values ≡ true → HeldFits k columns held → cells_fit others columns cells ≡ true → fits_columns columns (map (left_value values held) (enumerate_from k cells)) ≡ true
left_fits others [] values held k [] f h c = refl
left_fits others [] values held k (cell ∷ cells) f h c = cc
left_fits others (column ∷ columns) values held k [] f h c = cc
left_fits others (column ∷ columns) values held k (cell ∷ cells) f h c =
    let parts = both (cell_fits others column cell) (cells_fit others columns cells) c in
    all_true (has_type (Some column.ty) (left_value values held (k, cell))) (fits_columns columns (map (left_value values held) (enumerate_from (k + 1) cells))) (left_type others column values held k cell f h.0 parts.0) (left_fits others columns values held (k + 1) cells f h.1 parts.1)

before_held : (pair : Pair) (before : Option (List Value)) → IsPair pair → LaidBefore pair before
    → HeldFits 0 pair.old.columns (unwrap_or before [])
before_held pair None p h = nothing_held 0 pair.old.columns
before_held pair (Some stored) p h =
    let parts = laid_parts pair stored p h in
    subst (HeldFits 0 pair.old.columns) (sym parts.is)
    (old_held [] pair.old.columns parts.old (parts.shadow ++ parts.mark) parts.old_fits)

pub left_rows_are_filled : LeftRowsAreFilled
left_rows_are_filled pair values before p fit was =
    let held : List Value = unwrap_or before [] in
    let old = left_values pair.lens.old_cols values held in
    let new_fits = columns_fit pair.new values fit in
    let cells = both (cells_fit pair.old.columns pair.new.columns pair.lens.new_cols) (cells_fit pair.new.columns pair.old.columns pair.lens.old_cols) p.fitting in
    let mark : pair.layout.mark ≡ has_mark pair.lens = ap (λ l. l.mark) p.layout in
    record {
      old = old;
      new = values;
      old_fits =
          left_fits pair.new.columns pair.old.columns values held 0 pair.lens.old_cols new_fits
          (before_held pair before p was) cells.1;
      new_fits = new_fits;
      is = ap (λ m. old ++ shadow_values pair.lens.new_cols values ++ mark_value m false) (sym mark);
    }

pub left_rows_are_laid : LeftRowsAreLaid
left_rows_are_laid pair values before p fit was =
    filled_is_laid pair (left_row pair.lens values before) p (left_rows_are_filled pair values before p fit was)

-- ---- rows after C2

carried_of_old : (cells : List Cell) (old tail : List Value) → length old ≡ length cells → carried_values cells (old ++ tail) ≡ carried_values cells old
carried_of_old [] old tail e = refl
carried_of_old (cell ∷ cells) [] tail e = absurd (omega arith)
carried_of_old (cell ∷ cells) (v ∷ old) tail e = ap (λ rest. carried_of cell v ++ rest) (carried_of_old cells old tail (omega arith))

pub trimming_leaves_trimmed : PairsAreLong → TrimmingLeavesTrimmed
trimming_leaves_trimmed lengths pair stored p laid =
    let lens = pair.lens in
    let parts = laid_parts pair stored p laid in
    let behind = parts.shadow ++ parts.mark in
    let own_places = carried_columns pair.old.columns lens.old_cols in
    let shadow_places = shadows pair.new.columns lens.new_cols in
    let old_long = columns_long pair.old.columns parts.old parts.old_fits ∙ sym (lengths pair p).0 in
    let shadow_long = places_long shadow_places parts.shadow parts.shadow_fits
    ∙ shadows_count pair.new.columns lens.new_cols (lengths pair p).1 in
    let carried = carried_of_old lens.old_cols parts.old behind old_long in
    let dropped = drop_at parts.old behind (length lens.old_cols) old_long in
    let taken = take_at parts.shadow parts.mark (length (filter is_shadow lens.new_cols)) shadow_long in
    let is : trimmed lens stored ≡ carried_values lens.old_cols parts.old ++ parts.shadow = ap (trimmed lens) parts.is
    ∙ rw (carried, dropped, taken) refl in
    ap (fits_places (trimmed_columns pair)) is
    ∙ places_joined own_places shadow_places (carried_values lens.old_cols parts.old) parts.shadow
    (carried_placed pair.old.columns lens.old_cols parts.old parts.old_fits) parts.shadow_fits
