-- What the versions select of a row of the layout, and of what C2 leaves of it.
use Rattle.std.proofs.Common.{◌≡◌, ◌∙◌, ℕ, suc, ◌+◌, List, [], ◌∷◌, ◌++◌, true, Some, length, map, take, add-zero, append-nil, ap, refl, sym, subst, arith}
use Rattle.std.specs.Prelude.{filter, slice_get, slice_index_or}
use Rattle.std.proofs.lemmas.List.{get_or-append-add, take_at}
use Rattle.sql_base.specs.declared.shapes.Column.{Column}
use Rattle.sql_base.specs.declared.values.Ty.{Ty}
use Rattle.sql_base.specs.declared.values.Value.{Value}
use Rattle.sql_base.specs.declared.values.Value.TheVariants.{Null}
use Rattle.sql_base.specs.Fit.{fits_columns, has_type}
use Rattle.sql_base.specs.Laws.{all_true, both, columns_long}
use Rattle.mig_lens.specs.declared.columns.Cell.{Cell}
use Rattle.mig_lens.specs.declared.columns.Cell.TheVariants.{Carry, Make, Still}
use Rattle.mig_lens.specs.Layout.{shadows}
use Rattle.mig_lens.specs.Lens.{cell_fits, cells_fit, is_carry, is_of_type}
use Rattle.trigger_pair.specs.declared.pairs.Pair.{Pair}
use Rattle.trigger_pair.specs.Laws.{IsPair, PairsAreLong}
use Rattle.trigger_pair.specs.Stored.{new_view, old_view, places}
use Rattle.phase_steps.specs.Laws.{LaidRowsAreLong, LaidRowsShowFitting, TrimmedRowsAreLong, TrimmedRowsShowFitting}
use Rattle.phase_steps.specs.Rows.{carried_before, carried_columns, fits_places, trimmed_columns, trimmed_places, trimmed_view}
use Rattle.phase_steps.proofs.PlacedValues.{carried_count, carried_type, laid_parts, places_long, places_parted, trimmed_type}
use Rattle.phase_steps.proofs.WrittenRows.{carried_cell, carry_carries}

-- ---- lengths

pub laid_rows_are_long : LaidRowsAreLong
laid_rows_are_long pair stored laid = places_long pair.layout.columns stored laid

pub trimmed_rows_are_long : TrimmedRowsAreLong
trimmed_rows_are_long pair stored left = places_long (trimmed_columns pair) stored left

-- ---- what is read from a place on

abbrev pub Reads : (ℕ → Value) → ℕ → List Value → Type 0
Reads f next row = (k : ℕ) → f (next + k) ≡ slice_index_or row k Null

pub first_read : (f : ℕ → Value) (next : ℕ) (v : Value) (row : List Value) → Reads f next (v ∷ row) → f next ≡ v
first_read f next v row same = ap f (sym (add-zero next)) ∙ same 0

pub later_reads : (f : ℕ → Value) (next : ℕ) (v : Value) (row : List Value) → Reads f next (v ∷ row)
    → Reads f (next + 1) row
later_reads f next v row same k =
    let step : next + 1 + k ≡ next + suc k = omega arith in
    ap f step ∙ same (suc k)

-- ---- one selection, of carried values and of the others

abbrev selected : (ℕ → Value) → (ℕ → Value) → ℕ → List Cell → List Value
selected carried own next [] = []
selected carried own next (Carry at ∷ cells) = carried at ∷ selected carried own next cells
selected carried own next (Make up ∷ cells) = own next ∷ selected carried own (next + 1) cells
selected carried own next (Still x ∷ cells) = own next ∷ selected carried own (next + 1) cells

stored_selected : (f : ℕ → Value) (next : ℕ) (cells : List Cell) → map f (places next cells) ≡ selected f f next cells
stored_selected f next [] = refl
stored_selected f next (Carry at ∷ cells) = ap (λ rest. f at ∷ rest) (stored_selected f next cells)
stored_selected f next (Make up ∷ cells) = ap (λ rest. f next ∷ rest) (stored_selected f (next + 1) cells)
stored_selected f next (Still x ∷ cells) = ap (λ rest. f next ∷ rest) (stored_selected f (next + 1) cells)

trimmed_selected : (f : ℕ → Value) (old_cols : List Cell) (next : ℕ) (cells : List Cell)
    → map f (trimmed_places old_cols next cells) ≡ selected (λ at. f (carried_before old_cols at)) f next cells
trimmed_selected f old_cols next [] = refl
trimmed_selected f old_cols next (Carry at ∷ cells) =
    ap (λ rest. f (carried_before old_cols at) ∷ rest) (trimmed_selected f old_cols next cells)
trimmed_selected f old_cols next (Make up ∷ cells) =
    ap (λ rest. f next ∷ rest) (trimmed_selected f old_cols (next + 1) cells)
trimmed_selected f old_cols next (Still x ∷ cells) =
    ap (λ rest. f next ∷ rest) (trimmed_selected f old_cols (next + 1) cells)

-- Each carried value has the type that the other side's column has.
abbrev CarriedFit : (ℕ → Value) → List Column → List Cell → Type 0
CarriedFit carried others cells = (i at : ℕ) (ty : Ty) → slice_get cells i ≡ Some (Carry at)
    → is_of_type ty (slice_get others at) ≡ true → has_type (Some ty) (carried at) ≡ true

selected_fits : (carried own : ℕ → Value) (others columns : List Column) (next : ℕ) (cells : List Cell)
    (shadow behind : List Value) → cells_fit others columns cells ≡ true → CarriedFit carried others cells
    → fits_places (shadows columns cells) shadow ≡ true → Reads own next (shadow ++ behind)
    → fits_columns columns (selected carried own next cells) ≡ true
selected_fits carried own others [] next [] shadow behind c typed f reads = refl
selected_fits carried own others [] next (cell ∷ cells) shadow behind c typed f reads = cc
selected_fits carried own others (column ∷ columns) next [] shadow behind c typed f reads = cc
selected_fits carried own others (column ∷ columns) next (Carry at ∷ cells) shadow behind c typed f reads =
    let parts = both (cell_fits others column (Carry at)) (cells_fit others columns cells) c in
    let there =
    selected_fits carried own others columns next cells shadow behind parts.1
    (λ i j ty e t. typed (suc i) j ty e t) f reads in
    all_true (has_type (Some column.ty) (carried at)) (fits_columns columns (selected carried own next cells))
    (typed 0 at column.ty refl parts.0) there
selected_fits carried own others (column ∷ columns) next (Make up ∷ cells) [] behind c typed f reads = cc
selected_fits carried own others (column ∷ columns) next (Make up ∷ cells) (v ∷ shadow) behind c typed f reads =
    let parts = both (has_type (Some column.ty) v) (fits_places (shadows columns cells) shadow) f in
    let here = ap (has_type (Some column.ty)) (first_read own next v (shadow ++ behind) reads) ∙ parts.0 in
    let there =
    selected_fits carried own others columns (next + 1) cells shadow behind
    (both (cell_fits others column (Make up)) (cells_fit others columns cells) c).1
    (λ i j ty e t. typed (suc i) j ty e t) parts.1 (later_reads own next v (shadow ++ behind) reads) in
    all_true (has_type (Some column.ty) (own next)) (fits_columns columns (selected carried own (next + 1) cells))
    here there
selected_fits carried own others (column ∷ columns) next (Still x ∷ cells) [] behind c typed f reads = cc
selected_fits carried own others (column ∷ columns) next (Still x ∷ cells) (v ∷ shadow) behind c typed f reads =
    let parts = both (has_type (Some column.ty) v) (fits_places (shadows columns cells) shadow) f in
    let here = ap (has_type (Some column.ty)) (first_read own next v (shadow ++ behind) reads) ∙ parts.0 in
    let there =
    selected_fits carried own others columns (next + 1) cells shadow behind
    (both (cell_fits others column (Still x)) (cells_fit others columns cells) c).1
    (λ i j ty e t. typed (suc i) j ty e t) parts.1 (later_reads own next v (shadow ++ behind) reads) in
    all_true (has_type (Some column.ty) (own next)) (fits_columns columns (selected carried own (next + 1) cells))
    here there

-- ---- the laws

abbrev pub read_in : List Value → ℕ → Value
read_in row at = slice_index_or row at Null

-- Behind values as many as these columns a row has what stands behind them.
pub reads_behind : (front behind : List Value) (count : ℕ) → length front ≡ count
    → Reads (read_in (front ++ behind)) count behind
reads_behind front behind count long k = ap (λ n. slice_index_or (front ++ behind) (n + k) Null) (sym long)
    ∙ get_or-append-add front behind k Null

pub new_cells_fit : (pair : Pair) → IsPair pair → cells_fit pair.old.columns pair.new.columns pair.lens.new_cols ≡ true
new_cells_fit pair p =
    (both (cells_fit pair.old.columns pair.new.columns pair.lens.new_cols)
    (cells_fit pair.new.columns pair.old.columns pair.lens.old_cols) p.fitting).0

pub laid_rows_show_fitting : LaidRowsShowFitting
laid_rows_show_fitting pair stored p laid =
    let parts = laid_parts pair stored p laid in
    let behind = parts.shadow ++ parts.mark in
    let count = length pair.old.columns in
    let old_long = columns_long pair.old.columns parts.old parts.old_fits in
    let old_shown : old_view pair stored ≡ parts.old = ap (take count) parts.is
    ∙ take_at parts.old behind count old_long in
    let f : ℕ → Value = read_in (parts.old ++ behind) in
    let typed : CarriedFit f pair.old.columns pair.lens.new_cols =
    λ i at ty e t. carried_type ty pair.old.columns parts.old behind at parts.old_fits t in
    let fits =
    selected_fits f f pair.old.columns pair.new.columns count pair.lens.new_cols parts.shadow parts.mark
    (new_cells_fit pair p) typed parts.shadow_fits (reads_behind parts.old behind count old_long) in
    let new_shown : new_view pair stored ≡ selected f f count pair.lens.new_cols = ap (new_view pair) parts.is
    ∙ stored_selected f count pair.lens.new_cols in
    (ap (fits_columns pair.old.columns) old_shown ∙ parts.old_fits, ap (fits_columns pair.new.columns) new_shown ∙ fits)

pub trimmed_rows_show_fitting : PairsAreLong → TrimmedRowsShowFitting
trimmed_rows_show_fitting lengths pair stored p left =
    let old_cols = pair.lens.old_cols in
    let count = length (filter is_carry old_cols) in
    let parts =
    places_parted (carried_columns pair.old.columns old_cols) (shadows pair.new.columns pair.lens.new_cols) stored
    left in
    let long = places_long (carried_columns pair.old.columns old_cols) parts.first parts.first_fits
    ∙ carried_count pair.old.columns old_cols (lengths pair p).0 in
    let f : ℕ → Value = read_in (parts.first ++ parts.rest) in
    let typed : CarriedFit (λ at. f (carried_before old_cols at)) pair.old.columns pair.lens.new_cols = λ i at ty e t.
    trimmed_type ty pair.old.columns old_cols parts.first parts.rest at i parts.first_fits
    (carried_cell old_cols at i (sym (p.lens.both_ways i at) ∙ carry_carries pair.lens.new_cols i at e)) t in
    let reads : Reads f count (parts.rest ++ []) =
    subst (Reads f count) (sym (append-nil parts.rest)) (reads_behind parts.first parts.rest count long) in
    let fits =
    selected_fits (λ at. f (carried_before old_cols at)) f pair.old.columns pair.new.columns count
    pair.lens.new_cols parts.rest [] (new_cells_fit pair p) typed parts.rest_fits reads in
    let shown : trimmed_view pair.lens stored
    ≡ selected (λ at. f (carried_before old_cols at)) f count pair.lens.new_cols =
    ap (trimmed_view pair.lens) parts.is ∙ trimmed_selected f old_cols count pair.lens.new_cols in
    ap (fits_columns pair.new.columns) shown ∙ fits
