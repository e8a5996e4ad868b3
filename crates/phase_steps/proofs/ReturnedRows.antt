-- Rows that are written between B1 and B2.
use Rattle.std.proofs.Common.{◌≡◌, ◌∙◌, ℕ, suc, ◌+◌, List, [], ◌∷◌, ◌++◌, false, Some, None, length, map, drop, add-zero, ap, refl, sym, arith}
use Rattle.std.specs.Prelude.{filter}
use Rattle.std.proofs.lemmas.List.{drop_at, get_or-drop, take_at}
use Rattle.sql_base.specs.declared.values.Value.{Value}
use Rattle.sql_base.specs.declared.values.Value.TheVariants.{Null}
use Rattle.sql_base.specs.Laws.{columns_fit, columns_long, row_long}
use Rattle.mig_lens.specs.declared.columns.Cell.{Cell}
use Rattle.mig_lens.specs.declared.columns.Cell.TheVariants.{Carry, Make, Still}
use Rattle.mig_lens.specs.Layout.{has_mark}
use Rattle.trigger_pair.specs.Laws.{PairsAreLong}
use Rattle.trigger_pair.specs.Stored.{mark_value, places, shadow_values}
use Rattle.phase_steps.specs.Laws.{ReturnedRowsKeep, ReturnedRowsShow}
use Rattle.phase_steps.specs.Rows.{is_shadow, returned_row}
use Rattle.phase_steps.proofs.PlacedValues.{laid_parts, mark_placed, nulls_placed, parts_are_laid}
use Rattle.phase_steps.proofs.ShownRows.{Reads, first_read, later_reads, read_in, reads_behind}

abbrev nulls_for : List Cell → List Value
nulls_for cells = map (λ cell. Null) (filter is_shadow cells)

-- ---- a row that is written is one of the layout, and shows what was written

pub returned_rows_show : PairsAreLong → ReturnedRowsShow
returned_rows_show lengths pair values None p fit was =
    let nulls = nulls_for pair.lens.new_cols in
    let mark = mark_value (has_mark pair.lens) false in (
      take_at values (nulls ++ mark) (length pair.old.columns) (row_long pair.old values fit),
      parts_are_laid pair (returned_row pair.lens values None) p (record {
        old = values;
        shadow = nulls;
        mark = mark;
        old_fits = columns_fit pair.old values fit;
        shadow_fits = nulls_placed pair.new.columns pair.lens.new_cols (lengths pair p).1;
        mark_fits = mark_placed (has_mark pair.lens) false;
        is = refl;
      }),
    )
returned_rows_show lengths pair values (Some stored) p fit was =
    let parts = laid_parts pair stored p was in
    let behind = parts.shadow ++ parts.mark in
    let count = length pair.lens.old_cols in
    let old_long = columns_long pair.old.columns parts.old parts.old_fits ∙ sym (lengths pair p).0 in
    let kept : drop count stored ≡ behind = ap (drop count) parts.is ∙ drop_at parts.old behind count old_long in (
      take_at values (drop count stored) (length pair.old.columns) (row_long pair.old values fit),
      parts_are_laid pair (returned_row pair.lens values (Some stored)) p (record {
        old = values;
        shadow = parts.shadow;
        mark = parts.mark;
        old_fits = columns_fit pair.old values fit;
        shadow_fits = parts.shadow_fits;
        mark_fits = parts.mark_fits;
        is = ap (λ row. values ++ row) kept;
      }),
    )

-- ---- in columns that aren't carried the new view selects what stands behind the old ones

-- of NULLs it selects these,
nulls_selected : (f : ℕ → Value) (behind : List Value) (next : ℕ) (cells : List Cell)
    → Reads f next (nulls_for cells ++ behind) → shadow_values cells (map f (places next cells)) ≡ nulls_for cells
nulls_selected f behind next [] reads = refl
nulls_selected f behind next (Carry at ∷ cells) reads = nulls_selected f behind next cells reads
nulls_selected f behind next (Make up ∷ cells) reads =
    let here = first_read f next Null (nulls_for cells ++ behind) reads in
    let there = nulls_selected f behind (next + 1) cells (later_reads f next Null (nulls_for cells ++ behind) reads) in
    rw (here, there) refl
nulls_selected f behind next (Still x ∷ cells) reads =
    let here = first_read f next Null (nulls_for cells ++ behind) reads in
    let there = nulls_selected f behind (next + 1) cells (later_reads f next Null (nulls_for cells ++ behind) reads) in
    rw (here, there) refl

-- and of two rows that are alike from there on the same.
same_behind : (f g : ℕ → Value) (next : ℕ) (cells : List Cell) → ((k : ℕ) → f (next + k) ≡ g (next + k))
    → shadow_values cells (map f (places next cells)) ≡ shadow_values cells (map g (places next cells))
same_behind f g next [] same = refl
same_behind f g next (Carry at ∷ cells) same = same_behind f g next cells same
same_behind f g next (Make up ∷ cells) same =
    let here : f next ≡ g next = ap f (sym (add-zero next)) ∙ same 0 ∙ ap g (add-zero next) in
    let there =
    same_behind f g (next + 1) cells
    (λ k. let on : next + 1 + k ≡ next + suc k = omega arith in ap f on ∙ same (suc k) ∙ ap g (sym on)) in
    rw (here, there) refl
same_behind f g next (Still x ∷ cells) same =
    let here : f next ≡ g next = ap f (sym (add-zero next)) ∙ same 0 ∙ ap g (add-zero next) in
    let there =
    same_behind f g (next + 1) cells
    (λ k. let on : next + 1 + k ≡ next + suc k = omega arith in ap f on ∙ same (suc k) ∙ ap g (sym on)) in
    rw (here, there) refl

pub returned_rows_keep : PairsAreLong → ReturnedRowsKeep
returned_rows_keep lengths pair values None p fit =
    let cells = pair.lens.new_cols in
    let mark = mark_value (has_mark pair.lens) false in
    let count = length pair.old.columns in
    nulls_selected (read_in (values ++ (nulls_for cells ++ mark))) mark count cells
    (reads_behind values (nulls_for cells ++ mark) count (row_long pair.old values fit))
returned_rows_keep lengths pair values (Some stored) p fit =
    let count = length pair.old.columns in
    let held = drop (length pair.lens.old_cols) stored in
    let same : (k : ℕ) → read_in (values ++ held) (count + k) ≡ read_in stored (count + k) = λ k.
    reads_behind values held count (row_long pair.old values fit) k
    ∙ get_or-drop (length pair.lens.old_cols) stored k Null
    ∙ ap (λ n. read_in stored (n + k)) (lengths pair p).0 in
    same_behind (read_in (values ++ held)) (read_in stored) count pair.lens.new_cols same
