-- A row of the layout that is as its mark says is a row of both versions, and each such row is as its mark says.
use Rattle.std.proofs.Common.{◌≡◌, ◌∙◌, ⊎_elim, inl, inr, ℕ, suc, ◌+◌, ◌-◌, List, [], ◌∷◌, ◌++◌, Bool, true, false, ◌&&◌, Option, Some, None, add-zero, append_assoc, drop, length, length-append, map, if◌then◌else◌, ap, refl, sym, subst, arith}
use Rattle.std.specs.Prelude.{slice_get, slice_index_or}
use Rattle.std.proofs.lemmas.List.{get_or-drop, length-map, take-append-drop}
use Rattle.sql_base.specs.declared.shapes.Column.{Column}
use Rattle.sql_base.specs.declared.values.Ty.TheVariants as ty
use Rattle.sql_base.specs.declared.values.Value.{Value}
use Rattle.sql_base.specs.declared.values.Value.TheVariants.{Null, Int, Text, Bool as Truth}
use Rattle.sql_base.specs.Fit.{has_type}
use Rattle.sql_base.specs.Laws.{and_false, and_true, both}
use Rattle.mig_lens.specs.declared.columns.Cell.{Cell}
use Rattle.mig_lens.specs.declared.columns.Cell.TheVariants.{Carry, Make, Still}
use Rattle.mig_lens.specs.Layout.{StoredPlace, has_mark, mark_place, place_of, shadows}
use Rattle.mig_lens.specs.Lens.{unfilled}
use Rattle.trigger_pair.specs.declared.pairs.Pair.{Pair}
use Rattle.trigger_pair.specs.Laws.{IsPair, PairsAreLong, UnfilledRowsAreBegun}
use Rattle.trigger_pair.specs.Rows.{IsFilledRow, IsPairedRow, IsUnfilledRow}
use Rattle.trigger_pair.specs.Stored.{last_value, mark_value, new_view, old_view, places, shadow_values, stored_row}
use Rattle.phase_steps.specs.Laws.{LaidRowsShowFitting}
use Rattle.phase_steps.specs.Rows.{IsLaidRow, fits_places}
use Rattle.row_fit.specs.Laws.{RowsAreAsMarked, RowsFitByTheirMarks}
use Rattle.row_fit.specs.Marks.{FitsMark, mark_of, truth_of}

-- ---- the mark of a row

last_of_appended : (values : List Value) (v : Value) → slice_get (values ++ v ∷ []) (length values) ≡ Some v
last_of_appended [] v = refl
last_of_appended (x ∷ values) v = last_of_appended values v

last_appended : (values : List Value) (v : Value) → last_value (values ++ v ∷ []) ≡ Some v
last_appended values v =
    let place : length (values ++ v ∷ []) - 1 ≡ length values = omega (arith, length-append values (v ∷ [])) in
    ap (λ at. slice_get (values ++ v ∷ []) at) place ∙ last_of_appended values v

-- A mark, where there is one or isn't, behind these values.
abbrev mark_behind : Bool → List Value → Option Bool
mark_behind mark values = if mark then truth_of (last_value values) else Some false

mark_stored : (values : List Value) (mark marked : Bool)
    → mark_behind mark (values ++ mark_value mark marked) ≡ Some (mark && marked)
mark_stored values true marked = ap truth_of (last_appended values (Truth marked))
mark_stored values false marked = refl

mark_of_row : (pair : Pair) (old new : List Value) (marked : Bool)
    → mark_of pair (stored_row pair old new marked) ≡ Some (pair.layout.mark && marked)
mark_of_row pair old new marked =
    mark_stored (old ++ shadow_values pair.lens.new_cols new) pair.layout.mark marked

pub rows_are_as_marked : UnfilledRowsAreBegun → RowsAreAsMarked
rows_are_as_marked begun pair stored p row = ⊎_elim filled unfilled_one row
  where
    filled : IsFilledRow pair stored → FitsMark pair stored (mark_of pair stored)
    filled f =
        let unmarked : mark_of pair stored ≡ Some false = ap (mark_of pair) f.is ∙ mark_of_row pair f.old f.new false
        ∙ ap Some (and_false pair.layout.mark) in
        subst (FitsMark pair stored) (sym unmarked) tt

    unfilled_one : IsUnfilledRow pair stored → FitsMark pair stored (mark_of pair stored)
    unfilled_one u =
        let marked : mark_of pair stored ≡ Some true = ap (mark_of pair) u.is
        ∙ mark_of_row pair u.old (unfilled pair.lens u.old) true
        ∙ ap Some (and_true pair.layout.mark ∙ u.mark) in
        subst (FitsMark pair stored) (sym marked) (begun pair stored p u).2

-- ---- a row of the layout whose mark is false is put together of what the views select

-- Behind some places a row fits the others.
behind_fits : (front behind : List StoredPlace) (values : List Value) → fits_places (front ++ behind) values ≡ true
    → fits_places behind (drop (length front) values) ≡ true
behind_fits [] behind values f = f
behind_fits (place ∷ front) behind [] f = cc
behind_fits (place ∷ front) behind (v ∷ values) f =
    behind_fits front behind values (both (has_type (Some place.1) v) (fits_places (front ++ behind) values) f).1

abbrev Reads : (ℕ → Value) → ℕ → List Value → Type 0
Reads f next row = (k : ℕ) → f (next + k) ≡ slice_index_or row k Null

first_read : (f : ℕ → Value) (next : ℕ) (v : Value) (row : List Value) → Reads f next (v ∷ row) → f next ≡ v
first_read f next v row same = ap f (sym (add-zero next)) ∙ same 0

later_reads : (f : ℕ → Value) (next : ℕ) (v : Value) (row : List Value) → Reads f next (v ∷ row)
    → Reads f (next + 1) row
later_reads f next v row same k =
    let step : next + 1 + k ≡ next + suc k = omega arith in
    ap f step ∙ same (suc k)

-- The shadow values of these cells that a read gives, and then what fits the other places.
record Behind (shadow : List Value) (others : List StoredPlace) (rest : List Value) : Type 0 where
  marks : List Value
  fit : fits_places others marks ≡ true
  is : rest ≡ shadow ++ marks

with_first : (v w : Value) (shadow rest : List Value) (others : List StoredPlace) → w ≡ v → Behind shadow others rest
    → Behind (w ∷ shadow) others (v ∷ rest)
with_first v w shadow rest others same b = record { marks = b.marks; fit = b.fit; is = rw (same, ← b.is) }

shadows_read : (f : ℕ → Value) (next : ℕ) (columns : List Column) (cells : List Cell) (others : List StoredPlace)
    (rest : List Value) → length cells ≡ length columns → fits_places (shadows columns cells ++ others) rest ≡ true
    → Reads f next rest → Behind (shadow_values cells (map f (places next cells))) others rest
shadows_read f next [] [] others rest long fit reads = record { marks = rest; fit = fit; is = refl }
shadows_read f next [] (cell ∷ cells) others rest long fit reads = absurd (omega arith)
shadows_read f next (c ∷ cs) [] others rest long fit reads = absurd (omega arith)
shadows_read f next (c ∷ cs) (Carry at ∷ cells) others rest long fit reads =
    shadows_read f next cs cells others rest (omega arith) fit reads
shadows_read f next (c ∷ cs) (Make up ∷ cells) others [] long fit reads = cc
shadows_read f next (c ∷ cs) (Make up ∷ cells) others (v ∷ rest) long fit reads =
    let parts = both (has_type (Some c.ty) v) (fits_places (shadows cs cells ++ others) rest) fit in
    with_first v (f next) (shadow_values cells (map f (places (next + 1) cells))) rest others
    (first_read f next v rest reads)
    (shadows_read f (next + 1) cs cells others rest (omega arith) parts.1 (later_reads f next v rest reads))
shadows_read f next (c ∷ cs) (Still x ∷ cells) others [] long fit reads = cc
shadows_read f next (c ∷ cs) (Still x ∷ cells) others (v ∷ rest) long fit reads =
    let parts = both (has_type (Some c.ty) v) (fits_places (shadows cs cells ++ others) rest) fit in
    with_first v (f next) (shadow_values cells (map f (places (next + 1) cells))) rest others
    (first_read f next v rest reads)
    (shadows_read f (next + 1) cs cells others rest (omega arith) parts.1 (later_reads f next v rest reads))

truth_is : (v : Value) (b : Bool) → truth_of (Some v) ≡ Some b → v ≡ Truth b
truth_is Null b e = cc
truth_is (Int n) b e = cc
truth_is (Text t) b e = cc
truth_is (Truth a) b e = cc

-- Where the mark isn't true or NULL, what stands in its place is false.
mark_is : (mark : Bool) (values marks : List Value) → fits_places (mark_place mark) marks ≡ true
    → mark_behind mark (values ++ marks) ≡ Some false → marks ≡ mark_value mark false
mark_is true values [] fit e = cc
mark_is true values (v ∷ []) fit e =
    ap (λ x. x ∷ []) (truth_is v false (ap truth_of (sym (last_appended values v)) ∙ e))
mark_is true values (v ∷ (w ∷ marks)) fit e =
    let none : false ≡ true = (both (has_type (Some ty.Boolean) v) false fit).1 in
    cc
mark_is false values [] fit e = refl
mark_is false values (v ∷ marks) fit e = cc

stored_again : PairsAreLong → (pair : Pair) (stored : List Value) → IsPair pair → IsLaidRow pair stored
    → mark_of pair stored ≡ Some false → stored ≡ stored_row pair (old_view pair stored) (new_view pair stored) false
stored_again lengths pair stored p laid unmarked =
    let own = map place_of pair.old.columns in
    let more = shadows pair.new.columns pair.lens.new_cols in
    let old = old_view pair stored in
    let shadow = shadow_values pair.lens.new_cols (new_view pair stored) in
    let mark : pair.layout.mark ≡ has_mark pair.lens = ap (λ l. l.mark) p.layout in
    let columns : pair.layout.columns ≡ own ++ (more ++ mark_place pair.layout.mark) = ap (λ l. l.columns) p.layout
    ∙ append_assoc own more (mark_place (has_mark pair.lens))
    ∙ ap (λ m. own ++ (more ++ mark_place m)) (sym mark) in
    let fit : fits_places (own ++ (more ++ mark_place pair.layout.mark)) stored ≡ true =
    ap (λ all. fits_places all stored) (sym columns) ∙ laid in
    let count = length pair.old.columns in
    let behind : fits_places (more ++ mark_place pair.layout.mark) (drop count stored) ≡ true =
    subst (λ n. fits_places (more ++ mark_place pair.layout.mark) (drop n stored) ≡ true)
    (length-map pair.old.columns place_of) (behind_fits own (more ++ mark_place pair.layout.mark) stored fit) in
    let parts : Behind shadow (mark_place pair.layout.mark) (drop count stored) =
    shadows_read (λ at. slice_index_or stored at Null) count pair.new.columns pair.lens.new_cols
    (mark_place pair.layout.mark) (drop count stored) (lengths pair p).1 behind
    (λ k. sym (get_or-drop count stored k Null)) in
    let joined : stored ≡ old ++ shadow ++ parts.marks = sym (take-append-drop count stored)
    ∙ ap (λ rest. old ++ rest) parts.is
    ∙ sym (append_assoc old shadow parts.marks) in
    let told = ap (mark_of pair) (sym joined) ∙ unmarked in
    joined ∙ ap (λ marks. old ++ shadow ++ marks) (mark_is pair.layout.mark (old ++ shadow) parts.marks parts.fit told)

-- ---- the rows of the layout that are as their marks say

has_true_mark : (mark : Bool) (values : List Value) → mark_behind mark values ≡ Some true → mark ≡ true
has_true_mark true values e = refl
has_true_mark false values e = cc

pub rows_fit_by_their_marks : PairsAreLong → LaidRowsShowFitting → RowsFitByTheirMarks
rows_fit_by_their_marks lengths shows pair stored p laid fits = by_mark (mark_of pair stored) refl fits
  where
    by_mark : (mark : Option Bool) → mark_of pair stored ≡ mark → FitsMark pair stored mark → IsPairedRow pair stored
    by_mark None e h = absurd h
    by_mark (Some false) e h = inl (record {
      old = old_view pair stored;
      new = new_view pair stored;
      old_fits = (shows pair stored p laid).0;
      new_fits = (shows pair stored p laid).1;
      is = stored_again lengths pair stored p laid e;
    })
    by_mark (Some true) e h = inr (record {
      old = old_view pair stored;
      fits = (shows pair stored p laid).0;
      mark = has_true_mark pair.layout.mark stored e;
      is = h;
    })
