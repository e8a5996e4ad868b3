-- What the two views select of a row that was stored from two halves, whatever the halves are.
use Rattle.std.proofs.Common.{◌≡◌, ◌∙◌, ◌<◌, ℕ, suc, ◌+◌, ◌-◌, List, [], ◌∷◌, ◌++◌, Bool, true, false, ◌&&◌, Some, length, map, take, add-zero, append_assoc, length-append, ap, refl, sym, subst, arith}
use Rattle.std.specs.Prelude.{slice_get, slice_index_or}
use Rattle.std.proofs.lemmas.List.{get_or-append-add, get_or_append_left, length-map}
use Rattle.std.proofs.Math.Seq.{take-append_seam}
use Rattle.sql_base.specs.declared.shapes.Column.{Column}
use Rattle.sql_base.specs.declared.values.Value.{Value}
use Rattle.sql_base.specs.declared.values.Value.TheVariants.{Null, Bool as Truth}
use Rattle.mig_lens.specs.declared.columns.Cell.{Cell}
use Rattle.mig_lens.specs.declared.columns.Cell.TheVariants.{Carry, Make, Still}
use Rattle.mig_lens.specs.Layout.{layout, mark_place, place_of, shadows}
use Rattle.trigger_pair.specs.declared.pairs.Pair.{Pair}
use Rattle.trigger_pair.specs.Laws.{Holds, IsPair}
use Rattle.trigger_pair.specs.Stored.{is_true, last_value, mark_value, new_view, places, shadow_values, stored_row}

-- Each new column that carries an old one has its value, and the old half has that place.
pub record Alike (cells : List Cell) (old new : List Value) : Type 0 where
  pub long : length new ≡ length cells
  pub within : (i at : ℕ) → slice_get cells i ≡ Some (Carry at) → at < length old
  pub same : (i at : ℕ) → slice_get cells i ≡ Some (Carry at) → slice_index_or old at Null ≡ slice_index_or new i Null

-- ---- what the new view selects

-- where a read from this place on is that of a list, the first one is that of its first value
own_step : (f : ℕ → Value) (next : ℕ) (v : Value) (rest : List Value) → ((k : ℕ) → f (next + k) ≡ slice_index_or (v ∷ rest) k Null) → (f next ≡ v) × ((k : ℕ) → f (next + 1 + k) ≡ slice_index_or rest k Null)
own_step f next v rest own =
    (subst (λ n. f n ≡ v) (add-zero next) (own 0), λ k. subst (λ n. f n ≡ slice_index_or rest k Null) (omega arith) (own (suc k)))

-- A read that gives carried values by their places, and the others one after another, gives the new half.
pub selected : (f : ℕ → Value) (next : ℕ) (cells : List Cell) (new tail : List Value) → length new ≡ length cells → ((i at : ℕ) → slice_get cells i ≡ Some (Carry at) → f at ≡ slice_index_or new i Null) → ((k : ℕ) → f (next + k) ≡ slice_index_or (shadow_values cells new ++ tail) k Null) → map f (places next cells) ≡ new
selected f next [] [] tail len carried own = refl
selected f next [] (v ∷ vs) tail len carried own = absurd (omega arith)
selected f next (cell ∷ cells) [] tail len carried own = absurd (omega arith)
selected f next (Carry at ∷ cells) (v ∷ vs) tail len carried own =
    let here : f at ≡ v = carried 0 at refl in
    let there = selected f next cells vs tail (omega arith) (λ i j e. carried (suc i) j e) own in
    rw (here, there)
selected f next (Make up ∷ cells) (v ∷ vs) tail len carried own =
    let step = own_step f next v (shadow_values cells vs ++ tail) own in
    let there = selected f (next + 1) cells vs tail (omega arith) (λ i j e. carried (suc i) j e) step.1 in
    rw (step.0, there)
selected f next (Still x ∷ cells) (v ∷ vs) tail len carried own =
    let step = own_step f next v (shadow_values cells vs ++ tail) own in
    let there = selected f (next + 1) cells vs tail (omega arith) (λ i j e. carried (suc i) j e) step.1 in
    rw (step.0, there)

-- the same of a row that begins with the old half
pub new_of_row : (old new tail : List Value) (cells : List Cell) → Alike cells old new → map (λ at. slice_index_or (old ++ shadow_values cells new ++ tail) at Null) (places (length old) cells) ≡ new
new_of_row old new tail cells agree =
    let row = old ++ shadow_values cells new ++ tail in
    let joined : row ≡ old ++ (shadow_values cells new ++ tail) = append_assoc old (shadow_values cells new) tail in
    let carried : (i at : ℕ) → slice_get cells i ≡ Some (Carry at) → slice_index_or row at Null ≡ slice_index_or new i Null = λ i at e.
    ap (λ values. slice_index_or values at Null) joined ∙ get_or_append_left old (shadow_values cells new ++ tail) Null at (agree.within i at e) ∙ agree.same i at e in
    let own : (k : ℕ) → slice_index_or row (length old + k) Null ≡ slice_index_or (shadow_values cells new ++ tail) k Null = λ k.
    ap (λ values. slice_index_or values (length old + k) Null) joined ∙ get_or-append-add old (shadow_values cells new ++ tail) k Null in
    selected (λ at. slice_index_or row at Null) (length old) cells new tail agree.long carried own

pub new_of_stored : (pair : Pair) (old new : List Value) (marked : Bool) → length old ≡ length pair.old.columns → Alike pair.lens.new_cols old new → new_view pair (stored_row pair old new marked) ≡ new
new_of_stored pair old new marked long agree =
    let row = stored_row pair old new marked in
    ap (λ n. map (λ at. slice_index_or row at Null) (places n pair.lens.new_cols)) (sym long) ∙ new_of_row old new (mark_value pair.layout.mark marked) pair.lens.new_cols agree

-- ---- what the old view selects

pub old_of_row : (old shadow tail : List Value) (n : ℕ) → length old ≡ n → take n (old ++ shadow ++ tail) ≡ old
old_of_row old shadow tail n long =
    ap (λ m. take m (old ++ shadow ++ tail)) (sym long) ∙ ap (λ row. take (length old) row) (append_assoc old shadow tail) ∙ take-append_seam old (shadow ++ tail)

-- ---- the mark

last_of_appended : (values : List Value) (v : Value) → slice_get (values ++ v ∷ []) (length values) ≡ Some v
last_of_appended [] v = refl
last_of_appended (x ∷ values) v = last_of_appended values v

last_appended : (values : List Value) (v : Value) → last_value (values ++ v ∷ []) ≡ Some v
last_appended values v =
    let place : length (values ++ v ∷ []) - 1 ≡ length values = omega (arith, length-append values (v ∷ [])) in
    ap (λ at. slice_get (values ++ v ∷ []) at) place ∙ last_of_appended values v

pub mark_of_row : (values : List Value) (mark marked : Bool) → (mark && is_true (last_value (values ++ mark_value mark marked))) ≡ (mark && marked)
mark_of_row values true marked = ap is_true (last_appended values (Truth marked))
mark_of_row values false marked = refl

-- ---- its length

pub shadows_long : (columns : List Column) (cells : List Cell) (new : List Value) → length cells ≡ length columns → length new ≡ length cells → length (shadow_values cells new) ≡ length (shadows columns cells)
shadows_long [] [] [] a b = refl
shadows_long [] [] (v ∷ vs) a b = absurd (omega arith)
shadows_long [] (cell ∷ cells) new a b = absurd (omega arith)
shadows_long (c ∷ cs) [] new a b = absurd (omega arith)
shadows_long (c ∷ cs) (cell ∷ cells) [] a b = absurd (omega arith)
shadows_long (c ∷ cs) (Carry at ∷ cells) (v ∷ vs) a b = shadows_long cs cells vs (omega arith) (omega arith)
shadows_long (c ∷ cs) (Make up ∷ cells) (v ∷ vs) a b = ap suc (shadows_long cs cells vs (omega arith) (omega arith))
shadows_long (c ∷ cs) (Still x ∷ cells) (v ∷ vs) a b = ap suc (shadows_long cs cells vs (omega arith) (omega arith))

pub mark_long : (mark marked : Bool) → length (mark_value mark marked) ≡ length (mark_place mark)
mark_long true marked = refl
mark_long false marked = refl

-- A row of an old half and a new one is as long as the layout.
pub stored_long : (pair : Pair) (old new : List Value) (marked : Bool) → IsPair pair → length old ≡ length pair.old.columns → length pair.lens.new_cols ≡ length pair.new.columns → length new ≡ length pair.lens.new_cols → length (stored_row pair old new marked) ≡ length pair.layout.columns
stored_long pair old new marked p a b c =
    let own = map place_of pair.old.columns in
    let more = shadows pair.new.columns pair.lens.new_cols in
    let shadow = shadow_values pair.lens.new_cols new in
    let columns : pair.layout.columns ≡ own ++ more ++ mark_place (layout pair.old pair.new pair.lens).mark = ap (λ l. l.columns) p.layout in
    let marks : length (mark_value pair.layout.mark marked) ≡ length (mark_place (layout pair.old pair.new pair.lens).mark) = mark_long pair.layout.mark marked ∙ ap (λ l. length (mark_place l.mark)) p.layout in
    let shadows_as_long = shadows_long pair.new.columns pair.lens.new_cols new b c in
    let own_long = length-map pair.old.columns place_of in
    let left_long = length-append (old ++ shadow) (mark_value pair.layout.mark marked) in
    let left_first = length-append old shadow in
    let right_long = length-append (own ++ more) (mark_place (layout pair.old pair.new pair.lens).mark) in
    let right_first = length-append own more in
    let columns_long : length pair.layout.columns ≡ length (own ++ more ++ mark_place (layout pair.old pair.new pair.lens).mark) = ap length columns in
    omega arith

-- ---- all of it

mark_is_held : (values : List Value) (mark marked : Bool) → mark ≡ true → last_value (values ++ mark_value mark marked) ≡ Some (Truth (mark && marked))
mark_is_held values true marked h = last_appended values (Truth marked)
mark_is_held values false marked h = cc

pub holds : (pair : Pair) (old new : List Value) (marked shown : Bool) → IsPair pair → length old ≡ length pair.old.columns → length pair.lens.new_cols ≡ length pair.new.columns → Alike pair.lens.new_cols old new → (pair.layout.mark && marked) ≡ shown → Holds pair old new shown (stored_row pair old new marked)
holds pair old new marked shown p a b agree m = record {
  old_shown = old_of_row old (shadow_values pair.lens.new_cols new) (mark_value pair.layout.mark marked) (length pair.old.columns) a;
  new_shown = new_of_stored pair old new marked a agree;
  mark = mark_of_row (old ++ shadow_values pair.lens.new_cols new) pair.layout.mark marked ∙ m;
  mark_held = λ has. mark_is_held (old ++ shadow_values pair.lens.new_cols new) pair.layout.mark marked has ∙ ap (λ b. Some (Truth b)) m;
  long = stored_long pair old new marked p a b agree.long;
}
