-- The halves of what is stored are the halves that it is made of.
use Rattle.roll_core.proofs.Words.{halves_of, Shape, get_or-take, ◌≡◌, ◌∙◌, ◌<◌, ℕ, suc, ℤ, ◌+◌, List, [], ◌∷◌, true, false, if◌then◌else◌, Option, Some, None, ap, refl, sym, subst}
use Rattle.roll_core.proofs.Words.{length, map, arith, not, inl, zero-add, slice_index_or, filter, enumerate_from, zip, sum_by-cons, Value, Null, row_fits, and_false}
use Rattle.roll_core.proofs.Words.{columns_fit, columns_long, row_long, value_weight, Cell, Carry, Make, Still, is_carry, Halves, Kept, lost_columns_in, lost_value, lost_weight, Pair, Agree, IsPair}
use Rattle.roll_core.proofs.Words.{PairsAreLong, new_half, new_view, old_view, shadow_values, stored_row, LaidBefore, LaidRowsShowFitting, LeftRowsKeep, left_row, left_value, Form, Own, Paired}
use Rattle.roll_core.proofs.Words.{ReturnedRowsKeep, Returned, is_shadow, returned_row, shadows_before, shadows_shown, sum_by}
use Rattle.roll_core.proofs.Words.{half, halves_on, unwrap_or, New, Old, Side, Left, Trimmed, IsStoredRow, kept, lost_of, stored_values, Below}

-- ---- which rows can be stored in a form

-- The pair of a form is one.
abbrev pub FormStands : Form → Type 0
FormStands (Own side) = Unit {0}
FormStands (Paired pair) = IsPair pair
FormStands (Left pair) = IsPair pair
FormStands (Trimmed pair) = IsPair pair
FormStands (Returned pair) = IsPair pair

-- The lost weight of a row that is written over what was stored, if anything was.
abbrev pub lost_over : Pair → Option (List Value) → ℕ
lost_over pair None = lost_columns_in Old pair.lens
lost_over pair (Some stored) = lost_of (Left pair) stored

-- The same, where the new version is gone.
abbrev pub returned_over : Pair → Option (List Value) → ℕ
returned_over pair None = lost_columns_in New pair.lens
returned_over pair (Some stored) = lost_of (Returned pair) stored

-- The row has this side's half alone.
pub record Alone (side : Side) (row : Kept) : Type 0 where
  pub values : List Value
  pub halves : row.halves ≡ halves_on side values None

pub record AloneFits (side : Side) (shape : Shape) (row : Kept) : Type 0 where
  pub values : List Value
  pub halves : row.halves ≡ halves_on side values None
  pub fits : row_fits shape values ≡ true

-- It has both halves, and these agree.
pub record Together (pair : Pair) (row : Kept) : Type 0 where
  pub old : List Value
  pub new : List Value
  pub halves : row.halves ≡ record { old = Some old; new = Some new }
  pub old_fits : row_fits pair.old old ≡ true
  pub new_fits : row_fits pair.new new ≡ true
  pub agree : Agree pair old new

abbrev pub Storable : Form → Option (List Value) → Kept → Type 0
Storable (Own side) before row = Alone side row × (row.lost ≡ 0)
Storable (Paired pair) before row = Together pair row × (row.lost ≡ 0)
Storable (Left pair) before row = AloneFits Old pair.new row × LaidBefore pair before × (row.lost ≡ lost_over pair before)
Storable (Trimmed pair) before row = AloneFits Old pair.new row × (row.lost ≡ 0)
Storable (Returned pair) before row = AloneFits Old pair.old row × LaidBefore pair before × (row.lost ≡ returned_over pair before)

-- ---- lost weights

add_lost : (cell : Cell) (value : Value) (cells : List Cell) (values : List Value) → lost_weight (cell ∷ cells) (value ∷ values) ≡ lost_value (cell, value) + lost_weight cells values
add_lost cell value cells values = sum_by-cons lost_value (cell, value) (zip cells values)

-- What is left has the weight of what was there before.
left_weight : (cells : List Cell) (values held olds : List Value) (k : ℕ) → length olds ≡ length cells → ((i : ℕ) → i < length cells → slice_index_or held (k + i) Null ≡ slice_index_or olds i Null) → lost_weight cells (map (left_value values held) (enumerate_from k cells)) ≡ lost_weight cells olds
left_weight [] values held olds k l same = refl
left_weight (cell ∷ cells) values held [] k l same = absurd (omega arith)
left_weight (cell ∷ cells) values held (old ∷ olds) k l same =
    let none : k ≡ k + 0 = omega arith in
    let here : slice_index_or held k Null ≡ old = ap (λ n. slice_index_or held n Null) none ∙ same 0 (omega arith) in
    let behind = λ (i : ℕ) (few : i < length cells). let on : k + 1 + i ≡ k + suc i = omega arith in ap (λ n. slice_index_or held n Null) on ∙ same (suc i) (omega arith) in
    let rest = left_weight cells values held olds (k + 1) (omega arith) behind in
    let first = elim cell as (λ cell. lost_value (cell, left_value values held (k, cell)) ≡ lost_value (cell, old)) [ Carry from ↦ refl | Make up ↦ ap value_weight here | Still constant ↦ ap value_weight here ] in
    add_lost cell (left_value values held (k, cell)) cells (map (left_value values held) (enumerate_from (k + 1) cells))
    ∙ ap (λ n. n + lost_weight cells (map (left_value values held) (enumerate_from (k + 1) cells))) first ∙ ap (λ n. lost_value (cell, old) + n) rest ∙ sym (add_lost cell old cells olds)

one_more : {a b n : ℕ} → Cell → a ≡ 1 + b → b ≡ n → a ≡ suc n
one_more cell e f = omega (arith, e, f)

-- Where there was nothing it is NULL, which weighs 1.
new_weight : (cells : List Cell) (values : List Value) (k : ℕ) → lost_weight cells (map (left_value values []) (enumerate_from k cells)) ≡ length (filter (λ cell. not (is_carry cell)) cells)
new_weight [] values k = refl
new_weight (Carry from ∷ cells) values k = add_lost (Carry from) (left_value values [] (k, Carry from)) cells (map (left_value values []) (enumerate_from (k + 1) cells)) ∙ zero-add (lost_weight cells (map (left_value values []) (enumerate_from (k + 1) cells))) ∙ new_weight cells values (k + 1)
new_weight (Make up ∷ cells) values k = one_more (Make up) (add_lost (Make up) Null cells (map (left_value values []) (enumerate_from (k + 1) cells))) (new_weight cells values (k + 1))
new_weight (Still constant ∷ cells) values k =
    one_more (Still constant) (add_lost (Still constant) Null cells (map (left_value values []) (enumerate_from (k + 1) cells))) (new_weight cells values (k + 1))

-- The lost weight of what is written over what was stored is the weight of that.
left_lost : PairsAreLong → LaidRowsShowFitting → LeftRowsKeep → (pair : Pair) (values : List Value)
    → (before : Option (List Value)) → IsPair pair → LaidBefore pair before
    → lost_of (Left pair) (left_row pair.lens values before) ≡ lost_over pair before
left_lost long fitting keep pair values None p was = ap (lost_weight pair.lens.old_cols) (keep pair values None p) ∙ new_weight pair.lens.old_cols values 0
left_lost long fitting keep pair values (Some stored) p was =
    let olds = old_view pair stored in
    let olds_long = columns_long pair.old.columns olds (fitting pair stored p was).0 in
    let cells_long : length olds ≡ length pair.lens.old_cols = olds_long ∙ sym (long pair p).0 in
    let same : (i : ℕ) → i < length pair.lens.old_cols → slice_index_or stored (0 + i) Null ≡ slice_index_or olds i Null = λ i few.
    let among : i < length pair.old.columns = omega (arith, few, cells_long, olds_long) in
    ap (λ n. slice_index_or stored n Null) (zero-add i) ∙ sym (get_or-take (length pair.old.columns) stored i Null among) in
    ap (lost_weight pair.lens.old_cols) (keep pair values (Some stored) p)
    ∙ left_weight pair.lens.old_cols values stored olds 0 cells_long same

-- ---- lost weights, where the new version is gone

-- What is lost weighs what the values weigh that have places of their own.
shadow_weight : (cells : List Cell) (values : List Value) → lost_weight cells values ≡ sum_by value_weight (shadow_values cells values)
shadow_weight [] [] = refl
shadow_weight [] (value ∷ values) = refl
shadow_weight (cell ∷ cells) [] = refl
shadow_weight (Carry from ∷ cells) (value ∷ values) =
    add_lost (Carry from) value cells values ∙ zero-add (lost_weight cells values) ∙ shadow_weight cells values
shadow_weight (Make up ∷ cells) (value ∷ values) =
    add_lost (Make up) value cells values ∙ ap (λ n. value_weight value + n) (shadow_weight cells values)
    ∙ sym (sum_by-cons value_weight value (shadow_values cells values))
shadow_weight (Still constant ∷ cells) (value ∷ values) =
    add_lost (Still constant) value cells values ∙ ap (λ n. value_weight value + n) (shadow_weight cells values)
    ∙ sym (sum_by-cons value_weight value (shadow_values cells values))

-- Each NULL weighs 1.
nulls_weigh : (cells : List Cell) → sum_by value_weight (map (λ cell. Null) (filter is_shadow cells)) ≡ length (filter (λ cell. not (is_carry cell)) cells)
nulls_weigh [] = refl
nulls_weigh (Carry from ∷ cells) = nulls_weigh cells
nulls_weigh (Make up ∷ cells) = one_more (Make up) (sum_by-cons value_weight Null (map (λ cell. Null) (filter is_shadow cells))) (nulls_weigh cells)
nulls_weigh (Still constant ∷ cells) =
    one_more (Still constant) (sum_by-cons value_weight Null (map (λ cell. Null) (filter is_shadow cells))) (nulls_weigh cells)

shown_weight : (pair : Pair) (stored : List Value) → lost_of (Returned pair) stored ≡ sum_by value_weight (shadows_shown pair stored)
shown_weight pair stored = shadow_weight pair.lens.new_cols (new_view pair stored)

before_weight : (pair : Pair) (before : Option (List Value)) → sum_by value_weight (shadows_before pair before) ≡ returned_over pair before
before_weight pair None = nulls_weigh pair.lens.new_cols
before_weight pair (Some stored) = sym (shown_weight pair stored)

-- The lost weight of what is written over what was stored is the weight of that.
returned_lost : ReturnedRowsKeep → (pair : Pair) (values : List Value) (before : Option (List Value)) → IsPair pair
    → row_fits pair.old values ≡ true
    → lost_of (Returned pair) (returned_row pair.lens values before) ≡ returned_over pair before
returned_lost keep pair values before p fit =
    shown_weight pair (returned_row pair.lens values before) ∙ ap (sum_by value_weight) (keep pair values before p fit) ∙ before_weight pair before

-- ---- the halves of what is stored

kept_is : (key : ℤ) (halves made : Halves) (lost weight : ℕ) → halves ≡ made → lost ≡ weight → ◌≡◌ {A = Kept} (record { key = key; halves = halves; lost = lost }) (record { key = key; halves = made; lost = weight })
kept_is key halves made lost weight h l = rw (h, l) refl

-- What is stored of a row.
abbrev pub values_of : Form → Option (List Value) → Kept → List Value
values_of form before row = stored_values form row.halves before

-- It means the row, and is stored as the form wants.
pub record StoresRow (form : Form) (before : Option (List Value)) (row : Kept) : Type 0 where
  pub means : kept form (row.key, values_of form before row) ≡ row
  pub stored : IsStoredRow form (values_of form before row)

stored_as : (form : Form) (before : Option (List Value)) (row : Kept) (halves : Halves) → row.halves ≡ halves → halves_of form (stored_values form halves before) ≡ halves
    → lost_of form (stored_values form halves before) ≡ row.lost → IsStoredRow form (stored_values form halves before) → StoresRow form before row
stored_as form before row halves h made lost is =
    let stored = stored_values form halves before in
    let values : values_of form before row ≡ stored = ap (λ (halves : Halves). stored_values form halves before) h in
    record {
      means = ap (λ v. kept form (row.key, v)) values ∙ kept_is row.key (halves_of form stored) row.halves (lost_of form stored) row.lost (made ∙ sym h) lost;
      stored = subst (IsStoredRow form) (sym values) is;
    }

own_half : (side : Side) (values : List Value) → halves_on side (unwrap_or (half side (halves_on side values None)) []) None ≡ halves_on side values None
own_half Old values = refl
own_half New values = refl

pub stores_row : Below → (form : Form) (before : Option (List Value)) (row : Kept) → FormStands form → Storable form before row → StoresRow form before row
stores_row law (Own side) before row p s = stored_as (Own side) before row (halves_on side s.0.values None) s.0.halves (own_half side s.0.values) (sym s.1) tt
stores_row law (Paired pair) before row p s =
    let t = s.0 in
    let stored = stored_row pair t.old t.new false in
    let held = law.holds pair t.old t.new false p (row_long pair.old t.old t.old_fits) (row_long pair.new t.new t.new_fits) t.agree in
    let half : new_half pair stored ≡ Some t.new = ap (λ b. if b then None else Some (new_view pair stored)) (held.mark ∙ and_false pair.layout.mark) ∙ ap Some held.new_shown in
    let both : ◌≡◌ {A = Halves} (record { old = Some (old_view pair stored); new = new_half pair stored }) (record { old = Some t.old; new = Some t.new }) = rw (held.old_shown, half) refl in
    stored_as (Paired pair) before row (record { old = Some t.old; new = Some t.new }) t.halves both (sym s.1)
    (inl (record { old = t.old; new = t.new; old_fits = columns_fit pair.old t.old t.old_fits; new_fits = columns_fit pair.new t.new t.new_fits; is = refl }))
stores_row law (Left pair) before row p s =
    let a = s.0 in
    let shown = (law.shown pair a.values before p a.fits).0 in
    let lost = left_lost law.long law.laid_shown law.kept pair a.values before p s.1 in
    stored_as (Left pair) before row (record { old = Some a.values; new = None }) a.halves (ap (λ v. record { old = Some v; new = None }) shown) (lost ∙ sym s.2) (law.laid pair a.values before p a.fits s.1)
stores_row law (Trimmed pair) before row p s =
    let a = s.0 in
    let left = left_row pair.lens a.values None in
    let there = law.shown pair a.values None p a.fits in
    let shown = law.trims pair left p there.1 ∙ there.0 in
    stored_as (Trimmed pair) before row (record { old = Some a.values; new = None }) a.halves (ap (λ v. record { old = Some v; new = None }) shown) (sym s.1) (law.trimmed pair left p (law.laid pair a.values None p a.fits tt))
stores_row law (Returned pair) before row p s =
    let a = s.0 in
    let there = law.returned pair a.values before p a.fits s.1 in
    let lost = returned_lost law.returned_kept pair a.values before p a.fits in
    stored_as (Returned pair) before row (record { old = Some a.values; new = None }) a.halves (ap (λ v. record { old = Some v; new = None }) there.0) (lost ∙ sym s.2) there.1
