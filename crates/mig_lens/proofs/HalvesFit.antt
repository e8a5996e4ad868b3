-- Halves that are made by a lens: they fit, keep the key, and come back where nothing is lost.
use Rattle.std.proofs.Common.{zero-add, add-zero, ◌≡◌, ◌∙◌, ℕ, zero, suc, ◌+◌, List, [], ◌∷◌, true, false, Option, Some, None, Ok, Err, length, ap, refl, sym, subst, arith}
use Rattle.std.specs.Prelude.{slice_get, slice_index_or, unwrap_or}
use Rattle.std.specs.List.{list_any}
use Rattle.std.specs.Option.{option_map_or}
use Rattle.std.proofs.lemmas.Bool.Decides.{nat_tests}
use Rattle.sql_base.specs.declared.shapes.Column.{Column}
use Rattle.sql_base.specs.declared.shapes.Shape.{Shape}
use Rattle.sql_base.specs.declared.values.Ty.{Ty}
use Rattle.sql_base.specs.declared.values.Ty.TheVariants.{Bigint, Text, Boolean}
use Rattle.sql_base.specs.declared.values.Value.{Value}
use Rattle.sql_base.specs.declared.values.Value.TheVariants as value
use Rattle.sql_base.specs.declared.values.Value.TheVariants.{Null}
use Rattle.sql_eval.specs.Eval.{eval}
use Rattle.sql_base.specs.Laws.{all_true, and_then_ok, both, columns_fit, columns_long}
use Rattle.sql_eval.specs.Laws.{Sound, TypedIsSound}
use Rattle.sql_base.specs.Outcome.{and_then, every}
use Rattle.sql_base.specs.Fit.{fits_columns, has_type, is_integer, row_fits}
use Rattle.sql_eval.specs.Typing.{Typed, same, type_of}
use Rattle.sql_eval.specs.Value.{Outcome}
use Rattle.mig_lens.specs.declared.columns.Cell.{Cell}
use Rattle.mig_lens.specs.declared.columns.Cell.TheVariants.{Carry, Make, Still}
use Rattle.mig_lens.specs.Lens.{all_carry, carries, cell_fits, cell_types, cells_fit, cells_type, is_of_type, made, outcomes, types_as, value_before}
use Rattle.mig_lens.specs.Laws.{ForwardFits, BackwardFits, BackwardOfForward, ForwardCarries, BackwardCarries, UnmadeNeverFaults}
use Rattle.mig_lens.specs.Layout.{is_make}

record Steps (r : Outcome) (rs : List Outcome) (values : List Value) : Type 0 where
  value : Value
  others : List Value
  here : r ≡ Ok value
  there : every rs ≡ Ok others
  all : values ≡ value ∷ others

every_ok : (r : Outcome) (rs : List Outcome) (values : List Value) → every (r ∷ rs) ≡ Ok values → Steps r rs values
every_ok r rs values h =
    let a = and_then_ok r (λ x. and_then (every rs) (λ xs. Ok (x ∷ xs))) values h in
    let b = and_then_ok (every rs) (λ xs. Ok (a.0 ∷ xs)) values a.2 in
    record { value = a.0; others = b.0; here = a.1; there = b.1; all = cc }

-- ---- types of values

typed_at : (cs : List Column) (vs : List Value) (k : ℕ) (c : Column) → fits_columns cs vs ≡ true → slice_get cs k ≡ Some c → has_type (Some c.ty) (slice_index_or vs k Null) ≡ true
typed_at [] vs k c h e = cc
typed_at (d ∷ cs) [] k c h e = cc
typed_at (d ∷ cs) (v ∷ vs) zero c h e =
    let first : d ≡ c = cc in
    subst (λ x. has_type (Some x.ty) v ≡ true) first (both (has_type (Some d.ty) v) (fits_columns cs vs) h).0
typed_at (d ∷ cs) (v ∷ vs) (suc k) c h e = typed_at cs vs k c (both (has_type (Some d.ty) v) (fits_columns cs vs) h).1 e

same_is : (a b : Ty) → same a b ≡ true → a ≡ b
same_is Bigint Bigint h = refl
same_is Bigint Text h = cc
same_is Bigint Boolean h = cc
same_is Text Bigint h = cc
same_is Text Text h = refl
same_is Text Boolean h = cc
same_is Boolean Bigint h = cc
same_is Boolean Text h = cc
same_is Boolean Boolean h = refl

of_same_type : (a b : Ty) (v : Value) → same a b ≡ true → has_type (Some b) v ≡ true → has_type (Some a) v ≡ true
of_same_type a b v s h = subst (λ t. has_type (Some t) v ≡ true) (sym (same_is a b s)) h

of_null_type : (a : Ty) (v : Value) → has_type None v ≡ true → has_type (Some a) v ≡ true
of_null_type a Null h = refl
of_null_type a (value.Int n) h = cc
of_null_type a (value.Text t) h = cc
of_null_type a (value.Bool b) h = cc

carried_types : (ty : Ty) (others : List Column) (half : List Value) (at : ℕ) → fits_columns others half ≡ true → (o : Option Column) → slice_get others at ≡ o → is_of_type ty o ≡ true → has_type (Some ty) (slice_index_or half at Null) ≡ true
carried_types ty others half at h None e t = cc
carried_types ty others half at h (Some c) e t = of_same_type ty c.ty (slice_index_or half at Null) t (typed_at others half at c h e)

made_types : (ty : Ty) (t : Typed) (r : Outcome) (v : Value) → Sound t r → types_as ty t ≡ true → r ≡ Ok v → has_type (Some ty) v ≡ true
made_types ty (Err f) r v s h e = cc
made_types ty (Ok t) (Err f) v s h e = cc
made_types ty (Ok None) (Ok x) v s h e = let same_value : x ≡ v = cc in subst (λ y. has_type (Some ty) y ≡ true) same_value (of_null_type ty x s)
made_types ty (Ok (Some t)) (Ok x) v s h e = let same_value : x ≡ v = cc in subst (λ y. has_type (Some ty) y ≡ true) same_value (of_same_type ty t x h s)

-- a value before, if there was one, is of this type
abbrev SuitsBefore : Ty → Option Value → Type 0
SuitsBefore ty before = option_map_or (has_type (Some ty)) before true ≡ true

still_types : (ty : Ty) (before : Option Value) (x : Value) → SuitsBefore ty before → has_type (Some ty) x ≡ true → has_type (Some ty) (unwrap_or before x) ≡ true
still_types ty None x b h = h
still_types ty (Some y) x b h = b

cell_made : TypedIsSound → (other : Shape) (half : List Value) (column : Column) (before : Option Value) (cell : Cell) (v : Value) → fits_columns other.columns half ≡ true → cell_fits other.columns column cell ≡ true → cell_types other column cell ≡ true → SuitsBefore column.ty before → made other half before cell ≡ Ok v → has_type (Some column.ty) v ≡ true
cell_made sound other half column before (Carry at) v h f t b e =
    let is : slice_index_or half at Null ≡ v = cc in
    subst (λ y. has_type (Some column.ty) y ≡ true) is (carried_types column.ty other.columns half at h (slice_get other.columns at) refl f)
cell_made sound other half column before (Make up) v h f t b e =
    made_types column.ty (type_of other up) (eval other half up) v (sound other half up h) t e
cell_made sound other half column before (Still x) v h f t b e =
    let is : unwrap_or before x ≡ v = cc in
    subst (λ y. has_type (Some column.ty) y ≡ true) is (still_types column.ty before x b f)

-- ---- whole halves

-- each value before, from this place on, is of its column's type
abbrev AllSuitBefore : List Column → Option (List Value) → ℕ → Type 0
AllSuitBefore columns previous at = (k : ℕ) (c : Column) → slice_get columns k ≡ Some c → SuitsBefore c.ty (value_before previous (at + k))

all_suit : (columns : List Column) (previous : Option (List Value)) → option_map_or (fits_columns columns) previous true ≡ true → AllSuitBefore columns previous 0
all_suit columns None h k c e = refl
all_suit columns (Some row) h k c e = rw (zero-add k) (typed_at columns row k c h e)

half_fits : TypedIsSound → (other : Shape) (half : List Value) → fits_columns other.columns half ≡ true → (columns : List Column) (cells : List Cell) (previous : Option (List Value)) (at : ℕ) (values : List Value) → cells_fit other.columns columns cells ≡ true → cells_type other columns cells ≡ true → AllSuitBefore columns previous at → every (outcomes other half previous at cells) ≡ Ok values → fits_columns columns values ≡ true
half_fits sound other half h [] [] previous at values f t b e = let is : [] ≡ values = cc in subst (λ vs. fits_columns [] vs ≡ true) is refl
half_fits sound other half h [] (cell ∷ cells) previous at values f t b e = cc
half_fits sound other half h (c ∷ cs) [] previous at values f t b e = cc
half_fits sound other half h (c ∷ cs) (cell ∷ cells) previous at values f t b e =
    let steps = every_ok (made other half (value_before previous at) cell) (outcomes other half previous (at + 1) cells) values e in
    let fit = both (cell_fits other.columns c cell) (cells_fit other.columns cs cells) f in
    let typed = both (cell_types other c cell) (cells_type other cs cells) t in
    let first : SuitsBefore c.ty (value_before previous at) = subst (λ n. SuitsBefore c.ty (value_before previous n)) (add-zero at) (b 0 c refl) in
    let rest : AllSuitBefore cs previous (at + 1) = λ k d g. subst (λ n. SuitsBefore d.ty (value_before previous n)) (omega arith) (b (suc k) d g) in
    let here = cell_made sound other half c (value_before previous at) cell steps.value h fit.0 typed.0 first steps.here in
    let there = half_fits sound other half h cs cells previous (at + 1) steps.others fit.1 typed.1 rest steps.there in
    subst (λ vs. fits_columns (c ∷ cs) vs ≡ true) (sym steps.all) (all_true (has_type (Some c.ty) steps.value) (fits_columns cs steps.others) here there)

-- ---- the key

carried_value : (other : Shape) (half : List Value) (previous : Option (List Value)) (at : ℕ) (cells : List Cell) (values : List Value) (i j : ℕ) → carries cells i j ≡ true → every (outcomes other half previous at cells) ≡ Ok values → slice_index_or values i Null ≡ slice_index_or half j Null
carried_value other half previous at [] values i j c e = cc
carried_value other half previous at (Carry from ∷ cells) values zero j c e =
    let steps = every_ok (Ok (slice_index_or half from Null)) (outcomes other half previous (at + 1) cells) values e in
    let here : slice_index_or half from Null ≡ steps.value = cc in
    let place : from ≡ j = grind (arith, nat_tests) in
    rw steps.all (sym here ∙ ap (λ n. slice_index_or half n Null) place)
carried_value other half previous at (Make up ∷ cells) values zero j c e = cc
carried_value other half previous at (Still x ∷ cells) values zero j c e = cc
carried_value other half previous at (cell ∷ cells) values (suc i) j c e =
    let steps = every_ok (made other half (value_before previous at) cell) (outcomes other half previous (at + 1) cells) values e in
    rw steps.all (carried_value other half previous (at + 1) cells steps.others i j c steps.there)

-- ---- back again

comes_back : (other : Shape) (made_half : List Value) (before : Option (List Value)) (at : ℕ) (cells : List Cell) (values : List Value) → all_carry cells ≡ true → length cells ≡ length values → ((k i : ℕ) → carries cells k i ≡ true → slice_index_or made_half i Null ≡ slice_index_or values k Null) → every (outcomes other made_half before at cells) ≡ Ok values
comes_back other made_half before at [] [] all len same = refl
comes_back other made_half before at [] (v ∷ vs) all len same = absurd (omega arith)
comes_back other made_half before at (cell ∷ cells) [] all len same = absurd (omega arith)
comes_back other made_half before at (Make up ∷ cells) (v ∷ vs) all len same = cc
comes_back other made_half before at (Still x ∷ cells) (v ∷ vs) all len same = cc
comes_back other made_half before at (Carry from ∷ cells) (v ∷ vs) all len same =
    let here : slice_index_or made_half from Null ≡ v = same 0 from (grind (arith, nat_tests)) in
    let there = comes_back other made_half before (at + 1) cells vs all (omega arith) (λ k i c. same (suc k) i c) in
    rw (here, there)

cells_length : (others columns : List Column) (cells : List Cell) → cells_fit others columns cells ≡ true → length cells ≡ length columns
cells_length others [] [] f = refl
cells_length others [] (cell ∷ cells) f = cc
cells_length others (c ∷ cs) [] f = cc
cells_length others (c ∷ cs) (cell ∷ cells) f = ap suc (cells_length others cs cells (both (cell_fits others c cell) (cells_fit others cs cells) f).1)

-- ---- the laws

before_columns : (shape : Shape) (previous : Option (List Value)) → option_map_or (row_fits shape) previous true ≡ true → option_map_or (fits_columns shape.columns) previous true ≡ true
before_columns shape None h = refl
before_columns shape (Some row) h = columns_fit shape row h

-- one half from the other, by the cells of its columns
one_way : TypedIsSound → (this other : Shape) (cells : List Cell) (half : List Value) (previous : Option (List Value)) (values : List Value) → cells_fit other.columns this.columns cells ≡ true → cells_type other this.columns cells ≡ true → carries cells this.key other.key ≡ true → row_fits other half ≡ true → option_map_or (row_fits this) previous true ≡ true → every (outcomes other half previous 0 cells) ≡ Ok values → (row_fits this values ≡ true) × (slice_index_or values this.key Null ≡ slice_index_or half other.key Null)
one_way sound this other cells half previous values f t k h b e =
    let row = both (fits_columns other.columns half) (is_integer (slice_index_or half other.key Null)) h in
    let same_key = carried_value other half previous 0 cells values this.key other.key k e in
    let fit = half_fits sound other half row.0 this.columns cells previous 0 values f t (all_suit this.columns previous (before_columns this previous b)) e in
    let key : is_integer (slice_index_or values this.key Null) ≡ true = ap is_integer same_key ∙ row.1 in
    (all_true (fits_columns this.columns values) (is_integer (slice_index_or values this.key Null)) fit key, same_key)

pub forward_fits : TypedIsSound → ForwardFits
forward_fits sound lens old new half previous made_half f w h b e =
    one_way sound new old lens.new_cols half previous made_half (both (cells_fit old.columns new.columns lens.new_cols) (cells_fit new.columns old.columns lens.old_cols) f).0 w.ups w.new_key h b e

pub backward_fits : TypedIsSound → BackwardFits
backward_fits sound lens old new half previous made_half f w h b e =
    one_way sound old new lens.old_cols half previous made_half (both (cells_fit old.columns new.columns lens.new_cols) (cells_fit new.columns old.columns lens.old_cols) f).1 w.downs w.old_key h b e

pub backward_of_forward : BackwardOfForward
backward_of_forward lens old new half previous before made_half f w all h e =
    let fit = both (cells_fit old.columns new.columns lens.new_cols) (cells_fit new.columns old.columns lens.old_cols) f in
    let row = both (fits_columns old.columns half) (is_integer (slice_index_or half old.key Null)) h in
    let lengths = cells_length new.columns old.columns lens.old_cols fit.1 ∙ sym (columns_long old.columns half row.0) in
    comes_back new made_half before 0 lens.old_cols half all lengths (λ k i c. carried_value old half previous 0 lens.new_cols made_half i k (w.both_ways i k ∙ c) e)

pub forward_carries : ForwardCarries
forward_carries lens old half previous made_half i j e c = carried_value old half previous 0 lens.new_cols made_half i j c e

pub backward_carries : BackwardCarries
backward_carries lens new half previous made_half j i e c = carried_value new half previous 0 lens.old_cols made_half j i c e

never_faults : (other : Shape) (half : List Value) (previous : Option (List Value)) (at : ℕ) (cells : List Cell) → list_any is_make cells ≡ false → (values : List Value) × (every (outcomes other half previous at cells) ≡ Ok values)
never_faults other half previous at [] h = ([], refl)
never_faults other half previous at (Carry from ∷ cells) h =
    let rest = never_faults other half previous (at + 1) cells h in
    let first = slice_index_or half from Null in
    (first ∷ rest.0, ap (λ r. and_then r (λ values. Ok (first ∷ values))) rest.1)
never_faults other half previous at (Make up ∷ cells) h = cc
never_faults other half previous at (Still x ∷ cells) h =
    let rest = never_faults other half previous (at + 1) cells h in
    let first = unwrap_or (value_before previous at) x in
    (first ∷ rest.0, ap (λ r. and_then r (λ values. Ok (first ∷ values))) rest.1)

pub unmade_never_faults : UnmadeNeverFaults
unmade_never_faults lens old half previous h = never_faults old half previous 0 lens.new_cols h
