-- Two sides of a list of columns, and the cells that lead from the one to the other.
use Rattle.std.proofs.Common.{zero-add, ◌≡◌, ◌∙◌, ℕ, zero, suc, ◌+◌, List, [], ◌∷◌, ◌++◌, Bool, true, false, Option, Some, None, length, take, ap, refl, sym, subst, arith, append_assoc, length-append}
use Rattle.std.specs.Prelude.{◌==◌, is_some, nat_lt, slice_get}
use Rattle.std.specs.List.{cons_option, filter_map}
use Rattle.std.specs.Option.{option_map}
use Rattle.std.proofs.lemmas.Bool.Decides.{nat_tests}
use Rattle.sql_base.specs.declared.exprs.Expr.{Expr}
use Rattle.sql_base.specs.declared.shapes.Column.{Column}
use Rattle.sql_base.specs.declared.shapes.Shape.{Shape}
use Rattle.sql_base.specs.declared.values.Ty.{Ty}
use Rattle.sql_base.specs.declared.values.Ty.TheVariants.{Bigint, Text, Boolean}
use Rattle.sql_base.specs.Fit.{has_type}
use Rattle.sql_base.specs.Laws.{all_true}
use Rattle.sql_eval.specs.Typing.{same, type_of}
use Rattle.mig_lens.specs.declared.columns.Cell.{Cell}
use Rattle.mig_plan.specs.declared.drafts.DraftColumn.{DraftColumn}
use Rattle.mig_plan.specs.Finish.{cell_of, new_cells, new_side, next_place, old_cells, old_side, place}
use Rattle.mig_lens.specs.Lens.{carries, cell_fits, cell_types, cells_fit, cells_type, is_of_type, types_as}
use Rattle.mig_plan.proofs.Each.{Each}

-- ---- types

pub same_refl : (ty : Ty) → same ty ty ≡ true
same_refl Bigint = refl
same_refl Text = refl
same_refl Boolean = refl

pub same_is : (s t : Ty) → same s t ≡ true → s ≡ t
same_is Bigint Bigint h = refl
same_is Text Text h = refl
same_is Boolean Boolean h = refl
same_is Bigint Text h = cc
same_is Bigint Boolean h = cc
same_is Text Bigint h = cc
same_is Text Boolean h = cc
same_is Boolean Bigint h = cc
same_is Boolean Text h = cc

-- ---- places

pub there : {X : Type 0} (xs : List X) (k : ℕ) (x : X) → slice_get xs k ≡ Some x → nat_lt k (length xs) ≡ true
there [] k x h = cc
there (y ∷ xs) zero x h = grind (arith, nat_tests)
there (y ∷ xs) (suc k) x h = let more = there xs k x h in grind (arith, nat_tests)

pub at_its_place : (side : DraftColumn → Option Column) (cs : List DraftColumn) (k : ℕ) (c : DraftColumn) (n : Column) → slice_get cs k ≡ Some c → side c ≡ Some n → slice_get (filter_map side cs) (place side cs k) ≡ Some n
at_its_place side [] k c n h e = cc
at_its_place side (d ∷ cs) zero c n h e =
    let is : d ≡ c = cc in
    let here : side d ≡ Some n = ap side is ∙ e in
    rw here
at_its_place side (d ∷ cs) (suc k) c n h e = by_side (side d) (at_its_place side cs k c n h e)
  where
    by_side : (o : Option Column) → slice_get (filter_map side cs) (length (filter_map side (take k cs))) ≡ Some n → slice_get (cons_option o (filter_map side cs)) (length (cons_option o (filter_map side (take k cs)))) ≡ Some n
    by_side None more = more
    by_side (Some x) more = more

-- ---- cells

abbrev pub Side : Type 0
Side = DraftColumn → Option Column

abbrev pub Link : Type 0
Link = DraftColumn → Option Expr

abbrev pub cells : Side → Side → Link → ℕ → List DraftColumn → List Cell
cells own other link at [] = []
cells own other link at (c ∷ cs) = cons_option (option_map (cell_of (link c) (is_some (other c)) at) (own c)) (cells own other link (next_place (is_some (other c)) at) cs)

pub new_are : (at : ℕ) (cs : List DraftColumn) → new_cells at cs ≡ cells new_side old_side (λ c. c.after.up) at cs
new_are at [] = refl
new_are at (c ∷ cs) = ap (cons_option (option_map (cell_of c.after.up (is_some c.before) at) c.after.column)) (new_are (next_place (is_some c.before) at) cs)

pub old_are : (at : ℕ) (cs : List DraftColumn) → old_cells at cs ≡ cells old_side new_side (λ c. c.after.down) at cs
old_are at [] = refl
old_are at (c ∷ cs) = ap (cons_option (option_map (cell_of c.after.down (is_some c.after.column) at) c.before)) (old_are (next_place (is_some c.after.column) at) cs)

-- Both sides have the column: then it is carried both ways, with one type, or made both ways.
abbrev pub Twin : Option Column → Option Column → Option Expr → Option Expr → Type 0
Twin (Some x) (Some y) None None = x.ty ≡ y.ty
Twin (Some x) (Some y) (Some u) (Some v) = Unit {0}
Twin (Some x) (Some y) None (Some v) = ⊥
Twin (Some x) (Some y) (Some u) None = ⊥
Twin (Some x) None u v = Unit {0}
Twin None p u v = Unit {0}

-- ---- nothing is carried from a place before the first one

module _ (A : ℕ → List Cell) (before : (at i p : ℕ) → nat_lt p at ≡ true → carries (A at) i p ≡ false) where
  pub step_before : (o p : Option Column) (u : Option Expr) (at i q : ℕ) → nat_lt q at ≡ true → carries (cons_option (option_map (cell_of u (is_some p) at) o) (A (next_place (is_some p) at))) i q ≡ false
  step_before None None u at i q h = before at i q h
  step_before None (Some y) u at i q h = before (at + 1) i q (grind (arith, nat_tests))
  step_before (Some x) None None at zero q h = refl
  step_before (Some x) None (Some e) at zero q h = refl
  step_before (Some x) (Some y) None at zero q h = grind (arith, nat_tests)
  step_before (Some x) (Some y) (Some e) at zero q h = refl
  step_before (Some x) None u at (suc i) q h = before at i q h
  step_before (Some x) (Some y) u at (suc i) q h = before (at + 1) i q (grind (arith, nat_tests))

none_before : (own other : Side) (link : Link) (cs : List DraftColumn) (at i p : ℕ) → nat_lt p at ≡ true → carries (cells own other link at cs) i p ≡ false
none_before own other link [] at i p h = refl
none_before own other link (c ∷ cs) at i p h = step_before (λ at. cells own other link at cs) (none_before own other link cs) (own c) (other c) (link c) at i p h

-- ---- a column carries another exactly where that one carries it

module _ (A B : ℕ → List Cell) (none_a : (at i p : ℕ) → nat_lt p at ≡ true → carries (A at) i p ≡ false) (none_b : (at i p : ℕ) → nat_lt p at ≡ true → carries (B at) i p ≡ false) (more : (a b i j : ℕ) → carries (A a) i (a + j) ≡ carries (B b) j (b + i)) where
  a_next : (a b i j : ℕ) → carries (A (a + 1)) i (a + suc j) ≡ carries (B b) j (b + i)
  a_next a b i j = subst (λ n. carries (A (a + 1)) i n ≡ carries (B b) j (b + i)) (omega arith) (more (a + 1) b i j)

  b_next : (a b i j : ℕ) → carries (A a) i (a + j) ≡ carries (B (b + 1)) j (b + suc i)
  b_next a b i j = subst (λ n. carries (A a) i (a + j) ≡ carries (B (b + 1)) j n) (omega arith) (more a (b + 1) i j)

  both_next : (a b i j : ℕ) → carries (A (a + 1)) i (a + suc j) ≡ carries (B (b + 1)) j (b + suc i)
  both_next a b i j = subst (λ n. carries (A (a + 1)) i n ≡ carries (B (b + 1)) j (b + suc i)) (omega arith) (b_next (a + 1) b i j)

  a_none : (a i : ℕ) → carries (A (a + 1)) i (a + 0) ≡ false
  a_none a i = none_a (a + 1) i (a + 0) (grind (arith, nat_tests))

  b_none : (b j : ℕ) → carries (B (b + 1)) j (b + 0) ≡ false
  b_none b j = none_b (b + 1) j (b + 0) (grind (arith, nat_tests))

  same_test : (a b : ℕ) → (a == a + 0) ≡ (b == b + 0)
  same_test a b = grind (arith, nat_tests)

  not_at : (a j : ℕ) → (a == a + suc j) ≡ false
  not_at a j = grind (arith, nat_tests)

  pub step_both : (o p : Option Column) (u v : Option Expr) → Twin o p u v → (a b i j : ℕ) → carries (cons_option (option_map (cell_of u (is_some p) a) o) (A (next_place (is_some p) a))) i (a + j) ≡ carries (cons_option (option_map (cell_of v (is_some o) b) p) (B (next_place (is_some o) b))) j (b + i)
  step_both None None u v t a b i j = more a b i j
  step_both (Some x) None None v t a b zero j = sym (b_none b j)
  step_both (Some x) None (Some e) v t a b zero j = sym (b_none b j)
  step_both (Some x) None u v t a b (suc i) j = b_next a b i j
  step_both None (Some y) u None t a b i zero = a_none a i
  step_both None (Some y) u (Some e) t a b i zero = a_none a i
  step_both None (Some y) u v t a b i (suc j) = a_next a b i j
  step_both (Some x) (Some y) None None t a b zero zero = same_test a b
  step_both (Some x) (Some y) None None t a b zero (suc j) = not_at a j ∙ sym (b_none b j)
  step_both (Some x) (Some y) None None t a b (suc i) zero = a_none a i ∙ sym (not_at b i)
  step_both (Some x) (Some y) None None t a b (suc i) (suc j) = both_next a b i j
  step_both (Some x) (Some y) (Some u) (Some v) t a b zero zero = refl
  step_both (Some x) (Some y) (Some u) (Some v) t a b zero (suc j) = sym (b_none b j)
  step_both (Some x) (Some y) (Some u) (Some v) t a b (suc i) zero = a_none a i
  step_both (Some x) (Some y) (Some u) (Some v) t a b (suc i) (suc j) = both_next a b i j
  step_both (Some x) (Some y) None (Some v) t a b i j = absurd t
  step_both (Some x) (Some y) (Some u) None t a b i j = absurd t

both_ways_from : (own other : Side) (link back : Link) (cs : List DraftColumn) → Each (λ c. Twin (own c) (other c) (link c) (back c)) cs → (a b i j : ℕ) → carries (cells own other link a cs) i (a + j) ≡ carries (cells other own back b cs) j (b + i)
both_ways_from own other link back [] t a b i j = refl
both_ways_from own other link back (c ∷ cs) t a b i j =
    step_both (λ at. cells own other link at cs) (λ at. cells other own back at cs) (none_before own other link cs) (none_before other own back cs) (both_ways_from own other link back cs t.1) (own c) (other c) (link c) (back c) t.0 a b i j

pub both_ways : (own other : Side) (link back : Link) (cs : List DraftColumn) → Each (λ c. Twin (own c) (other c) (link c) (back c)) cs → (i j : ℕ) → carries (cells own other link 0 cs) i j ≡ carries (cells other own back 0 cs) j i
both_ways own other link back cs t i j =
    subst (λ n. carries (cells own other link 0 cs) i n ≡ carries (cells other own back 0 cs) j i) (zero-add j) (subst (λ n. carries (cells own other link 0 cs) i (0 + j) ≡ carries (cells other own back 0 cs) j n) (zero-add i) (both_ways_from own other link back cs t 0 0 i j))

-- ---- a column that is carried

carried_here : (u : Option Expr) (o p : Option Column) (a : ℕ) (rest : List Cell) → is_some o ≡ true → is_some p ≡ true → u ≡ None → carries (cons_option (option_map (cell_of u (is_some p) a) o) rest) 0 (a + 0) ≡ true
carried_here (Some e) o p a rest ho hp hu = cc
carried_here None None p a rest ho hp hu = cc
carried_here None (Some x) None a rest ho hp hu = cc
carried_here None (Some x) (Some y) a rest ho hp hu = grind (arith, nat_tests)

carried_behind : (A : ℕ → List Cell) (o p : Option Column) (u : Option Expr) (a : ℕ) (ys zs : List Column) → ((b : ℕ) → carries (A b) (length ys) (b + length zs) ≡ true) → carries (cons_option (option_map (cell_of u (is_some p) a) o) (A (next_place (is_some p) a))) (length (cons_option o ys)) (a + length (cons_option p zs)) ≡ true
carried_behind A None None u a ys zs h = h a
carried_behind A (Some x) None u a ys zs h = h a
carried_behind A None (Some y) u a ys zs h = subst (λ n. carries (A (a + 1)) (length ys) n ≡ true) (omega arith) (h (a + 1))
carried_behind A (Some x) (Some y) u a ys zs h = subst (λ n. carries (A (a + 1)) (length ys) n ≡ true) (omega arith) (h (a + 1))

carries_from : (own other : Side) (link : Link) (cs : List DraftColumn) (k : ℕ) (c : DraftColumn) → slice_get cs k ≡ Some c → is_some (own c) ≡ true → is_some (other c) ≡ true → link c ≡ None → (a : ℕ) → carries (cells own other link a cs) (place own cs k) (a + place other cs k) ≡ true
carries_from own other link [] k c h ho hp hu a = cc
carries_from own other link (d ∷ cs) zero c h ho hp hu a =
    let is : d ≡ c = cc in
    carried_here (link d) (own d) (other d) a _ (ap (λ e. is_some (own e)) is ∙ ho) (ap (λ e. is_some (other e)) is ∙ hp) (ap link is ∙ hu)
carries_from own other link (d ∷ cs) (suc k) c h ho hp hu a =
    carried_behind (λ at. cells own other link at cs) (own d) (other d) (link d) a (filter_map own (take k cs)) (filter_map other (take k cs)) (carries_from own other link cs k c h ho hp hu)

pub carries_at : (own other : Side) (link : Link) (cs : List DraftColumn) (k : ℕ) (c : DraftColumn) → slice_get cs k ≡ Some c → is_some (own c) ≡ true → is_some (other c) ≡ true → link c ≡ None → carries (cells own other link 0 cs) (place own cs k) (place other cs k) ≡ true
carries_at own other link cs k c h ho hp hu = subst (λ n. carries (cells own other link 0 cs) (place own cs k) n ≡ true) (zero-add (place other cs k)) (carries_from own other link cs k c h ho hp hu 0)

-- ---- cells fit their columns

abbrev pub fits_default : Option Column → Bool
fits_default None = true
fits_default (Some c) = has_type (Some c.ty) c.default

-- Where a cell carries, the types are one.
abbrev pub Carried : Option Column → Option Column → Option Expr → Type 0
Carried (Some x) (Some y) None = x.ty ≡ y.ty
Carried (Some x) (Some y) (Some u) = Unit {0}
Carried (Some x) None u = Unit {0}
Carried None p u = Unit {0}

get_behind : (pre : List Column) (y : Column) (rest : List Column) → slice_get (pre ++ y ∷ rest) (length pre) ≡ Some y
get_behind [] y rest = refl
get_behind (x ∷ pre) y rest = get_behind pre y rest

cell_here : (pre rest : List Column) (x : Column) (p : Option Column) (u : Option Expr) → fits_default (Some x) ≡ true → Carried (Some x) p u → cell_fits (pre ++ cons_option p rest) x (cell_of u (is_some p) (length pre) x) ≡ true
cell_here pre rest x p (Some e) d t = refl
cell_here pre rest x None None d t = d
cell_here pre rest x (Some y) None d t = ap (is_of_type x.ty) (get_behind pre y rest) ∙ subst (λ ty. same x.ty ty ≡ true) t (same_refl x.ty)

fit_step : (pre rest own : List Column) (A : ℕ → List Cell) (o p : Option Column) (u : Option Expr) → fits_default o ≡ true → Carried o p u → cells_fit (pre ++ cons_option p rest) own (A (next_place (is_some p) (length pre))) ≡ true → cells_fit (pre ++ cons_option p rest) (cons_option o own) (cons_option (option_map (cell_of u (is_some p) (length pre)) o) (A (next_place (is_some p) (length pre)))) ≡ true
fit_step pre rest own A None p u d t h = h
fit_step pre rest own A (Some x) p u d t h = all_true (cell_fits (pre ++ cons_option p rest) x (cell_of u (is_some p) (length pre) x)) (cells_fit (pre ++ cons_option p rest) own (A (next_place (is_some p) (length pre)))) (cell_here pre rest x p u d t) h

fit_rest : (pre rest own : List Column) (A : ℕ → List Cell) (p : Option Column) → ((pre : List Column) → cells_fit (pre ++ rest) own (A (length pre)) ≡ true) → cells_fit (pre ++ cons_option p rest) own (A (next_place (is_some p) (length pre))) ≡ true
fit_rest pre rest own A None h = h pre
fit_rest pre rest own A (Some y) h =
    let longer : length (pre ++ y ∷ []) ≡ length pre + 1 = length-append pre (y ∷ []) in
    subst (λ xs. cells_fit xs own (A (length pre + 1)) ≡ true) (append_assoc pre (y ∷ []) rest) (subst (λ n. cells_fit ((pre ++ y ∷ []) ++ rest) own (A n) ≡ true) longer (h (pre ++ y ∷ [])))

abbrev pub FitsOne : Side → Side → Link → DraftColumn → Type 0
FitsOne own other link c = (fits_default (own c) ≡ true) × Carried (own c) (other c) (link c)

fit_from : (own other : Side) (link : Link) (cs : List DraftColumn) → Each (FitsOne own other link) cs → (pre : List Column) → cells_fit (pre ++ filter_map other cs) (filter_map own cs) (cells own other link (length pre) cs) ≡ true
fit_from own other link [] t pre = refl
fit_from own other link (c ∷ cs) t pre =
    fit_step pre (filter_map other cs) (filter_map own cs) (λ at. cells own other link at cs) (own c) (other c) (link c) t.0.0 t.0.1 (fit_rest pre (filter_map other cs) (filter_map own cs) (λ at. cells own other link at cs) (other c) (fit_from own other link cs t.1))

pub cells_are_fit : (own other : Side) (link : Link) (cs : List DraftColumn) → Each (FitsOne own other link) cs → cells_fit (filter_map other cs) (filter_map own cs) (cells own other link 0 cs) ≡ true
cells_are_fit own other link cs t = fit_from own other link cs t []

-- ---- cells have their columns' types

abbrev pub TypesOne : Shape → Option Column → Option Expr → Type 0
TypesOne over (Some x) (Some e) = types_as x.ty (type_of over e) ≡ true
TypesOne over (Some x) None = Unit {0}
TypesOne over None u = Unit {0}

cell_type : (over : Shape) (x : Column) (u : Option Expr) (b : Bool) (at : ℕ) → TypesOne over (Some x) u → cell_types over x (cell_of u b at x) ≡ true
cell_type over x (Some e) b at t = t
cell_type over x None true at t = refl
cell_type over x None false at t = refl

type_step : (over : Shape) (own : List Column) (rest : List Cell) (o : Option Column) (u : Option Expr) (b : Bool) (at : ℕ) → TypesOne over o u → cells_type over own rest ≡ true → cells_type over (cons_option o own) (cons_option (option_map (cell_of u b at) o) rest) ≡ true
type_step over own rest None u b at t h = h
type_step over own rest (Some x) u b at t h = all_true (cell_types over x (cell_of u b at x)) (cells_type over own rest) (cell_type over x u b at t) h

pub cells_are_typed : (over : Shape) (own other : Side) (link : Link) (cs : List DraftColumn) → Each (λ c. TypesOne over (own c) (link c)) cs → (at : ℕ) → cells_type over (filter_map own cs) (cells own other link at cs) ≡ true
cells_are_typed over own other link [] t at = refl
cells_are_typed over own other link (c ∷ cs) t at =
    type_step over (filter_map own cs) (cells own other link (next_place (is_some (other c)) at) cs) (own c) (link c) (is_some (other c)) at t.0 (cells_are_typed over own other link cs t.1 (next_place (is_some (other c)) at))
