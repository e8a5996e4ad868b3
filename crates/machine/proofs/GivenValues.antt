-- Values that an INSERT and an UPDATE give are of their columns' types.
use Rattle.std.proofs.Common.{◌≡◌, ◌∙◌, zero-add, add-zero, ℕ, zero, suc, ◌+◌, List, [], ◌∷◌, Bool, true, false, ◌==◌, Option, Some, None, Ok, Err, ap, refl, sym, subst, arith, if◌then◌else◌, cond, map, unwrap_or, slice_get, slice_index_or}
use Rattle.std.specs.List.{AllByRecursion as Each, enumerate_from}
use Rattle.std.specs.Map.{lookup}
use Rattle.std.proofs.lemmas.Bool.Decides.{nat_tests}
use Rattle.sql_base.specs.Fit.{fits_columns, has_type}
use Rattle.sql_base.specs.Laws.{all_true, both, ok_same, some_same}
use Rattle.sql_base.specs.declared.exprs.Expr.{Expr}
use Rattle.sql_base.specs.declared.shapes.Column.{Column}
use Rattle.sql_base.specs.declared.shapes.Shape.{Shape}
use Rattle.sql_base.specs.declared.values.Ty.{Ty}
use Rattle.sql_base.specs.declared.values.Ty.TheVariants.{Bigint, Text, Boolean}
use Rattle.sql_base.specs.declared.values.Value.{Value}
use Rattle.sql_base.specs.declared.values.Value.TheVariants as value
use Rattle.sql_base.specs.declared.values.Value.TheVariants.{Null}
use Rattle.sql_eval.specs.Eval.{eval}
use Rattle.sql_eval.specs.Laws.{Sound, TypedIsSound}
use Rattle.sql_eval.specs.Typing.{Typed, fits as type_fits, same, type_of}
use Rattle.sql_eval.specs.Value.{Outcome}
use Rattle.row_rules.specs.Causes.{bare_error, untyped}
use Rattle.row_rules.specs.Changes.{value_given}
use Rattle.row_rules.specs.Settle.{mistyped, value_error}
use Rattle.sql_base.specs.declared.codes.Code.TheVariants.{C42804}
use Rattle.machine.specs.Words.{SqlError}

-- ---- an expression that is typed for a column

pub same_is : (a b : Ty) → same a b ≡ true → a ≡ b
same_is Bigint Bigint h = refl
same_is Bigint Text h = cc
same_is Bigint Boolean h = cc
same_is Text Bigint h = cc
same_is Text Text h = refl
same_is Text Boolean h = cc
same_is Boolean Bigint h = cc
same_is Boolean Text h = cc
same_is Boolean Boolean h = refl

of_no_type : (a : Ty) (v : Value) → has_type None v ≡ true → has_type (Some a) v ≡ true
of_no_type a Null h = refl
of_no_type a (value.Int n) h = cc
of_no_type a (value.Text t) h = cc
of_no_type a (value.Bool b) h = cc

of_fitting_type : (a : Ty) (found : Option Ty) (v : Value) → type_fits a found ≡ true → has_type found v ≡ true → has_type (Some a) v ≡ true
of_fitting_type a None v f h = of_no_type a v h
of_fitting_type a (Some b) v f h = subst (λ t. has_type (Some t) v ≡ true) (sym (same_is a b f)) h

-- Why an expression of this type doesn't stand for a value of a column.
abbrev mistype_of : Ty → Typed → Option SqlError
mistype_of ty typed = elim typed [ Ok found ↦ if type_fits ty found then None else Some (bare_error C42804) | Err fault ↦ Some (untyped fault) ]

typed_value : (ty : Ty) (typed : Typed) (r : Outcome) (v : Value) → Sound typed r → mistype_of ty typed ≡ None → r ≡ Ok v → has_type (Some ty) v ≡ true
typed_value ty (Err fault) r v s h e = cc
typed_value ty (Ok found) (Err fault) v s h e = cc
typed_value ty (Ok found) (Ok x) v s h e = by_test (type_fits ty found) refl h
  where
    by_test : (b : Bool) → type_fits ty found ≡ b → ◌≡◌ {A = Option SqlError} (if b then None else Some (bare_error C42804)) None → has_type (Some ty) v ≡ true
    by_test true f h = subst (λ y. has_type (Some ty) y ≡ true) (ok_same x v e) (of_fitting_type ty found x f s)
    by_test false f h = cc

-- The value is of the column's type, where there is the column.
abbrev pub Suits : Option Column → Value → Type 0
Suits None v = Unit {0}
Suits (Some column) v = has_type (Some column.ty) v ≡ true

pub evaluated_suits : TypedIsSound → (over shape : Shape) (row : List Value) (place : ℕ × Expr) (v : Value) → fits_columns over.columns row ≡ true → value_error over shape place ≡ None → eval over row place.1 ≡ Ok v → Suits (slice_get shape.columns place.0) v
evaluated_suits typed over shape row place v fit h e = by_column (slice_get shape.columns place.0) h
  where
    by_column : (o : Option Column) → ◌≡◌ {A = Option SqlError} (elim o [ None ↦ None | Some column ↦ mistyped over column.ty place.1 ]) None → Suits o v
    by_column None h = tt
    by_column (Some column) h = typed_value column.ty (type_of over place.1) (eval over row place.1) v (typed over row place.1 fit) h e

-- ---- values by their places

abbrev pub Given : Type 0
Given = List (ℕ × Value)

-- Each value is of the type of the column of its place.
abbrev pub AllSuit : List Column → Given → Type 0
AllSuit columns given = Each (λ at. Suits (slice_get columns at.0) at.1) given

lookup_each : (P : ℕ → Value → Type 0) (n : ℕ) (given : Given) (v : Value) → Each (λ at. P at.0 at.1) given → lookup (λ at. at == n) given ≡ Some v → P n v
lookup_each P n [] v h e = cc
lookup_each P n (one ∷ given) v h e = by_test (one.0 == n) refl (lookup_each P n given v h.1) e
  where
    by_test : (b : Bool) → (one.0 == n) ≡ b → (lookup (λ at. at == n) given ≡ Some v → P n v) → cond b (Some one.1) (lookup (λ at. at == n) given) ≡ Some v → P n v
    by_test true is rest e =
        let same_place : one.0 ≡ n = grind (arith, nat_tests) in
        subst (λ k. P k v) same_place (subst (P one.0) (some_same one.1 v e) h.0)
    by_test false is rest e = rest e

pub lookup_none : (n : ℕ) (given : Given) → Each (λ at. (at.0 == n) ≡ false) given → lookup (λ at. at == n) given ≡ None
lookup_none n [] h = refl
lookup_none n (one ∷ given) h = ap (λ b. cond b (Some one.1) (lookup (λ at. at == n) given)) h.0 ∙ lookup_none n given h.1

-- what is given for the columns from this place on
abbrev pub SuitFrom : ℕ → List Column → Given → Type 0
SuitFrom at columns given = (k : ℕ) (c : Column) (v : Value) → slice_get columns k ≡ Some c → lookup (λ place. place == at + k) given ≡ Some v → has_type (Some c.ty) v ≡ true

pub suit_from : (columns : List Column) (given : Given) → AllSuit columns given → SuitFrom 0 columns given
suit_from columns given h k c v e l =
    let here = lookup_each (λ n v. Suits (slice_get columns n) v) (0 + k) given v h l in
    let at : slice_get columns (0 + k) ≡ Some c = ap (slice_get columns) (zero-add k) ∙ e in
    subst (λ o. Suits o v) at here

pub rest_suits : (at : ℕ) (c : Column) (columns : List Column) (given : Given) → SuitFrom at (c ∷ columns) given → SuitFrom (at + 1) columns given
rest_suits at c columns given h k d v e l =
    let same_place : at + suc k ≡ (at + 1) + k = omega arith in
    h (suc k) d v e (ap (λ n. lookup (λ place. place == n) given) same_place ∙ l)

-- The value that is given for a place, or else another one.
pub or_else : (ty : Ty) (o : Option Value) (v : Value) → ((x : Value) → o ≡ Some x → has_type (Some ty) x ≡ true) → has_type (Some ty) v ≡ true → has_type (Some ty) (unwrap_or o v) ≡ true
or_else ty None v h k = k
or_else ty (Some x) v h k = h x refl

pub first_suits : (at : ℕ) (c : Column) (columns : List Column) (given : Given) (x : Value) → SuitFrom at (c ∷ columns) given → lookup (λ place. place == at) given ≡ Some x → has_type (Some c.ty) x ≡ true
first_suits at c columns given x h l = h 0 c x refl (ap (λ n. lookup (λ place. place == n) given) (add-zero at) ∙ l)

-- ---- UPDATE

-- A row that fits its columns does so with values of their types in some places.
pub given_fits : (given : Given) (at : ℕ) (columns : List Column) (row : List Value) → SuitFrom at columns given → fits_columns columns row ≡ true → fits_columns columns (map (value_given given) (enumerate_from at row)) ≡ true
given_fits given at [] [] s h = refl
given_fits given at [] (v ∷ row) s h = cc
given_fits given at (c ∷ columns) [] s h = cc
given_fits given at (c ∷ columns) (v ∷ row) s h =
    let parts = both (has_type (Some c.ty) v) (fits_columns columns row) h in
    all_true (has_type (Some c.ty) (value_given given (at, v))) (fits_columns columns (map (value_given given) (enumerate_from (at + 1) row)))
    (or_else c.ty (lookup (λ place. place == at) given) v (λ x l. first_suits at c columns given x s l) parts.0)
    (given_fits given (at + 1) columns row (rest_suits at c columns given s) parts.1)

-- A place for which nothing is given has the value that it had.
pub given_stays : (given : Given) (at k : ℕ) (row : List Value) → lookup (λ place. place == at + k) given ≡ None → slice_index_or (map (value_given given) (enumerate_from at row)) k Null ≡ slice_index_or row k Null
given_stays given at k [] l = refl
given_stays given at zero (v ∷ row) l = ap (λ o. unwrap_or o v) (ap (λ n. lookup (λ place. place == n) given) (sym (add-zero at)) ∙ l)
given_stays given at (suc k) (v ∷ row) l =
    let same_place : (at + 1) + k ≡ at + suc k = omega arith in
    given_stays given (at + 1) k row (ap (λ n. lookup (λ place. place == n) given) same_place ∙ l)
