-- Laws of truth values, of results and of rows that fit, which the proofs of each crate cite.
use Rattle.std.specs.Prelude.{◌≡◌, suc, Bool, true, false, ◌&&◌, List, [], ◌∷◌, length, slice_index_or, Option, Some, None, Result, Ok, Err, if◌then◌else◌, refl}
use Rattle.std.specs.Option.{option_or}
use Rattle.std.proofs.Common.{ap}
use Rattle.sql_base.specs.declared.shapes.Column.{Column}
use Rattle.sql_base.specs.declared.shapes.Shape.{Shape}
use Rattle.sql_base.specs.declared.values.Value.{Value}
use Rattle.sql_base.specs.declared.values.Value.TheVariants.{Null}
use Rattle.sql_base.specs.Fit.{fits_columns, has_type, is_integer, row_fits}
use Rattle.sql_base.specs.Outcome.{and_then}

-- ---- truth values

pub both : (a b : Bool) → (a && b) ≡ true → (a ≡ true) × (b ≡ true)
both true true h = (refl, refl)
both true false h = cc
both false b h = cc

pub all_true : (a b : Bool) → a ≡ true → b ≡ true → (a && b) ≡ true
all_true true b h k = k
all_true false b h k = h

pub and_false : (a : Bool) → (a && false) ≡ false
and_false true = refl
and_false false = refl

pub and_true : (a : Bool) → (a && true) ≡ a
and_true true = refl
and_true false = refl

-- ---- values that are there

pub some_same : {T : Type 0} (a b : T) → Some a ≡ Some b → a ≡ b
some_same a b h = cc

pub ok_same : {T E : Type 0} (a b : T) → ◌≡◌ {A = Result T E} (Ok a) (Ok b) → a ≡ b
ok_same a b h = cc

-- Where neither of two gives a value, both give none.
pub either_none : {T : Type 0} (a b : Option T) → option_or a b ≡ None → (a ≡ None) × (b ≡ None)
either_none None b h = (refl, h)
either_none (Some x) b h = cc

-- ---- what comes next

-- Where what comes next has a value, the first outcome has one.
pub and_then_ok : {T U E : Type 0} (r : Result T E) (next : T → Result U E) (y : U) → and_then r next ≡ Ok y → (x : T) × (r ≡ Ok x) × (next x ≡ Ok y)
and_then_ok (Ok x) next y h = (x, refl, h)
and_then_ok (Err e) next y h = cc

-- A fault, if it is one, is of this kind.
abbrev pub OnlyFaults : {T E : Type 0} → (E → Type 0) → Result T E → Type 0
OnlyFaults Kind (Ok x) = Unit {0}
OnlyFaults Kind (Err fault) = Kind fault

pub faults_then : {T U E : Type 0} (Kind : E → Type 0) (r : Result T E) (next : T → Result U E) → OnlyFaults Kind r → ((x : T) → OnlyFaults Kind (next x)) → OnlyFaults Kind (and_then r next)
faults_then Kind (Ok x) next h more = more x
faults_then Kind (Err fault) next h more = h

pub faults_either : {T E : Type 0} (Kind : E → Type 0) (test : Bool) (a b : Result T E) → OnlyFaults Kind a → OnlyFaults Kind b → OnlyFaults Kind (if test then a else b)
faults_either Kind true a b h k = h
faults_either Kind false a b h k = k

-- ---- rows that fit

pub columns_fit : (shape : Shape) (row : List Value) → row_fits shape row ≡ true → fits_columns shape.columns row ≡ true
columns_fit shape row f = (both (fits_columns shape.columns row) (is_integer (slice_index_or row shape.key Null)) f).0

pub columns_long : (columns : List Column) (row : List Value) → fits_columns columns row ≡ true → length row ≡ length columns
columns_long [] [] f = refl
columns_long [] (v ∷ vs) f = cc
columns_long (c ∷ cs) [] f = cc
columns_long (c ∷ cs) (v ∷ vs) f = ap suc (columns_long cs vs (both (has_type (Some c.ty) v) (fits_columns cs vs) f).1)

-- A row that fits a shape has a value for each column.
pub row_long : (shape : Shape) (row : List Value) → row_fits shape row ≡ true → length row ≡ length shape.columns
row_long shape row f = columns_long shape.columns row (columns_fit shape row f)
