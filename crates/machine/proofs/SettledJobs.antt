-- The jobs of statements whose names and types are settled.
use Rattle.std.proofs.Common.{◌≡◌, ℕ, zero, suc, ◌+◌, List, [], ◌∷◌, Bool, true, false, not, ◌==◌, Option, Some, None, Result, Ok, Err, refl, subst, if◌then◌else◌, map, length, zip, slice_get, slice_index_or}
use Rattle.std.specs.List.{AllByRecursion as Each, enumerate_from, list_all}
use Rattle.std.specs.Map.{lookup}
use Rattle.sql_base.specs.Fit.{fits_columns, has_type, is_integer, row_fits}
use Rattle.sql_base.specs.Laws.{all_true, and_then_ok, both, either_none, ok_same}
use Rattle.sql_base.specs.Outcome.{and_then, every}
use Rattle.sql_base.specs.declared.values.Ty.{Ty}
use Rattle.sql_base.specs.declared.values.Ty.TheVariants.{Bigint}
use Rattle.sql_base.specs.declared.values.Value.{Value}
use Rattle.sql_base.specs.declared.values.Value.TheVariants as value
use Rattle.sql_base.specs.declared.values.Value.TheVariants.{Null}
use Rattle.sql_eval.specs.Eval.{eval}
use Rattle.sql_eval.specs.Laws.{TypedIsSound}
use Rattle.sql_eval.specs.Shape.{WellFormed, is_key}
use Rattle.sql_eval.specs.Typing.{same}
use Rattle.sql_eval.specs.Value.{is_null}
use Rattle.sql_base.specs.declared.codes.Code.TheVariants.{C0A000, C23502}
use Rattle.row_rules.specs.Causes.{named_error, no_value, not_null_name, syntax}
use Rattle.row_rules.specs.Outcome.{first_some, guarded, without}
use Rattle.row_rules.specs.Settle.{condition_error, delete_job, insert_job, named_once, no_columns, null_key, places_listed, row_completed, row_evaluated, row_of_values_error, rows_inserted, rows_valued, set_settled, sets_settled, update_job, value_error, value_or_default}
use Rattle.row_rules.specs.Site.{shape_of}
use Rattle.machine.specs.Sites.{JobStands, SetStands}
use Rattle.machine.specs.Words.{Column, Expr, Job, Shape, SqlError, Table}
use Rattle.machine.specs.Words.job
use Rattle.row_rules.specs.Made.{every_made}
use Rattle.machine.proofs.Accepting.{every_each, guarded_ok, if_none, map_fault_ok, without_ok}
use Rattle.machine.proofs.GivenValues.{AllSuit, SuitFrom, evaluated_suits, first_suits, or_else, rest_suits, same_is, suit_from}
use Rattle.machine.proofs.Moving.{each_both, each_so, map_each}

-- Where there is no first one there is none.
pub none_first : {A B : Type 0} (of : A → Option B) (xs : List A) → first_some of xs ≡ None → Each (λ x. of x ≡ None) xs
none_first of [] h = tt
none_first of (x ∷ xs) h = let parts = either_none (of x) (first_some of xs) h in (parts.0, none_first of xs parts.1)

-- ---- UPDATE

-- The assignment to the column of this place, by whether it is the key.
abbrev set_at : Shape → ℕ × (List ℕ × Expr) → ℕ → Bool → Result (ℕ × Expr) SqlError
set_at shape given place is_key = if is_key then Err (named_error C0A000 given.1.0) else without (value_error shape shape (place, given.1.1)) (place, given.1.1)

set_stands : (shape : Shape) (names : List (List ℕ)) (given : ℕ × (List ℕ × Expr)) (set : ℕ × Expr) → set_settled shape names given ≡ Ok set → SetStands shape set
set_stands shape names given set h =
    let step = and_then_ok (named_once shape names (given.0, given.1.0)) (λ place. set_at shape given place (place == shape.key)) set h in
    by_key step.0 (step.0 == shape.key) refl step.2
  where
    by_key : (place : ℕ) (b : Bool) → (place == shape.key) ≡ b → set_at shape given place b ≡ Ok set → SetStands shape set
    by_key place true is h = cc
    by_key place false is h =
        let done = without_ok (value_error shape shape (place, given.1.1)) (place, given.1.1) set h in
        subst (SetStands shape) done.1 (is, done.0)

pub update_stands : (shape : Shape) (sets : List (List ℕ × Expr)) (condition : Option Expr) (done : Job) → update_job shape sets condition ≡ Ok done → JobStands shape done
update_stands shape sets condition done h =
    let step = and_then_ok (sets_settled shape sets) (λ sets. without (condition_error shape condition) (job.Alter sets condition)) done h in
    let looked = without_ok (condition_error shape condition) (job.Alter step.0 condition) done step.2 in
    let all = every_each (set_settled shape (map (λ set. set.0) sets)) (SetStands shape) (set_stands shape (map (λ set. set.0) sets)) (enumerate_from 0 sets) step.0 step.1 in
    subst (JobStands shape) looked.1 all

-- ---- DELETE

pub delete_stands : (shape : Shape) (condition : Option Expr) (done : Job) → delete_job shape condition ≡ Ok done → JobStands shape done
delete_stands shape condition done h = subst (JobStands shape) (without_ok (condition_error shape condition) (job.Remove condition) done h).1 tt

-- ---- INSERT

-- The values that are given for listed columns are of their types.
zip_suits : TypedIsSound → (shape : Shape) (places : List ℕ) (row : List Expr) (values : List Value) → every (map (eval no_columns []) row) ≡ Ok values → Each (λ at. value_error no_columns shape at ≡ None) (zip places row) → AllSuit shape.columns (zip places values)
zip_suits typed shape [] row values e h = tt
zip_suits typed shape (place ∷ places) [] [] e h = tt
zip_suits typed shape (place ∷ places) [] (v ∷ values) e h = cc
zip_suits typed shape (place ∷ places) (one ∷ row) values e h =
    let first = and_then_ok (eval no_columns [] one) (λ x. and_then (every (map (eval no_columns []) row)) (λ xs. Ok (x ∷ xs))) values e in
    let rest = and_then_ok (every (map (eval no_columns []) row)) (λ xs. Ok (first.0 ∷ xs)) values first.2 in
    subst (λ vs. AllSuit shape.columns (zip (place ∷ places) vs)) (ok_same (first.0 ∷ rest.0) values rest.2)
    (evaluated_suits typed no_columns shape [] (place, one) first.0 refl h.0 first.1, zip_suits typed shape places row rest.0 rest.1 h.1)

row_suits : TypedIsSound → (shape : Shape) (places : List ℕ) (row : List Expr) (values : List Value) → row_of_values_error shape places row ≡ None → row_evaluated row ≡ Ok values → AllSuit shape.columns (zip places values)
row_suits typed shape places row values h e = by_length (length places == length row) h
  where
    by_length : (b : Bool) → (if b then first_some (value_error no_columns shape) (zip places row) else Some syntax) ≡ None → AllSuit shape.columns (zip places values)
    by_length true h = zip_suits typed shape places row values (map_fault_ok no_value (every (map (eval no_columns []) row)) values e) (none_first (value_error no_columns shape) (zip places row) h)
    by_length false h = cc

-- Defaults stand where nothing is given.
completed_fits : (given : List (ℕ × Value)) (at : ℕ) (columns : List Column) → SuitFrom at columns given → list_all (λ c. has_type (Some c.ty) c.default) columns ≡ true → fits_columns columns (map (value_or_default given) (enumerate_from at columns)) ≡ true
completed_fits given at [] s h = refl
completed_fits given at (c ∷ columns) s h =
    let parts = both (has_type (Some c.ty) c.default) (list_all (λ c. has_type (Some c.ty) c.default) columns) h in
    all_true (has_type (Some c.ty) (value_or_default given (at, c))) (fits_columns columns (map (value_or_default given) (enumerate_from (at + 1) columns)))
    (or_else c.ty (lookup (λ place. place == at) given) c.default (λ x l. first_suits at c columns given x s l) parts.0)
    (completed_fits given (at + 1) columns (rest_suits at c columns given s) parts.1)

integer_of : (ty : Ty) (v : Value) → same ty Bigint ≡ true → has_type (Some ty) v ≡ true → is_null v ≡ false → is_integer v ≡ true
integer_of ty v s h n = of_bigint v (subst (λ t. has_type (Some t) v ≡ true) (same_is ty Bigint s) h) n
  where
    of_bigint : (v : Value) → has_type (Some Bigint) v ≡ true → is_null v ≡ false → is_integer v ≡ true
    of_bigint Null h n = cc
    of_bigint (value.Int n) h k = refl
    of_bigint (value.Text t) h n = cc
    of_bigint (value.Bool b) h n = cc

-- The key of a row that fits its columns is an integer, unless it is NULL.
key_integer : (columns : List Column) (row : List Value) (k : ℕ) → fits_columns columns row ≡ true → is_key (slice_get columns k) ≡ true → is_null (slice_index_or row k Null) ≡ false → is_integer (slice_index_or row k Null) ≡ true
key_integer [] row k h key n = cc
key_integer (c ∷ columns) [] k h key n = cc
key_integer (c ∷ columns) (v ∷ row) zero h key n = integer_of c.ty v (both (same c.ty Bigint) (not c.nullable) key).0 (both (has_type (Some c.ty) v) (fits_columns columns row) h).0 n
key_integer (c ∷ columns) (v ∷ row) (suc k) h key n = key_integer columns row k (both (has_type (Some c.ty) v) (fits_columns columns row) h).1 key n

keyed_fits : (table : Table) (row : List Value) → is_key (slice_get (shape_of table).columns (shape_of table).key) ≡ true → fits_columns (shape_of table).columns row ≡ true → null_key table row ≡ None → row_fits (shape_of table) row ≡ true
keyed_fits table row key fit h =
    let shape = shape_of table in
    all_true (fits_columns shape.columns row) (is_integer (slice_index_or row shape.key Null)) fit
    (key_integer shape.columns row shape.key fit key (if_none (is_null (slice_index_or row shape.key Null)) (named_error C23502 (not_null_name table shape.key)) h))

valued_fit : TypedIsSound → (table : Table) (places : List ℕ) (rows : List (List Expr)) (all : List (List Value)) → WellFormed (shape_of table) → Each (λ row. row_of_values_error (shape_of table) places row ≡ None) rows → rows_valued table places rows ≡ Ok all → Each (λ row. row_fits (shape_of table) row ≡ true) all
valued_fit typed table places rows all well h e =
    let shape = shape_of table in
    let step = and_then_ok (every (map row_evaluated rows)) (λ valued. without (first_some (null_key table) (map (row_completed shape places) valued)) (map (row_completed shape places) valued)) all e in
    let made = map (row_completed shape places) step.0 in
    let looked = without_ok (first_some (null_key table) made) made all step.2 in
    let suit = every_made row_evaluated (λ row. row_of_values_error shape places row ≡ None) (λ values. AllSuit shape.columns (zip places values)) (row_suits typed shape places) rows step.0 h step.1 in
    let fit = map_each (row_completed shape places) (λ row. fits_columns shape.columns row ≡ true) step.0 (each_so (λ values. AllSuit shape.columns (zip places values)) (λ values. fits_columns shape.columns (row_completed shape places values) ≡ true)
    (λ values suits. completed_fits (zip places values) 0 shape.columns (suit_from shape.columns (zip places values) suits) well.defaults) step.0 suit) in
    subst (Each (λ row. row_fits shape row ≡ true)) looked.1
    (each_both (λ row. fits_columns shape.columns row ≡ true) (λ row. null_key table row ≡ None) (λ row. row_fits shape row ≡ true) (λ row. keyed_fits table row well.key) made fit (none_first (null_key table) made looked.0))

pub insert_stands : TypedIsSound → (table : Table) (names : List (List ℕ)) (rows : List (List Expr)) (done : Job) → WellFormed (shape_of table) → insert_job table names rows ≡ Ok done → JobStands (shape_of table) done
insert_stands typed table names rows done well h =
    let shape = shape_of table in
    let step = and_then_ok (rows_inserted table names rows) (λ all. Ok (job.Put all)) done h in
    let listed = and_then_ok (places_listed shape names) (λ places. guarded (first_some (row_of_values_error shape places) rows) (rows_valued table places rows)) step.0 step.1 in
    let looked = guarded_ok (first_some (row_of_values_error shape listed.0) rows) (rows_valued table listed.0 rows) step.0 listed.2 in
    let fit = valued_fit typed table listed.0 rows step.0 well (none_first (row_of_values_error shape listed.0) rows looked.0) looked.1 in
    subst (JobStands shape) (ok_same (job.Put step.0) done step.2) fit
