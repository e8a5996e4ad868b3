-- The definitions of rows and shapes, on small examples that were worked by hand.
use Rattle.std.proofs.Common.{◌≡◌, ℤ, pos, List, [], ◌∷◌, true, false, Some, None, Ok, Err, refl, arith}
use Rattle.std.specs.Prelude.{codes}
use Rattle.sql_base.specs.declared.values.Value.{Value}
use Rattle.sql_base.specs.declared.values.Value.TheVariants.{Null, Int, Text, Bool as Truth}
use Rattle.sql_base.specs.declared.values.Ty.TheVariants as ty
use Rattle.sql_base.specs.declared.shapes.Column.{Column}
use Rattle.sql_base.specs.declared.shapes.Unique.{Unique}
use Rattle.sql_base.specs.declared.shapes.Shape.{Shape}
use Rattle.sql_base.specs.declared.faults.EvalFault.TheVariants as fault
use Rattle.sql_base.specs.declared.faults.RowFault.TheVariants as row_fault
use Rattle.sql_eval.specs.Row as spec
use Rattle.sql_base.specs.Fit.{row_fits}
use Rattle.sql_eval.specs.Shape.{WellFormed, all_different}

abbrev id : Column
id = record { name = codes "id"; ty = ty.Bigint; nullable = false; default = Null }

abbrev age : Column
age = record { name = codes "age"; ty = ty.Bigint; nullable = true; default = Null }

abbrev name : Column
name = record { name = codes "name"; ty = ty.Text; nullable = false; default = Text [] }

abbrev same_age : Unique
same_age = record { name = codes "people_age_key"; columns = 1 ∷ [] }

abbrev people : Shape
people = record { columns = id ∷ age ∷ name ∷ []; key = 0; checks = []; uniques = same_age ∷ [] }

abbrev row : Value → Value → List Value
row a b = Int (pos 1) ∷ a ∷ b ∷ []

well_formed : WellFormed people
well_formed = record { few = omega arith; different = refl; key = refl; uniques = refl; defaults = refl; checks = refl }

a_name_twice : all_different (codes "id" ∷ codes "age" ∷ codes "id" ∷ []) ≡ false
a_name_twice = refl

fits : row_fits people (row Null (Text (codes "ann"))) ≡ true
fits = refl

too_short : row_fits people (Int (pos 1) ∷ Null ∷ []) ≡ false
too_short = refl

no_key : row_fits people (Null ∷ Null ∷ Null ∷ []) ≡ false
no_key = refl

-- NOT NULL, by column order
no_name : spec.row_fault people (row Null Null) ≡ Some (row_fault.Null 2)
no_name = refl

no_fault : spec.row_fault people (row Null (Text [])) ≡ None
no_fault = refl

-- a check is met where it is true or NULL
all_met : spec.check_fault 0 (Ok Null ∷ Ok (Truth true) ∷ []) ≡ None
all_met = refl

second_is_false : spec.check_fault 0 (Ok Null ∷ Ok (Truth false) ∷ Err fault.DivZero ∷ []) ≡ Some (row_fault.Check 1)
second_is_false = refl

second_faults : spec.check_fault 0 (Ok (Truth true) ∷ Err fault.DivZero ∷ Ok (Truth false) ∷ []) ≡ Some (row_fault.Eval 1 fault.DivZero)
second_faults = refl

abbrev rows : List (ℤ × List Value)
rows = (pos 9, row (Int (pos 30)) Null) ∷ (pos 4, row (Int (pos 30)) Null) ∷ (pos 2, row Null Null) ∷ (pos 1, row Null Null) ∷ []

least_of_two : spec.clash same_age ((pos 7, row (Int (pos 30)) Null) ∷ rows) (pos 7) ≡ Some (pos 4)
least_of_two = refl

not_itself : spec.clash same_age rows (pos 4) ≡ Some (pos 9)
not_itself = refl

nulls_differ : spec.clash same_age rows (pos 2) ≡ None
nulls_differ = refl
