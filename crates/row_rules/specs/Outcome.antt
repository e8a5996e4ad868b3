-- How a step that may be refused goes on, and how a call answers what a definition comes to.
use Rattle.std.specs.Prelude.{◌≡◌, Option, Some, None, Result, Ok, Err}
pub use Rattle.constraint.specs.Valid.{first_some}
use Rattle.row_rules.specs.declared.stops.Stop.{Stop}
use Rattle.row_rules.specs.declared.stops.Stop.TheVariants.{Because, NoMemory}

-- The value, where nothing is wrong.
abbrev pub without : {T E : Type 0} → Option E → T → Result T E
without None value = Ok value
without (Some fault) value = Err fault

-- What comes next, where nothing is wrong.
abbrev pub guarded : {T E : Type 0} → Option E → Result T E → Result T E
guarded None next = next
guarded (Some fault) next = Err fault

-- What a fault comes to as one of another kind.
abbrev pub map_fault : {T E F : Type 0} → (E → F) → Result T E → Result T F
map_fault of (Ok value) = Ok value
map_fault of (Err fault) = Err (of fault)

-- The call answers what is wanted, value or cause, and may answer want of memory in its place.
abbrev pub Answers : {T E : Type 0} → Result T E → Result T (Stop E) → Type 0
Answers wanted (Ok value) = wanted ≡ Ok value
Answers wanted (Err (Because cause)) = wanted ≡ Err cause
Answers wanted (Err NoMemory) = Unit {0}
