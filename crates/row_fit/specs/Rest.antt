-- What stands behind some places of a stored row. All of it is our own.
use Rattle.std.specs.Prelude.{Bool, true, false, List, [], ◌∷◌, Option, Some, None, if◌then◌else◌}
use Rattle.std.specs.Option.{option_and_then}
use Rattle.sql_base.specs.declared.values.Ty.{Ty}
use Rattle.sql_base.specs.declared.values.Value.{Value}
use Rattle.sql_base.specs.Fit.{has_type}
use Rattle.mig_lens.specs.Layout.{StoredPlace}

-- The values behind the first one, if that is there and is NULL or of this type.
abbrev pub rest_of_one : Ty → List Value → Option (List Value)
rest_of_one ty [] = None
rest_of_one ty (value ∷ values) = if has_type (Some ty) value then Some values else None

-- Those behind the first values, if there is one for each of these places that is NULL or of its type.
abbrev pub rest_of : List StoredPlace → List Value → Option (List Value)
rest_of [] values = Some values
rest_of (place ∷ places) values = option_and_then (rest_of places) (rest_of_one place.1 values)

-- Whether there is such a rest, and nothing in it.
abbrev pub is_all : Option (List Value) → Bool
is_all None = false
is_all (Some []) = true
is_all (Some (value ∷ values)) = false
