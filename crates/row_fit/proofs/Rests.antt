-- What stands behind places, one after another, and whether that is nothing.
use Rattle.std.proofs.Common.{◌≡◌, List, [], ◌∷◌, ◌++◌, Bool, true, false, ◌&&◌, Option, Some, None, if◌then◌else◌, refl}
use Rattle.std.specs.Option.{option_and_then}
use Rattle.sql_base.specs.declared.values.Value.{Value}
use Rattle.sql_base.specs.Fit.{has_type}
use Rattle.mig_lens.specs.Layout.{StoredPlace}
use Rattle.phase_steps.specs.Rows.{fits_places}
use Rattle.row_fit.specs.Rest.{is_all, rest_of, rest_of_one}

joined_at : (front behind all : List StoredPlace) (rest : Option (List Value))
    → ((values : List Value) → rest_of all values ≡ option_and_then (rest_of behind) (rest_of front values))
    → option_and_then (rest_of all) rest ≡ option_and_then (rest_of behind) (option_and_then (rest_of front) rest)
joined_at front behind all None same = refl
joined_at front behind all (Some rest) same = same rest

-- The rest of some places and others is the rest of the others, in the rest of the first ones.
pub rest_joined : (front behind : List StoredPlace) (values : List Value)
    → rest_of (front ++ behind) values ≡ option_and_then (rest_of behind) (rest_of front values)
rest_joined [] behind values = refl
rest_joined (place ∷ front) behind values =
    joined_at front behind (front ++ behind) (rest_of_one place.1 values) (rest_joined front behind)

all_typed : (places : List StoredPlace) (values : List Value) (typed : Bool)
    → fits_places places values ≡ is_all (rest_of places values)
    → (typed && fits_places places values)
    ≡ is_all (option_and_then (rest_of places) (if typed then Some values else None))
all_typed places values true same = same
all_typed places values false same = refl

-- Values fit places where nothing is left behind them.
pub all_places : (places : List StoredPlace) (values : List Value)
    → fits_places places values ≡ is_all (rest_of places values)
all_places [] [] = refl
all_places [] (value ∷ values) = refl
all_places (place ∷ places) [] = refl
all_places (place ∷ places) (value ∷ values) =
    all_typed places values (has_type (Some place.1) value) (all_places places values)
