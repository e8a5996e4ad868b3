-- The rows of a SELECT.
use Rattle.std.specs.Prelude.{ℕ, ◌-◌, List, [], ◌∷◌, ◌==◌, Option, Some, None, Result, Ok, Err, map, if◌then◌else◌}
use Rattle.row_rules.specs.Causes.{long_reply, row_error, value_cause}
use Rattle.row_rules.specs.Changes.{passes}
use Rattle.row_rules.specs.Outcome.{map_fault}
use Rattle.row_rules.specs.Site.{Site, shape_of, shown}
use Rattle.row_rules.specs.Words.{All, EvalFault, Expr, Items, Kept, Listed, Shape, SqlError, Value, and_then, eval, every}

-- What is asked for of one row, from left to right.
abbrev pub picked : Items → Shape → List Value → Result (List Value) EvalFault
picked All shape row = Ok row
picked (Listed items) shape row = every (map (eval shape row) items)

-- What a row comes to that passed, where so many rows may still be shown: a row too many isn't looked at.
abbrev pub row_asked : Site → Items → ℕ → Kept → Result (List Value) SqlError
row_asked site items room row =
    if room == 0 then Err long_reply
    else map_fault (λ fault. row_error (value_cause row.key fault)) (picked items (shape_of site.here) (shown site row.halves))

-- What one row comes to: nothing where it doesn't pass, else what is asked for of it.
abbrev pub row_shown : Site → Items → Option Expr → ℕ → Kept → Result (Option (List Value)) SqlError
row_shown site items condition room row =
    and_then (map_fault (λ fault. row_error (value_cause row.key fault)) (passes (shape_of site.here) condition (shown site row.halves)))
    (λ passed. if passed then and_then (row_asked site items room row) (λ values. Ok (Some values)) else Ok None)

-- How many rows may still be shown after this one.
abbrev pub room_after : ℕ → Option (List Value) → ℕ
room_after room None = room
room_after room (Some values) = room - 1

abbrev pub with_shown : Option (List Value) → List (List Value) → List (List Value)
with_shown None more = more
with_shown (Some values) more = values ∷ more

-- The rows that are shown, in their order: each row's WHERE and items before the next row's. Or the first fault.
abbrev pub rows_shown : Site → Items → Option Expr → ℕ → List Kept → Result (List (List Value)) SqlError
rows_shown site items condition room [] = Ok []
rows_shown site items condition room (row ∷ rows) =
    and_then (row_shown site items condition room row) (λ first.
    and_then (rows_shown site items condition (room_after room first) rows) (λ more. Ok (with_shown first more)))
