-- What is demanded of a migration's text, in order.
--
-- An object is looked at first for its kind and for members that it may not have, and then member by member, each with
-- all that it holds. Where a member stands twice the last one counts.
use Rattle.std.specs.Prelude.{ℕ, List, [], ◌∷◌, codes, Bool, nat_le, length, if◌then◌else◌, is_some, Option, Some, None, option_map, option_and_then}
use Rattle.std.specs.Str.{is_utf8}
use Rattle.serde_json.specs.Data.{Data, Members, no_members, member}
use Rattle.serde_json.specs.Read.{read}
use Rattle.serde_json.specs.Find.{get, as_str, as_array, as_object}
use Rattle.mig_json.specs.declared.members.Object.{Object}
use Rattle.mig_json.specs.declared.members.Object.TheVariants as which
use Rattle.mig_json.specs.declared.members.Operation.{Operation}
use Rattle.mig_json.specs.declared.faults.JsonFault.TheVariants.{TooLong, Json}
use Rattle.mig_json.specs.Demand.{Demand, test, inside}
use Rattle.mig_json.specs.Kind.{keys, needs, needed, within, items_of, item_demands, demands, object}
use Rattle.mig_json.specs.Member.{are_known}
use Rattle.mig_json.specs.Name.{is_name}
use Rattle.mig_json.specs.Table.{check, named, column, form, operation_of}

-- the members that each object may have
abbrev pub members : Object → List (List ℕ)
members which.Migration = codes "name" ∷ codes "operations" ∷ []
members which.Check = keys check
members which.Named = keys named
members which.Column = keys column
members (which.Of operation) = keys (form operation).fields

abbrev pub is_of : Object → Data → Bool
is_of it d = are_known (members it) (as_object d)

-- ---- operations

-- the one member of an object
abbrev pub only_in : Members → Option (List ℕ × Data)
only_in no_members = None
only_in (member key d no_members) = Some (key, d)
only_in (member key d (member k e ms)) = None

abbrev pub only_member : Data → Option (List ℕ × Data)
only_member d = option_and_then only_in (as_object d)

-- An operation, and the value that stands under its name.
pub record Asked : Type 0 where
  pub operation : Operation
  pub value : Data

abbrev pub asked_by : List ℕ → Data → Option Asked
asked_by key d = option_map (λ it. record { operation = it; value = d }) (operation_of key d)

-- what an object with one member asks for
unfoldable pub asked : Data → Option Asked
asked d = option_and_then (λ m. asked_by m.0 m.1) (only_member d)

abbrev pub form_demands : ℕ → Option Asked → List Demand
form_demands at None = []
form_demands at (Some it) = demands (object (form it.operation).fields) at [] it.value

abbrev pub asked_demands : ℕ → Option Asked → List Demand
asked_demands at it = test (is_some it) (inside at []) ∷ form_demands at it

-- of the operation that stands behind these
abbrev pub operation_demands : List Data → Data → List Demand
operation_demands before d = asked_demands (length before) (asked d)

-- ---- the whole

-- a text that names a migration
abbrev pub has_migration_name : Option Data → Bool
has_migration_name d = needs (λ d. needs is_name (as_str d)) d

abbrev pub has_list : Option Data → Bool
has_list d = needs (λ d. is_some (as_array d)) d

unfoldable pub migration_demands : Data → List Demand
migration_demands d =
    test (is_of which.Migration d) (Json (codes "$"))
    ∷ test (has_migration_name (get (codes "name") d)) (Json (codes "name"))
    ∷ test (has_list (get (codes "operations") d)) (Json (codes "operations"))
    ∷ within (λ d. item_demands operation_demands [] (items_of d)) (get (codes "operations") d)

-- ---- from the text on

-- the bytes that a migration's text may have
abbrev pub max_text : ℕ
max_text = 65536

-- the JSON value that a text is
unfoldable pub json_in : List ℕ → Option Data
json_in text = if is_utf8 text then read text else None

unfoldable pub text_demands : List ℕ → List Demand
text_demands text =
    test (nat_le (length text) max_text) (TooLong (length text))
    ∷ needed migration_demands (Json (codes "$")) (json_in text)
