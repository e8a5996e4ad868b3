-- The texts that are migrations, as a relation between a JSON value and what it stands for.
use Rattle.std.specs.Prelude.{◌≡◌, ◌≢◌, ◌⊎◌, ℕ, ◌<◌, ◌≤◌, List, [], true, codes, length, Some}
use Rattle.serde_json.specs.Data.{Data, Items, string, array}
use Rattle.serde_json.specs.Find.{get}
use Rattle.mig_lens.specs.declared.migrations.Migration.{Migration}
use Rattle.mig_lens.specs.declared.migrations.Op.{Op}
use Rattle.mig_json.specs.declared.faults.JsonFault.{JsonFault}
use Rattle.mig_json.specs.declared.faults.JsonFault.TheVariants.{TooLong, NoMemory}
use Rattle.mig_json.specs.declared.members.Object.TheVariants as which
use Rattle.mig_json.specs.Demand.{FirstUnmet}
use Rattle.mig_json.specs.Kind.{ValuesOf, Is, object, AreItems}
use Rattle.mig_json.specs.Name.{is_name}
use Rattle.mig_json.specs.Reading.{Asked, asked, is_of, json_in, text_demands, max_text}
use Rattle.mig_json.specs.Table.{form}
use Rattle.mig_json.specs.Writing.{canonical_text}

-- What is asked for, with members of these values, is this operation.
abbrev pub Makes : Asked → Op → Type 0
Makes it op =
    (xs : ValuesOf (form it.operation).fields)
    × Is (object (form it.operation).fields) it.value xs × (op ≡ (form it.operation).made xs)

-- the value is this operation, under its name
abbrev pub IsOperation : Data → Op → Type 0
IsOperation d op = (it : Asked) × (asked d ≡ Some it) × Makes it op

-- the value is this migration
pub record IsMigration (d : Data) (m : Migration) : Type 0 where
  pub known : is_of which.Migration d ≡ true
  pub name : List ℕ
  pub named : get (codes "name") d ≡ Some (string name)
  pub is_name : is_name name ≡ true
  pub values : Items
  pub held : get (codes "operations") d ≡ Some (array values)
  pub operations : List Op
  pub are : AreItems (λ before. IsOperation) [] values operations
  pub is : m ≡ record { name = name; operations = operations }

-- The text is that of this migration.
pub record Spells (text : List ℕ) (m : Migration) : Type 0 where
  pub short : length text ≤ max_text
  pub value : Data
  pub json : json_in text ≡ Some value
  pub is : IsMigration value m

-- The text reads as this migration, whose canonical text isn't too long either.
pub record IsReading (text : List ℕ) (m : Migration) : Type 0 where
  pub spelled : Spells text m
  pub within : length (canonical_text m) ≤ max_text

-- The text is that of a migration whose canonical text is too long, which this fault tells.
pub record IsTooLong (text : List ℕ) (fault : JsonFault) : Type 0 where
  pub migration : Migration
  pub spelled : Spells text migration
  pub long : max_text < length (canonical_text migration)
  pub is : fault ≡ TooLong (length (canonical_text migration))

-- The text's first fault is this one: that of the first demand that it doesn't meet; or, where it meets them all, that
-- the canonical text is too long.
abbrev pub Fails : List ℕ → JsonFault → Type 0
Fails text fault = FirstUnmet (text_demands text) fault ⊎ IsTooLong text fault

-- Each text reads as a migration or has a first fault.
abbrev pub TextsReadOrFail : Type 0
TextsReadOrFail = (text : List ℕ) → ((m : Migration) × IsReading text m) ⊎ ((f : JsonFault) × Fails text f)

-- No text does both.
abbrev pub NeverBoth : Type 0
NeverBoth = (text : List ℕ) (m : Migration) (f : JsonFault) → IsReading text m → Fails text f → ⊥

-- A text reads as one migration at most, and has one first fault at most.
abbrev pub TextsReadOnce : Type 0
TextsReadOnce = (text : List ℕ) (a b : Migration) → IsReading text a → IsReading text b → a ≡ b

abbrev pub TextsFailOnce : Type 0
TextsFailOnce = (text : List ℕ) (f g : JsonFault) → Fails text f → Fails text g → f ≡ g

-- Want of memory is the fault of no text.
abbrev pub FaultsWantNothing : Type 0
FaultsWantNothing = (text : List ℕ) (f : JsonFault) → Fails text f → f ≢ NoMemory

-- The canonical text of a migration that a text reads as is read as that migration.
abbrev pub CanonicalTextsAreRead : Type 0
CanonicalTextsAreRead = (text : List ℕ) (m : Migration) → IsReading text m → IsReading (canonical_text m) m
