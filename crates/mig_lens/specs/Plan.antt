-- What a plan says of a table.
use Rattle.std.specs.Prelude.{ℕ, ◌==◌, List, find, Option, Some, None}
use Rattle.std.specs.List.{filter_map}
use Rattle.std.specs.Option.{option_and_then}
use Rattle.mig_lens.specs.declared.columns.Lens.{Lens}
use Rattle.mig_lens.specs.declared.plans.Fate.{Fate}
use Rattle.mig_lens.specs.declared.plans.Fate.TheVariants.{Kept, Created, Dropped}
use Rattle.mig_lens.specs.declared.plans.Plan.{Plan}
pub use Rattle.mig_lens.specs.Versions.{Table, key_name, shape_numbered, table_numbered}

abbrev pub lens_in : Fate → Option Lens
lens_in (Kept lens) = Some lens
lens_in Created = None
lens_in Dropped = None

abbrev pub fate_numbered : Plan → ℕ → Option (ℕ × Fate)
fate_numbered plan number = find (λ fate. fate.0 == number) plan.fates

-- the lens of a table that both versions have
abbrev pub lens_of : Plan → ℕ → Option Lens
lens_of plan number = option_and_then (λ fate. lens_in fate.1) (fate_numbered plan number)

-- The table's number, where the new version alone has it.
abbrev pub created_number : ℕ → Fate → Option ℕ
created_number number (Kept lens) = None
created_number number Created = Some number
created_number number Dropped = None

-- The numbers of the tables that a plan creates, in the order of their creation.
abbrev pub created_in : List (ℕ × Fate) → List ℕ
created_in fates = filter_map (λ fate. created_number fate.0 fate.1) fates
