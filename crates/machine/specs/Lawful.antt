-- What the constraints and the limit on a half come to, in every state that a run reaches.
--
-- While one version stands no row of it breaks a constraint. While a migration is active no old half does, and no new half that had to be made. (A new half that only shows constants beside carried values is looked at when the migration is completed.)
use Rattle.std.specs.Prelude.{◌≡◌, ℕ, true, List, None}
use Rattle.std.specs.List.{AllByRecursion}
use Rattle.mig_lens.specs.declared.columns.Side.TheVariants.{Old, New}
use Rattle.row_rules.specs.declared.kinds.Kept.{Kept}
use Rattle.machine.specs.declared.states.State.{State}
use Rattle.row_rules.specs.Accept.{clashes_on, keys_of, side_cause, weight_cause}
use Rattle.machine.specs.State.{shared, table_on}
use Rattle.machine.specs.Standing.{may_miss}

-- The old half of the row has no fault; the new half has none in a table of which a new column has to be made; neither is too heavy.
pub record IsLawfulRow (s : State) (number : ℕ) (row : Kept) : Type 0 where
  pub old : side_cause (table_on s Old number) row.key row.halves.old ≡ None
  pub new : may_miss (shared s number) ≡ true → side_cause (table_on s New number) row.key row.halves.new ≡ None
  pub light : weight_cause row ≡ None

-- So is each row of the table.
abbrev pub HasLawfulRows : State → ℕ × List Kept → Type 0
HasLawfulRows s table = AllByRecursion (IsLawfulRow s table.0) table.1

abbrev pub RowsLawful : State → Type 0
RowsLawful s = AllByRecursion (HasLawfulRows s) s.tables

-- No two rows of the table have the same values in the columns of a unique constraint, none of them NULL: not through the old version, nor through the new one, among the new halves that are there, where a new column has to be made.
pub record HasNoClash (s : State) (table : ℕ × List Kept) : Type 0 where
  pub old : clashes_on (table_on s Old table.0) Old table.1 (keys_of table.1) ≡ None
  pub new : may_miss (shared s table.0) ≡ true → clashes_on (table_on s New table.0) New table.1 (keys_of table.1) ≡ None

pub record IsLawful (s : State) : Type 0 where
  pub rows : RowsLawful s
  pub unique : AllByRecursion (HasNoClash s) s.tables
