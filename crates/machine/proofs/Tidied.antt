-- Tidying leads from a state that stands to one.
use Rattle.std.proofs.Common.{◌≡◌, ◌∙◌, ℕ, ◌≤◌, List, map, ap, refl, sym, subst}
use Rattle.std.specs.Prelude.{◌==◌, false, true}
use Rattle.std.specs.List.{list_all}
use Rattle.std.proofs.lemmas.List.{length-map}
use Rattle.mig_lens.specs.declared.faults.Kind.{Kind}
use Rattle.mig_lens.specs.declared.faults.Kind.TheVariants as kind
use Rattle.row_rules.specs.declared.kinds.Kept.{Kept}
use Rattle.machine.specs.declared.states.Mode.{Mode}
use Rattle.machine.specs.declared.states.Mode.TheVariants.{Calm, Both}
use Rattle.machine.specs.declared.states.State.{State}
use Rattle.machine.specs.State.{row_count}
use Rattle.machine.specs.Statement.{max_rows}
use Rattle.machine.specs.Migrate.{numbers_of, table_without_loss, without_loss}
use Rattle.machine.specs.Standing.{IsState, ModeStands, NoneLost, NumbersAscend, RowStands, StepsStand, VersionStands, is_known, may_lose}
use Rattle.machine.proofs.Moving.{Carries, Rows, ascends_mapped, counts_kept, each, map_each, numbers_kept, rows_mapped, tables_mapped, tables_moved}
use Rattle.machine.proofs.Replacing.{row_carries}
use Rattle.machine.proofs.Tidying.{emptied, ended}

-- No migration is active while steps are left.
calm_mode : (s t : State) (m : Mode) → (s.kind ≡ kind.Nothing → ⊥) → ModeStands s m → ModeStands t m
calm_mode s t Calm some stands = tt
calm_mode s t (Both name schema fates) some stands = absurd (some stands.no_steps)

-- A row that stands does so without its lost weight.
kept_row : (s : State) (left : ℕ) (k : Kind) (number : ℕ) (row : Kept) → RowStands s number row → RowStands (emptied left k s) number (without_loss row)
kept_row s left k number row r = let there = row_carries s (emptied left k s) refl refl number row r in record { old = there.old; new = there.new }

kept_table : (s : State) (left : ℕ) (k : Kind) (u : Rows) → Carries s (emptied left k s) table_without_loss u
kept_table s left k u ascend stand = (
  ascends_mapped without_loss (λ row. refl) u.1 ascend,
  rows_mapped s (emptied left k s) u.0 without_loss u.1 (each (λ row. RowStands s u.0 row → RowStands (emptied left k s) u.0 (without_loss row)) (kept_row s left k u.0) u.1) stand,
)

nothing_lost : (rows : List Kept) → NoneLost (map without_loss rows)
nothing_lost rows = map_each without_loss (λ row. row.lost ≡ 0) rows (each (λ row. 0 ≡ 0) (λ row. refl) rows)

-- Where steps are left, the one that takes what was lost.
pub emptied_stands : (s : State) (left : ℕ) (k : Kind) → IsState s → (s.kind ≡ kind.Nothing → ⊥) → StepsStand k left → IsState (emptied left k s)
emptied_stands s left k stands some steps =
    let t = emptied left k s in
    let same_numbers : numbers_of t ≡ numbers_of s = numbers_kept table_without_loss (λ u. refl) s.tables in
    let same_count : row_count t ≡ row_count s = counts_kept table_without_loss (λ u. length-map u.1 without_loss) s.tables in
    record {
      steps = steps;
      version = subst (λ ns. VersionStands s.schema ns s.next_table) (sym same_numbers) stands.version;
      mode = calm_mode s t s.mode some stands.mode;
      numbers = subst NumbersAscend (sym same_numbers) stands.numbers;
      known = subst (λ ns. list_all (is_known s) ns ≡ true) (sym same_numbers) stands.known;
      tables = tables_mapped s t table_without_loss s.tables (each (Carries s t table_without_loss) (kept_table s left k) s.tables) stands.tables;
      few = subst (λ n. n ≤ max_rows) (sym same_count) stands.few;
      lost = λ none. record { columns = refl; rows = map_each table_without_loss (λ table. NoneLost table.1) s.tables (each (λ table. NoneLost (table_without_loss table).1) (λ table. nothing_lost table.1) s.tables) };
    }

pub ended_stands : (s : State) → IsState s → s.kind ≡ kind.Complete → (s.left == 2) ≡ false → IsState (ended s)
ended_stands s stands is left =
    let t = ended s in
    let none : may_lose s.kind s.left ≡ false = ap (λ k. may_lose k s.left) is ∙ left in
    record {
      steps = refl;
      version = stands.version;
      mode = calm_mode s t s.mode (λ no. let differ : kind.Nothing ≡ kind.Complete = sym no ∙ is in absurd cc) stands.mode;
      numbers = stands.numbers;
      known = stands.known;
      tables = tables_moved s t (row_carries s t refl refl) s.tables stands.tables;
      few = stands.few;
      lost = λ _. record { columns = (stands.lost none).columns; rows = (stands.lost none).rows };
    }
