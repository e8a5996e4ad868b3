-- Rolling back leaves the old halves of the old version's rows.
use Rattle.std.proofs.Common.{◌≡◌, ◌∙◌, inl, inr, ℕ, ℤ, List, [], ◌∷◌, Bool, true, false, ◌==◌, cond, find, Option, Some, is_some, map, filter, ap, refl, sym, subst, arith}
use Rattle.std.specs.Option.{option_map_or}
use Rattle.std.proofs.lemmas.Bool.Decides.{nat_tests}
use Rattle.sql_base.specs.declared.values.Value.{Value}
use Rattle.mig_lens.specs.declared.columns.Side.TheVariants.{New, Old}
use Rattle.mig_lens.specs.Plan.{table_numbered}
use Rattle.row_rules.specs.declared.kinds.Kept.{Kept}
use Rattle.machine.specs.declared.events.Reply.{Reply}
use Rattle.machine.specs.declared.states.Mode.{Mode}
use Rattle.machine.specs.declared.states.Mode.TheVariants.{Calm, Both}
use Rattle.machine.specs.declared.states.State.{State}
use Rattle.machine.specs.Laws.{OldHalvesStay}
use Rattle.machine.specs.Migrate.{roll_back, rollback, staying_row, table_without_loss, without_loss}
use Rattle.machine.specs.State.{lens_among, rows_of, table_on}
use Rattle.machine.proofs.Moving.{Rows}
use Rattle.machine.proofs.Outcomes.{Holds, command_so}
use Rattle.machine.proofs.Replacing.{found_rows}
use Rattle.machine.proofs.Tidying.{rolling_back_so}

-- What the old version has of rows.
abbrev old_of : Kept → ℤ × Option (List Value)
old_of row = (row.key, row.halves.old)

abbrev olds : List Kept → List (ℤ × Option (List Value))
olds rows = map {B = ℤ × Option (List Value)} (λ row. (row.key, row.halves.old)) rows

-- Tables whose rows become others that have the same keys and old halves.
module _ (g : ℕ → Kept → Kept) (same : (number : ℕ) (row : Kept) → old_of (g number row) ≡ old_of row) where
  same_olds : (number : ℕ) (rows : List Kept) → olds (map (g number) rows) ≡ olds rows
  same_olds number [] = refl
  same_olds number (row ∷ rows) = rw (same number row, same_olds number rows) refl

  abbrev changed_table : Rows → Rows
  changed_table u = (u.0, map (g u.0) u.1)

  -- Those that stay have their rows, as the old version has them, by their numbers.
  found_olds : (stays : ℕ → Bool) (number : ℕ) → stays number ≡ true → (tables : List Rows) →
      olds (found_rows number (map changed_table (filter (λ u. stays u.0) tables))) ≡ olds (found_rows number tables)
  found_olds stays number is [] = refl
  found_olds stays number is (u ∷ us) = by_tests (found_olds stays number is us) (stays u.0) refl (u.0 == number) refl
    where
      rest : List Rows
      rest = filter (λ u. stays u.0) us

      by_tests : olds (found_rows number (map changed_table rest)) ≡ olds (found_rows number us) →
          (stay : Bool) → stays u.0 ≡ stay → (here : Bool) → (u.0 == number) ≡ here →
          olds (found_rows number (map changed_table (cond stay (u ∷ rest) rest))) ≡ olds (option_map_or (λ table. table.1) (cond here (Some u) (find {X = Rows} (λ table. table.0 == number) us)) [])
      by_tests there true e true k =
          ap (λ b. olds (option_map_or (λ table. table.1) (cond b (Some (changed_table u)) (find {X = Rows} (λ table. table.0 == number) (map changed_table rest))) [])) k
          ∙ same_olds u.0 u.1
      by_tests there true e false k =
          ap (λ b. olds (option_map_or (λ table. table.1) (cond b (Some (changed_table u)) (find {X = Rows} (λ table. table.0 == number) (map changed_table rest))) [])) k
          ∙ there
      by_tests there false e true k =
          let number_is : u.0 ≡ number = grind (arith, nat_tests) in
          let so : stays u.0 ≡ true = subst (λ n. stays n ≡ true) (sym number_is) is in
          cc
      by_tests there false e false k = there

-- All tables stay.
emptied_olds : (number : ℕ) (tables : List Rows) → olds (found_rows number (map table_without_loss tables)) ≡ olds (found_rows number tables)
emptied_olds number [] = refl
emptied_olds number (u ∷ us) = by_test (emptied_olds number us) (u.0 == number)
  where
    by_test : olds (found_rows number (map table_without_loss us)) ≡ olds (found_rows number us) → (here : Bool) →
        olds (option_map_or (λ table. table.1) (cond here (Some (table_without_loss u)) (find {X = Rows} (λ table. table.0 == number) (map table_without_loss us))) [])
        ≡ olds (option_map_or (λ table. table.1) (cond here (Some u) (find {X = Rows} (λ table. table.0 == number) us)) [])
    by_test there true = same_olds (λ number. without_loss) (λ number row. refl) u.0 u.1
    by_test there false = there

-- ---- the law

abbrev Stay : State → ℕ → Reply → State → Type 0
Stay s number reply t = olds (rows_of t number) ≡ olds (rows_of s number)

rolled_back_stay : (s : State) (number : ℕ) (mode : Mode) → is_some (table_on s Old number) ≡ true → Holds (Stay s number) (roll_back s mode)
rolled_back_stay s number Calm has = tt
rolled_back_stay s number (Both name schema fates) has =
    found_olds (λ number. staying_row New (lens_among fates number)) (λ number row. refl) (λ number. is_some (table_numbered s.schema number)) number has s.tables

pub old_halves_stay : OldHalvesStay
old_halves_stay s reply t number stands (wrote, inl c) has =
    command_so s (Stay s number) (rollback s) reply wrote t (λ refusal. refl)
    (rolling_back_so s (Stay s number) (λ is. rolled_back_stay s number s.mode has) (λ is. emptied_olds number s.tables)) c
old_halves_stay s reply t number stands (wrote, inr c) has = cc (c.0)
