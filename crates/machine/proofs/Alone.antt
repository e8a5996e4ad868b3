-- A version that is left alone leads from a state that stands to one, if each of its rows has its half that stays.
use Rattle.std.proofs.Common.{◌≡◌, ◌∙◌, ℕ, ℤ, List, [], ◌∷◌, Bool, true, false, true≢false, ◌||◌, Option, Some, None, length, ap, refl, sym, subst, arith}
use Rattle.std.specs.Prelude.{is_some, nat_eq, sum_by}
use Rattle.std.specs.List.{AllByRecursion as Each, filter, list_all, list_any}
use Rattle.std.specs.Option.{option_and_then}
use Rattle.std.proofs.lemmas.List.{length-map}
use Rattle.sql_base.specs.declared.shapes.Schema.{Schema}
use Rattle.sql_base.specs.Laws.{all_true, both}
use Rattle.mig_lens.specs.declared.plans.Fate.{Fate}
use Rattle.mig_lens.specs.Plan.{Table, table_numbered}
use Rattle.row_rules.specs.declared.kinds.Kept.{Kept}
use Rattle.row_rules.specs.Site.{half, number_of, other}
use Rattle.machine.specs.declared.states.State.{State}
use Rattle.machine.specs.State.{lens_among, row_count}
use Rattle.machine.specs.Migrate.{Ending, numbers_of, staying_row, staying_table, standing_alone}
use Rattle.machine.specs.Standing.{HalfStands, IsState, NewStands, NumbersAscend, RowStands, StepsStand, VersionStands, is_known, may_lose, may_miss}
use Rattle.machine.proofs.Moving.{Carries, Rows, among_filtered, ascends_mapped, counts_filtered, counts_kept, each_both, each_so, filter_each, filter_so, number_each, numbers, numbers_filtered, numbers_kept, rows_mapped, tables_filtered, tables_mapped}
use Rattle.machine.proofs.Pairs.{each_numbered}

-- Whether a table stays: the version that does has it.
abbrev pub stays : Schema → Rows → Bool
stays schema = λ table. is_some (table_numbered schema table.0)

alone : (found : Option Table) (key : ℤ) → NewStands (may_miss (option_and_then (λ old. None) found)) None key None
alone None key = tt
alone (Some table) key = tt

-- Each table of the version has its rows among those that stay.
still_has : (schema : Schema) (tables : List Rows) (some : List Table) →
    Each (λ table. is_some (table_numbered schema (number_of table)) ≡ true) some →
    list_all (λ table. list_any (nat_eq (number_of table)) (numbers tables)) some ≡ true →
    list_all (λ table. list_any (nat_eq (number_of table)) (numbers (filter (stays schema) tables))) some ≡ true
still_has schema tables [] h all = refl
still_has schema tables (table ∷ some) h all =
    let among : Table → List Rows → Bool = λ table tables. list_any (nat_eq (number_of table)) (numbers tables) in
    let parts = both (among table tables) (list_all (λ table. among table tables) some) all in
    all_true (among table (filter (stays schema) tables)) (list_all (λ table. among table (filter (stays schema) tables)) some)
    (among_filtered (λ number. is_some (table_numbered schema number)) (number_of table) h.0 tables parts.0) (still_has schema tables some h.1 parts.1)

module _ (ending : Ending) (name : List ℕ) (schema : Schema) (fates : List (ℕ × Fate)) (s : State) where
  -- The half that stays stands in the version's table of this number.
  abbrev pub HalfStays : ℕ → Kept → Type 0
  HalfStays number row = HalfStands (table_numbered schema number) row.key (half (other ending.gone) row.halves)

  -- Of each row of a table that stays it does.
  abbrev pub HalvesStay : Rows → Type 0
  HalvesStay u = stays schema u ≡ true → Each (λ row. RowStands s u.0 row → HalfStays u.0 row) u.1

  row_stays : (number : ℕ) (row : Kept) → (RowStands s number row → HalfStays number row) → RowStands s number row →
      RowStands (standing_alone ending name schema fates s) number (staying_row ending.gone (lens_among fates number) row)
  row_stays number row h stands = record { old = h stands; new = alone (table_numbered schema number) row.key }

  -- A table that stays, with the halves that do.
  table_stays : (u : Rows) → HalvesStay u → stays schema u ≡ true → Carries s (standing_alone ending name schema fates s) (staying_table ending.gone fates) u
  table_stays u halves stay ascend stand =
      let t = standing_alone ending name schema fates s in
      let f = staying_row ending.gone (lens_among fates u.0) in
      let one = each_so (λ row. RowStands s u.0 row → HalfStays u.0 row) (λ row. RowStands s u.0 row → RowStands t u.0 (f row)) (row_stays u.0) u.1 (halves stay) in
      (ascends_mapped f (λ row. refl) u.1 ascend, rows_mapped s t u.0 f u.1 one stand)

  pub alone_stands : IsState s → StepsStand ending.kind ending.left → may_lose ending.kind ending.left ≡ true →
      VersionStands schema (numbers_of s) s.next_table → Each HalvesStay s.tables → IsState (standing_alone ending name schema fates s)
  alone_stands stands steps loses version halves =
      let t = standing_alone ending name schema fates s in
      let left = filter (stays schema) s.tables in
      let stay = filter_so (stays schema) s.tables in
      let g = staying_table ending.gone fates in
      let same_numbers : numbers_of t ≡ numbers left = numbers_kept g (λ u. refl) left in
      let same_count : row_count t ≡ sum_by (λ u. length u.1) left = counts_kept g (λ u. length-map u.1 (staying_row ending.gone (lens_among fates u.0))) left in
      let whole = filter_each (stays schema) HalvesStay s.tables halves in
      let carried = each_both HalvesStay (λ u. stays schema u ≡ true) (Carries s t g) table_stays left whole stay in
      let known : Each (λ u. is_known t u.0 ≡ true) left = each_so (λ u. stays schema u ≡ true) (λ u. is_known t u.0 ≡ true) (λ u h. ap (λ b. b || false) h) left stay in
      let remains : VersionStands schema (numbers left) s.next_table = record {
        schema_stands = version.schema_stands;
        rows = still_has schema s.tables schema.tables (each_numbered schema.tables) version.rows;
        below = version.below;
      } in
      record {
        steps = steps;
        version = subst (λ ns. VersionStands schema ns s.next_table) (sym same_numbers) remains;
        mode = tt;
        numbers = subst NumbersAscend (sym same_numbers) (numbers_filtered (stays schema) s.tables stands.numbers);
        known = subst (λ ns. list_all (is_known t) ns ≡ true) (sym same_numbers) (number_each (is_known t) left known);
        tables = tables_mapped s t g left carried (tables_filtered s (stays schema) s.tables stands.tables);
        few = let fewer = counts_filtered (stays schema) s.tables in let few = stands.few in omega (arith, same_count, fewer, few);
        lost = λ none. absurd (true≢false (sym loses ∙ none));
      }
