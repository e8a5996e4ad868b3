-- Tables keep their unique constraints through every step.
use Rattle.std.proofs.Common.{◌≡◌, ◌∙◌, ℕ, ℤ, List, [], ◌∷◌, true, false, Option, Some, None, map, filter, ap, refl, sym, subst, true≢false, option_map, option_and_then, if◌then◌else◌}
use Rattle.std.specs.List.{AllByRecursion as Each, cons_option}
use Rattle.std.specs.Option.{option_map_or}
use Rattle.sql_base.specs.declared.shapes.Schema.{Schema}
use Rattle.sql_base.specs.declared.shapes.Unique.{Unique}
use Rattle.mig_lens.specs.Lens.{unfilled}
use Rattle.mig_lens.specs.declared.columns.Lens.{Lens}
use Rattle.mig_lens.specs.declared.columns.Side.{Side}
use Rattle.mig_lens.specs.declared.columns.Side.TheVariants.{Old, New}
use Rattle.mig_lens.specs.declared.faults.Kind.{Kind}
use Rattle.mig_lens.specs.declared.plans.Fate.{Fate}
use Rattle.mig_lens.specs.declared.plans.Plan.{Plan}
use Rattle.mig_lens.specs.Layout.{has_mark}
use Rattle.mig_lens.specs.Plan.{Table, created_in, table_numbered}
use Rattle.row_rules.specs.Accept.{clashes_on, keys_of, present, unique_cause}
use Rattle.row_rules.specs.Changes.{after_changes, keys_changed}
use Rattle.row_rules.specs.Outcome.{first_some}
use Rattle.row_rules.specs.Site.{half, other, shape_of}
use Rattle.row_rules.specs.Laws.{ValidRowsHaveNoCause}
use Rattle.row_rules.specs.Steps.{begun_half, begun_row, invalid as broken_constraint}
use Rattle.machine.specs.Below.{Below}
use Rattle.machine.specs.Lawful.{HasNoClash}
use Rattle.machine.specs.Migrate.{Ending, begun_table, by_completing, by_rolling_back, created_tables, invalid, invalid_in, numbers_of, staying_row, staying_table, standing_alone, started, table_without_loss, without_loss}
use Rattle.machine.specs.Standing.{Ascends, NumbersAscend, may_miss}
use Rattle.machine.specs.State.{lens_among, rows_of, shared, table_on, with_rows}
use Rattle.machine.specs.Words.{Both, Change, Kept, State}
use Rattle.machine.proofs.Clashes.{Quiet, changed_without_clash, no_cause}
use Rattle.machine.proofs.Alone.{stays}
use Rattle.machine.proofs.Joining.{on_new, pair_of}
use Rattle.machine.proofs.LawfulRows.{all_valid, alone_never_misses, with_lens, without_lens}
use Rattle.machine.proofs.Moving.{IsFound, Rows, each, each_append, each_both, each_found, each_so, filter_each, map_each}
use Rattle.machine.proofs.Replacing.{replaced_so, rows_so}
use Rattle.machine.proofs.Tidying.{emptied}

-- ---- tables without entries

quiet_empty : (unique : Unique) (keys : List ℤ) → Quiet unique [] keys
quiet_empty unique [] = tt
quiet_empty unique (key ∷ keys) = (refl, quiet_empty unique keys)

quiet_all : (keys : List ℤ) (uniques : List Unique) → Each (λ unique. Quiet unique [] keys) uniques
quiet_all keys [] = tt
quiet_all keys (unique ∷ uniques) = (quiet_empty unique keys, quiet_all keys uniques)

-- Where no row has a half on this side none clashes.
nothing_clashes : (table : Option Table) (side : Side) (rows : List Kept) (keys : List ℤ) → present side rows ≡ [] → clashes_on table side rows keys ≡ None
nothing_clashes None side rows keys e = refl
nothing_clashes (Some table) side rows keys e = ap (λ entries. first_some (unique_cause entries keys) (shape_of table).uniques) e ∙ no_cause [] keys (shape_of table).uniques (quiet_all keys (shape_of table).uniques)

-- ---- a table whose rows are replaced

-- A table without rows.
empty_unique : (t : State) (number : ℕ) → HasNoClash t (number, [])
empty_unique t number = record { old = nothing_clashes (table_on t Old number) Old [] [] refl; new = λ _. nothing_clashes (table_on t New number) New [] [] refl }

pub found_unique : (s : State) (number : ℕ) → Each (HasNoClash s) s.tables → HasNoClash s (number, rows_of s number)
found_unique s number h =
    rows_so (λ number rows. HasNoClash s (number, rows)) number
    (empty_unique s number) s.tables h

same_versions : (s : State) (tables : List Rows) (table : Rows) → HasNoClash s table → HasNoClash (record s { tables = tables }) table
same_versions s tables table h = record { old = h.old; new = h.new }

with_rows_unique : (s : State) (number : ℕ) (rows : List Kept) → Each (HasNoClash s) s.tables → HasNoClash s (number, rows) → Each (HasNoClash (with_rows s number rows)) (with_rows s number rows).tables
with_rows_unique s number rows h r =
    let t = with_rows s number rows in
    each_so (HasNoClash s) (HasNoClash t) (same_versions s t.tables) t.tables (replaced_so (λ number rows. HasNoClash s (number, rows)) number rows r s.tables h)

-- Changes that nothing clashes with.
pub changed_unique : (s : State) (number : ℕ) (all : List Change) → Ascends (rows_of s number) →
    Ascends (after_changes all (rows_of s number)) → Each (HasNoClash s) s.tables →
    clashes_on (table_on s Old number) Old (after_changes all (rows_of s number)) (keys_changed all) ≡ None →
    (may_miss (shared s number) ≡ true → clashes_on (table_on s New number) New (after_changes all (rows_of s number)) (keys_changed all) ≡ None) →
    Each (HasNoClash (with_rows s number (after_changes all (rows_of s number)))) (with_rows s number (after_changes all (rows_of s number))).tables
changed_unique s number all ascend after h old_looked new_looked =
    let older = rows_of s number in
    let before = found_unique s number h in
    with_rows_unique s number (after_changes all older) h (record {
      old = changed_without_clash (table_on s Old number) Old all older ascend after before.old old_looked;
      new = λ k. changed_without_clash (table_on s New number) New all older ascend after (before.new k) (new_looked k);
    })

-- ---- START

mapped_keys : (f : Kept → Kept) → ((row : Kept) → (f row).key ≡ row.key) → (rows : List Kept) → keys_of (map f rows) ≡ keys_of rows
mapped_keys f h [] = refl
mapped_keys f h (row ∷ rows) = rw (h row, mapped_keys f h rows) refl

-- A side shows the rows as the other side showed them before.
mapped_present : (f : Kept → Kept) (before after : Side) → ((row : Kept) → (f row).key ≡ row.key) → ((row : Kept) → half after (f row).halves ≡ half before row.halves) → (rows : List Kept) → present after (map f rows) ≡ present before rows
mapped_present f before after k h [] = refl
mapped_present f before after k h (row ∷ rows) = rw (k row, h row, mapped_present f before after k h rows) refl

mapped_clashes : (table : Option Table) (f : Kept → Kept) (before after : Side) → ((row : Kept) → (f row).key ≡ row.key) → ((row : Kept) → half after (f row).halves ≡ half before row.halves) → (rows : List Kept) → clashes_on table before rows (keys_of rows) ≡ None → clashes_on table after (map f rows) (keys_of (map f rows)) ≡ None
mapped_clashes None f before after k h rows c = refl
mapped_clashes (Some table) f before after k h rows c =
    ap (λ entries. first_some (unique_cause entries (keys_of (map f rows))) (shape_of table).uniques) (mapped_present f before after k h rows) ∙ ap (λ keys. first_some (unique_cause (present before rows) keys) (shape_of table).uniques) (mapped_keys f k rows) ∙ c

nothing_begun : (lens : Lens) → has_mark lens ≡ true → (rows : List Kept) → present New (map (begun_row lens) rows) ≡ []
nothing_begun lens marked [] = refl
nothing_begun lens marked (row ∷ rows) =
    let missing : begun_half lens row.halves.old ≡ None = ap (λ b. if b then None else option_map (unfilled lens) row.halves.old) marked in
    ap (λ o. cons_option (option_map (λ values. (row.key, values)) o) (present New (map (begun_row lens) rows))) missing ∙ nothing_begun lens marked rows

begun_unique : (s : State) (name : List ℕ) (plan : Plan) (u : Rows) → HasNoClash s u → HasNoClash (started s name plan) (begun_table plan.fates u)
begun_unique s name plan u h = by_lens (lens_among plan.fates u.0) refl
  where
    t : State
    t = started s name plan

    by_lens : (l : Option Lens) → lens_among plan.fates u.0 ≡ l → HasNoClash t (option_map_or (λ lens. (u.0, map (begun_row lens) u.1)) l u)
    by_lens None e =
        let no : may_miss (shared t u.0) ≡ false = ap (λ l. may_miss (pair_of l (table_on t Old u.0) (table_on t New u.0))) e ∙ without_lens (table_on t Old u.0) (table_on t New u.0) in
        record { old = h.old; new = λ k. absurd (true≢false (sym k ∙ no)) }
    by_lens (Some lens) e =
        record {
          old = mapped_clashes (table_on s Old u.0) (begun_row lens) Old Old (λ row. refl) (λ row. refl) u.1 h.old;
          new = λ k.
              let marked : has_mark lens ≡ true = with_lens lens (table_on t Old u.0) (table_on t New u.0) (ap (λ l. may_miss (pair_of l (table_on t Old u.0) (table_on t New u.0))) (sym e) ∙ k) in
              nothing_clashes (table_on t New u.0) New (map (begun_row lens) u.1) (keys_of (map (begun_row lens) u.1)) (nothing_begun lens marked u.1);
        }

pub started_unique : (s : State) (name : List ℕ) (plan : Plan) → Each (HasNoClash s) s.tables → Each (HasNoClash (started s name plan)) (started s name plan).tables
started_unique s name plan h =
    let t = started s name plan in
    each_append (HasNoClash t) (map (begun_table plan.fates) s.tables) (created_tables plan.fates)
    (map_each (begun_table plan.fates) (HasNoClash t) s.tables (each_so (HasNoClash s) (λ u. HasNoClash t (begun_table plan.fates u)) (begun_unique s name plan) s.tables h))
    (map_each {Y = Rows} (λ number. (number, [])) (HasNoClash t) (created_in plan.fates) (each (λ number. HasNoClash t (number, [])) (empty_unique t) (created_in plan.fates)))

-- ---- a version that is left alone

module _ (ending : Ending) (name : List ℕ) (schema : Schema) (fates : List (ℕ × Fate)) (s : State) where
  -- Nothing clashes among the halves that stay.
  abbrev pub IsApart : Rows → Type 0
  IsApart u = clashes_on (table_numbered schema u.0) (other ending.gone) u.1 (keys_of u.1) ≡ None

  staying_unique : (u : Rows) → IsApart u → HasNoClash (standing_alone ending name schema fates s) (staying_table ending.gone fates u)
  staying_unique u apart =
      record {
        old = mapped_clashes (table_numbered schema u.0) (staying_row ending.gone (lens_among fates u.0)) (other ending.gone) Old (λ row. refl) (λ row. refl) u.1 apart;
        new = λ k. absurd (true≢false (sym k ∙ alone_never_misses (table_numbered schema u.0)));
      }

  pub alone_unique : Each IsApart s.tables → Each (HasNoClash (standing_alone ending name schema fates s)) (standing_alone ending name schema fates s).tables
  alone_unique apart =
      let t = standing_alone ending name schema fates s in
      let g = staying_table ending.gone fates in
      map_each g (HasNoClash t) (filter (stays schema) s.tables) (filter_each (stays schema) (λ u. HasNoClash t (g u)) s.tables (each_so IsApart (λ u. HasNoClash t (g u)) staying_unique s.tables apart))

-- ---- COMPLETE

valid_clashes : ValidRowsHaveNoCause → (found : Option Table) (rows : List Kept) → option_and_then (λ table. broken_constraint table rows) found ≡ None → clashes_on found New rows (keys_of rows) ≡ None
valid_clashes valid None rows h = refl
valid_clashes valid (Some table) rows h = (valid table rows h).1

completed_apart : Below → (s : State) (name : List ℕ) (schema : Schema) (fates : List (ℕ × Fate)) → s.mode ≡ Both name schema fates →
    (u : Rows) → IsFound s.tables u → invalid_in s u.0 ≡ None → IsApart by_completing name schema fates s u
completed_apart below s name schema fates is u found valid =
    let rows : rows_of s u.0 ≡ u.1 = ap (λ f. option_map_or (λ (table : Rows). table.1) f []) found in
    let quiet = valid_clashes below.valid (table_on s New u.0) (rows_of s u.0) valid in
    let at_rows = subst (λ rows. clashes_on (table_on s New u.0) New rows (keys_of rows) ≡ None) rows quiet in
    subst (λ table. clashes_on table New u.1 (keys_of u.1) ≡ None) (on_new s name schema fates is u.0) at_rows

pub completed_unique : Below → (s : State) (name : List ℕ) (schema : Schema) (fates : List (ℕ × Fate)) → s.mode ≡ Both name schema fates → NumbersAscend (numbers_of s) → invalid s (numbers_of s) ≡ None →
    Each (HasNoClash (standing_alone by_completing name schema fates s)) (standing_alone by_completing name schema fates s).tables
completed_unique below s name schema fates is ascend valid =
    alone_unique by_completing name schema fates s
    (each_both (IsFound s.tables) (λ u. invalid_in s u.0 ≡ None) (IsApart by_completing name schema fates s) (completed_apart below s name schema fates is) s.tables (each_found s.tables ascend) (all_valid s s.tables valid))

-- ---- ROLLBACK

pub rolled_unique : (s : State) (fates : List (ℕ × Fate)) → Each (HasNoClash s) s.tables →
    Each (HasNoClash (standing_alone by_rolling_back s.version s.schema fates s)) (standing_alone by_rolling_back s.version s.schema fates s).tables
rolled_unique s fates h =
    alone_unique by_rolling_back s.version s.schema fates s (each_so (HasNoClash s) (IsApart by_rolling_back s.version s.schema fates s) (λ u h. h.old) s.tables h)

-- ---- tidying

kept_unique : (s : State) (left : ℕ) (k : Kind) (u : Rows) → HasNoClash s u → HasNoClash (emptied left k s) (table_without_loss u)
kept_unique s left k u h =
    record {
      old = mapped_clashes (table_on s Old u.0) without_loss Old Old (λ row. refl) (λ row. refl) u.1 h.old;
      new = λ k. mapped_clashes (table_on s New u.0) without_loss New New (λ row. refl) (λ row. refl) u.1 (h.new k);
    }

pub emptied_unique : (s : State) (left : ℕ) (k : Kind) → Each (HasNoClash s) s.tables → Each (HasNoClash (emptied left k s)) (emptied left k s).tables
emptied_unique s left k h = map_each table_without_loss (HasNoClash (emptied left k s)) s.tables (each_so (HasNoClash s) (λ u. HasNoClash (emptied left k s) (table_without_loss u)) (kept_unique s left k) s.tables h)
