-- Rows keep their constraints and their limit through every step.
use Rattle.std.proofs.Common.{◌≡◌, ◌∙◌, ℕ, ℤ, List, [], ◌∷◌, Bool, true, false, ◌||◌, Option, Some, None, map, is_some, ap, refl, sym, subst, if◌then◌else◌, true≢false, option_map, option_and_then, nat_lt, codes}
use Rattle.std.specs.List.{AllByRecursion as Each, filter, list_any}
use Rattle.std.specs.Option.{option_map_or}
use Rattle.sql_base.specs.Laws.{either_none}
use Rattle.sql_base.specs.Weight.{weight}
use Rattle.sql_base.specs.declared.codes.Code.TheVariants.{C54000}
use Rattle.sql_base.specs.declared.shapes.Schema.{Schema}
use Rattle.sql_base.specs.declared.values.Value.{Value}
use Rattle.mig_lens.specs.Lens.{unfilled}
use Rattle.mig_lens.specs.declared.columns.Lens.{Lens}
use Rattle.mig_lens.specs.declared.columns.Side.{Side}
use Rattle.mig_lens.specs.declared.columns.Side.TheVariants.{Old, New}
use Rattle.mig_lens.specs.declared.faults.Kind.{Kind}
use Rattle.mig_lens.specs.declared.plans.Fate.{Fate}
use Rattle.mig_lens.specs.declared.plans.Plan.{Plan}
use Rattle.mig_lens.specs.Layout.{has_mark}
use Rattle.mig_lens.specs.Plan.{Table, created_in, table_numbered}
use Rattle.row_rules.specs.Accept.{is_heavy, side_cause, weight_cause}
use Rattle.row_rules.specs.Causes.{max_weight}
use Rattle.row_rules.specs.Site.{half, other}
use Rattle.row_rules.specs.Laws.{ValidRowsHaveNoCause}
use Rattle.row_rules.specs.Steps.{begun_half, begun_row, invalid as broken_constraint, new_half_cause, shows_heavy}
use Rattle.machine.specs.Below.{Below}
use Rattle.machine.specs.Lawful.{HasLawfulRows, IsLawfulRow, RowsLawful}
use Rattle.machine.specs.Migrate.{Ending, begun_table, by_completing, by_rolling_back, created_tables, has_heavy, invalid, invalid_in, numbers_of, staying_row, staying_table, standing_alone, started, table_without_loss, without_loss}
use Rattle.machine.specs.Standing.{NumbersAscend, may_miss}
use Rattle.machine.specs.State.{lens_among, rows_of, shared, table_on, with_rows}
use Rattle.machine.specs.Words.{Both, Cause, Kept, State}
use Rattle.machine.proofs.Clashes.{none_each}
use Rattle.machine.proofs.Alone.{stays}
use Rattle.machine.proofs.Joining.{on_new, pair_of}
use Rattle.machine.proofs.Moving.{IsFound, Rows, each, each_append, each_both, each_found, each_so, filter_each, map_each}
use Rattle.machine.proofs.Replacing.{replaced_so, rows_so}
use Rattle.machine.proofs.SettledJobs.{none_first}
use Rattle.machine.proofs.Tidying.{emptied}

-- ---- a table whose rows are replaced

pub rows_lawful : (s : State) (number : ℕ) → RowsLawful s → Each (IsLawfulRow s number) (rows_of s number)
rows_lawful s number h = rows_so (λ number rows. Each (IsLawfulRow s number) rows) number tt s.tables h

same_versions : (s : State) (tables : List Rows) (number : ℕ) (row : Kept) → IsLawfulRow s number row → IsLawfulRow (record s { tables = tables }) number row
same_versions s tables number row h = record { old = h.old; new = h.new; light = h.light }

pub with_rows_lawful : (s : State) (number : ℕ) (rows : List Kept) → RowsLawful s → Each (IsLawfulRow s number) rows → RowsLawful (with_rows s number rows)
with_rows_lawful s number rows h r =
    let t = with_rows s number rows in
    each_so (HasLawfulRows s) (HasLawfulRows t) (λ u. each_so (IsLawfulRow s u.0) (IsLawfulRow t u.0) (same_versions s t.tables u.0) u.1) t.tables
    (replaced_so (λ number rows. Each (IsLawfulRow s number) rows) number rows r s.tables h)

-- ---- START

light_either : (a b : Bool) (cause : Option Cause) → (if a || b then cause else None) ≡ None → is_some cause ≡ true → (a ≡ false) × (b ≡ false)
light_either true b cause h k = cc
light_either false true cause h k = cc
light_either false false cause h k = (refl, refl)

light_from : (row : Kept) → is_heavy row.halves.old ≡ false → is_heavy row.halves.new ≡ false → weight_cause row ≡ None
light_from row o n = rw (o, n) refl

light_parts : (row : Kept) → weight_cause row ≡ None → (is_heavy row.halves.old ≡ false) × (is_heavy row.halves.new ≡ false)
light_parts row h = light_either (is_heavy row.halves.old) (is_heavy row.halves.new) (Some (record { code = C54000; name = Some (codes "row"); key = row.key })) h refl

no_half_cause : (table : Option Table) (key : ℤ) → side_cause table key None ≡ None
no_half_cause None key = refl
no_half_cause (Some table) key = refl

begun_light : (lens : Lens) (old : Option (List Value)) → option_map_or (λ old. nat_lt max_weight (weight (unfilled lens old))) old false ≡ false → is_heavy (begun_half lens old) ≡ false
begun_light lens old h = by_mark (has_mark lens) old h
  where
    by_mark : (b : Bool) (old : Option (List Value)) → option_map_or (λ old. nat_lt max_weight (weight (unfilled lens old))) old false ≡ false → is_heavy (if b then None else option_map (unfilled lens) old) ≡ false
    by_mark true old h = refl
    by_mark false None h = refl
    by_mark false (Some values) h = h

pub without_lens : (old new : Option Table) → may_miss (pair_of None old new) ≡ false
without_lens None new = refl
without_lens (Some old) None = refl
without_lens (Some old) (Some new) = refl

pub with_lens : (lens : Lens) (old new : Option Table) → may_miss (pair_of (Some lens) old new) ≡ true →
    has_mark lens ≡ true
with_lens lens None new h = cc
with_lens lens (Some old) None h = cc
with_lens lens (Some old) (Some new) h = h

-- A row of a table without a lens.
unbegun_row : (s : State) (name : List ℕ) (plan : Plan) (number : ℕ) → lens_among plan.fates number ≡ None → (row : Kept) → IsLawfulRow s number row → IsLawfulRow (started s name plan) number row
unbegun_row s name plan number none row h =
    let t = started s name plan in
    let no : may_miss (shared t number) ≡ false = ap (λ l. may_miss (pair_of l (table_on t Old number) (table_on t New number))) none ∙ without_lens (table_on t Old number) (table_on t New number) in
    record { old = h.old; new = λ k. absurd (true≢false (sym k ∙ no)); light = h.light }

begun_row_lawful : (s : State) (name : List ℕ) (plan : Plan) (number : ℕ) (lens : Lens) → lens_among plan.fates number ≡ Some lens → (row : Kept) → IsLawfulRow s number row → shows_heavy lens row ≡ false → IsLawfulRow (started s name plan) number (begun_row lens row)
begun_row_lawful s name plan number lens has row h light =
    let t = started s name plan in
    let old = row.halves.old in
    record {
      old = h.old;
      new = λ k.
          let marked : has_mark lens ≡ true = with_lens lens (table_on t Old number) (table_on t New number) (ap (λ l. may_miss (pair_of l (table_on t Old number) (table_on t New number))) (sym has) ∙ k) in
          let missing : begun_half lens old ≡ None = ap (λ b. if b then None else option_map (unfilled lens) old) marked in
          ap (side_cause (table_on t New number) row.key) missing ∙ no_half_cause (table_on t New number) row.key;
      light = light_from (begun_row lens row) (light_parts row h.light).0 (begun_light lens old light);
    }

begun_table_lawful : (s : State) (name : List ℕ) (plan : Plan) (u : Rows) → HasLawfulRows s u → has_heavy plan.fates u ≡ false → HasLawfulRows (started s name plan) (begun_table plan.fates u)
begun_table_lawful s name plan u h light = by_lens (lens_among plan.fates u.0) refl light
  where
    by_lens : (l : Option Lens) → lens_among plan.fates u.0 ≡ l → option_map_or (λ lens. list_any (shows_heavy lens) u.1) l false ≡ false → HasLawfulRows (started s name plan) (option_map_or (λ lens. (u.0, map (begun_row lens) u.1)) l u)
    by_lens None e light = each_so (IsLawfulRow s u.0) (IsLawfulRow (started s name plan) u.0) (unbegun_row s name plan u.0 e) u.1 h
    by_lens (Some lens) e light =
        map_each (begun_row lens) (IsLawfulRow (started s name plan) u.0) u.1
        (each_both (IsLawfulRow s u.0) (λ row. shows_heavy lens row ≡ false) (λ row. IsLawfulRow (started s name plan) u.0 (begun_row lens row)) (λ row. begun_row_lawful s name plan u.0 lens e row) u.1 h (none_each (shows_heavy lens) u.1 light))

pub started_lawful : (s : State) (name : List ℕ) (plan : Plan) → RowsLawful s → list_any (has_heavy plan.fates) s.tables ≡ false → RowsLawful (started s name plan)
started_lawful s name plan h light =
    let t = started s name plan in
    each_append (HasLawfulRows t) (map (begun_table plan.fates) s.tables) (created_tables plan.fates)
    (map_each (begun_table plan.fates) (HasLawfulRows t) s.tables
    (each_both (HasLawfulRows s) (λ u. has_heavy plan.fates u ≡ false) (λ u. HasLawfulRows (started s name plan) (begun_table plan.fates u)) (begun_table_lawful s name plan) s.tables h (none_each (has_heavy plan.fates) s.tables light)))
    (map_each {Y = Rows} (λ number. (number, [])) (HasLawfulRows t) (created_in plan.fates) (each (λ number. Unit {0}) (λ number. tt) (created_in plan.fates)))

-- ---- a version that is left alone

pub alone_never_misses : (found : Option Table) → may_miss (option_and_then (λ (old : Table). None) found) ≡ false
alone_never_misses None = refl
alone_never_misses (Some table) = refl

light_on : (side : Side) (row : Kept) → weight_cause row ≡ None → is_heavy (half side row.halves) ≡ false
light_on Old row h = (light_parts row h).0
light_on New row h = (light_parts row h).1

module _ (ending : Ending) (name : List ℕ) (schema : Schema) (fates : List (ℕ × Fate)) (s : State) where
  -- Nothing is wrong with the half that stays.
  abbrev pub IsSoundHalf : ℕ → Kept → Type 0
  IsSoundHalf number row = side_cause (table_numbered schema number) row.key (half (other ending.gone) row.halves) ≡ None

  staying_row_lawful : (number : ℕ) (row : Kept) → IsLawfulRow s number row → IsSoundHalf number row →
      IsLawfulRow (standing_alone ending name schema fates s) number (staying_row ending.gone (lens_among fates number) row)
  staying_row_lawful number row h sound =
      record {
        old = sound;
        new = λ k. absurd (true≢false (sym k ∙ alone_never_misses (table_numbered schema number)));
        light = light_from (staying_row ending.gone (lens_among fates number) row) (light_on (other ending.gone) row h.light) refl;
      }

  staying_table_lawful : (u : Rows) → HasLawfulRows s u → Each (IsSoundHalf u.0) u.1 → HasLawfulRows (standing_alone ending name schema fates s) (staying_table ending.gone fates u)
  staying_table_lawful u h sound =
      let t = standing_alone ending name schema fates s in
      let f = staying_row ending.gone (lens_among fates u.0) in
      map_each f (IsLawfulRow t u.0) u.1 (each_both (IsLawfulRow s u.0) (IsSoundHalf u.0) (λ row. IsLawfulRow t u.0 (f row)) (staying_row_lawful u.0) u.1 h sound)

  pub alone_lawful : RowsLawful s → Each (λ u. Each (IsSoundHalf u.0) u.1) s.tables → RowsLawful (standing_alone ending name schema fates s)
  alone_lawful h sound =
      let t = standing_alone ending name schema fates s in
      let g = staying_table ending.gone fates in
      map_each g (HasLawfulRows t) (filter (stays schema) s.tables)
      (filter_each (stays schema) (λ u. HasLawfulRows t (g u)) s.tables
      (each_both (HasLawfulRows s) (λ u. Each (IsSoundHalf u.0) u.1) (λ u. HasLawfulRows t (g u)) staying_table_lawful s.tables h sound))

-- ---- COMPLETE

pub all_valid : (s : State) (tables : List Rows) → invalid s (map (λ table. table.0) tables) ≡ None → Each (λ u. invalid_in s u.0 ≡ None) tables
all_valid s [] h = tt
all_valid s (u ∷ us) h =
    let parts = either_none (invalid_in s u.0) (invalid s (map (λ table. table.0) us)) h in
    (parts.0, all_valid s us parts.1)

valid_rows : ValidRowsHaveNoCause → (found : Option Table) (rows : List Kept) → option_and_then (λ table. broken_constraint table rows) found ≡ None → Each (λ row. side_cause found row.key row.halves.new ≡ None) rows
valid_rows valid None rows h = every_row rows
  where
    every_row : (rows : List Kept) → Each (λ (row : Kept). side_cause None row.key row.halves.new ≡ None) rows
    every_row [] = tt
    every_row (row ∷ rows) = (refl, every_row rows)
valid_rows valid (Some table) rows h = none_first (new_half_cause table) rows (valid table rows h).0

completed_sound : Below → (s : State) (name : List ℕ) (schema : Schema) (fates : List (ℕ × Fate)) → s.mode ≡ Both name schema fates →
    (u : Rows) → IsFound s.tables u → invalid_in s u.0 ≡ None → Each (IsSoundHalf by_completing name schema fates s u.0) u.1
completed_sound below s name schema fates is u found valid =
    let rows : rows_of s u.0 ≡ u.1 = ap (λ f. option_map_or (λ (table : Rows). table.1) f []) found in
    let each_valid = valid_rows below.valid (table_on s New u.0) (rows_of s u.0) valid in
    let at_rows = subst (λ rows. Each (λ (row : Kept). side_cause (table_on s New u.0) row.key row.halves.new ≡ None) rows) rows each_valid in
    subst (λ table. Each (λ (row : Kept). side_cause table row.key row.halves.new ≡ None) u.1) (on_new s name schema fates is u.0) at_rows

pub completed_lawful : Below → (s : State) (name : List ℕ) (schema : Schema) (fates : List (ℕ × Fate)) → s.mode ≡ Both name schema fates → NumbersAscend (numbers_of s) → RowsLawful s → invalid s (numbers_of s) ≡ None → RowsLawful (standing_alone by_completing name schema fates s)
completed_lawful below s name schema fates is ascend h valid =
    alone_lawful by_completing name schema fates s h
    (each_both (IsFound s.tables) (λ u. invalid_in s u.0 ≡ None) (λ u. Each (IsSoundHalf by_completing name schema fates s u.0) u.1) (completed_sound below s name schema fates is) s.tables (each_found s.tables ascend) (all_valid s s.tables valid))

-- ---- ROLLBACK

pub rolled_lawful : (s : State) (fates : List (ℕ × Fate)) → RowsLawful s → RowsLawful (standing_alone by_rolling_back s.version s.schema fates s)
rolled_lawful s fates h =
    let IsSound : Rows → Type 0 = λ u. Each (IsSoundHalf by_rolling_back s.version s.schema fates s u.0) u.1 in
    alone_lawful by_rolling_back s.version s.schema fates s h
    (each_so (HasLawfulRows s) IsSound (λ u. each_so (IsLawfulRow s u.0) (IsSoundHalf by_rolling_back s.version s.schema fates s u.0) (λ row r. r.old) u.1) s.tables h)

-- ---- tidying

kept_lawful : (s : State) (left : ℕ) (k : Kind) (u : Rows) → HasLawfulRows s u → HasLawfulRows (emptied left k s) (table_without_loss u)
kept_lawful s left k u h =
    let t = emptied left k s in
    map_each without_loss (IsLawfulRow t u.0) u.1 (each_so (IsLawfulRow s u.0) (λ row. IsLawfulRow t u.0 (without_loss row)) (λ row r. record { old = r.old; new = r.new; light = r.light }) u.1 h)

pub emptied_lawful : (s : State) (left : ℕ) (k : Kind) → RowsLawful s → RowsLawful (emptied left k s)
emptied_lawful s left k h =
    let t = emptied left k s in
    map_each table_without_loss (HasLawfulRows t) s.tables (each_so (HasLawfulRows s) (λ u. HasLawfulRows t (table_without_loss u)) (kept_lawful s left k) s.tables h)
