-- What the steps of the call look at that tells whether rows from outside may be put.
use Rattle.std.proofs.Common.{◌≡◌, ◌∙◌, ℕ, ◌+◌, ◌≤◌, ℤ, List, [], ◌∷◌, Bool, true, false, not, ◌&&◌, ◌||◌, Option, Some, None, Ok, Err, is_none, refl, sym, ap, if◌then◌else◌, length, filter, arith}
use Rattle.std.specs.List.{list_all}
use Rattle.sql_base.specs.Laws.{and_false, and_true}
use Rattle.sql_base.specs.Outcome.{and_then, every}
use Rattle.row_rules.specs.Accept.{has_key, sound, wrong}
use Rattle.row_rules.specs.Causes.{value_cause}
use Rattle.row_rules.specs.Changes.{changes, filled_row, key_changed, keys_changed, put_all, rows_put}
use Rattle.row_rules.specs.Outcome.{map_fault, without}
use Rattle.row_rules.specs.Site.{Site, touched, touched_by}
use Rattle.machine.specs.MayPut.{is_changed, last_changes, may_hold, rows_gone, rows_left}
use Rattle.machine.specs.PutSteps.{fresh_rows, is_fresh, left_holds, takes}
use Rattle.machine.specs.Words.{Cause, Change, Kept, Old, Put, Remove, State}
use Rattle.machine.specs.Words.job
use Rattle.machine.proofs.LastChanges.{count_cons, one}

-- ---- a row that is filled through the old version

-- Nothing is changed, so it is looked at alone.
fill_looks : (site : Site) (row : Kept) → site.side ≡ Old → changes site job.Fill (row ∷ []) ≡ without (wrong site row) (Put row ∷ [])
fill_looks site row is = ap (λ made. put_all (every (made ∷ []))) filled ∙ by_cause (wrong site row)
  where
    untouched : touched site row.halves ≡ Ok row.halves
    untouched = ap (λ side. touched_by site.there side row.halves) is

    filled : filled_row site row ≡ sound site row
    filled = ap (λ halves. and_then (map_fault (value_cause row.key) halves) (λ halves. sound site (record row { halves = halves }))) untouched

    by_cause : (o : Option Cause) → put_all (every (without o row ∷ [])) ≡ without o (Put row ∷ [])
    by_cause None = refl
    by_cause (Some cause) = refl

pub fill_refuses : (site : Site) (row : Kept) (cause : Cause) → site.side ≡ Old → changes site job.Fill (row ∷ []) ≡ Err cause → is_none (wrong site row) ≡ false
fill_refuses site row cause is e = by_cause (wrong site row) (sym (fill_looks site row is) ∙ e)
  where
    by_cause : (o : Option Cause) → without o (Put row ∷ []) ≡ Err cause → is_none o ≡ false
    by_cause None e = cc
    by_cause (Some cause) e = refl

-- ---- change by change

or_true : (b : Bool) → (b || true) ≡ true
or_true true = refl
or_true false = refl

or_false : (b : Bool) → (b || false) ≡ b
or_false true = refl
or_false false = refl

pub left_step : (s : State) (number : ℕ) (change : Change) (later : List Change) → list_all (may_hold s number) (rows_left (change ∷ later)) ≡ (left_holds s number change later && list_all (may_hold s number) (rows_left later))
left_step s number (Put row) later = by_test (is_changed row.key later)
  where
    by_test : (b : Bool) → list_all (may_hold s number) (rows_put (if b then last_changes later else Put row ∷ last_changes later)) ≡ ((may_hold s number row || b) && list_all (may_hold s number) (rows_left later))
    by_test true = ap (λ b. b && list_all (may_hold s number) (rows_left later)) (sym (or_true (may_hold s number row)))
    by_test false = ap (λ b. b && list_all (may_hold s number) (rows_left later)) (sym (or_false (may_hold s number row)))
left_step s number (Remove key) later = by_test (is_changed key later)
  where
    by_test : (b : Bool) → list_all (may_hold s number) (rows_put (if b then last_changes later else Remove key ∷ last_changes later)) ≡ list_all (may_hold s number) (rows_left later)
    by_test true = refl
    by_test false = refl

pub gone_step : (older : List Kept) (change : Change) (later : List Change) → rows_gone older (change ∷ later) ≡ one (takes older change later) + rows_gone older later
gone_step older change later = by_test (is_changed key later)
  where
    key : ℤ
    key = key_changed change

    by_test : (b : Bool) → length (filter (λ key. has_key key older) (keys_changed (if b then last_changes later else change ∷ last_changes later))) ≡ one (has_key key older && not b) + rows_gone older later
    by_test true =
        let no : one (has_key key older && false) ≡ 0 = ap one (and_false (has_key key older)) in
        omega (arith, no)
    by_test false =
        count_cons (λ key. has_key key older) key (keys_changed (last_changes later)) ∙ ap (λ b. one b + rows_gone older later) (sym (and_true (has_key key older)))

-- A row that is left comes under a fresh key, or replaces an older one.
pub few_come : (older : List Kept) (changes : List Change) → length (rows_left changes) ≤ rows_gone older changes + fresh_rows older changes
few_come older [] = omega arith
few_come older (Put row ∷ later) = by_test (is_changed row.key later) (few_come older later) (count_cons (is_fresh older) (Put row) later)
  where
    one_way : (has : Bool) → 1 ≤ one has + one (not has)
    one_way true = omega arith
    one_way false = omega arith

    by_test : (b : Bool) → length (rows_left later) ≤ rows_gone older later + fresh_rows older later → fresh_rows older (Put row ∷ later) ≡ one (not (has_key row.key older)) + fresh_rows older later →
        length (rows_put (if b then last_changes later else Put row ∷ last_changes later)) ≤ length (filter (λ key. has_key key older) (keys_changed (if b then last_changes later else Put row ∷ last_changes later))) + fresh_rows older (Put row ∷ later)
    by_test true there fresh = omega (arith, there, fresh)
    by_test false there fresh =
        let gone = count_cons (λ key. has_key key older) row.key (keys_changed (last_changes later)) in
        omega (arith, there, fresh, gone, one_way (has_key row.key older))
few_come older (Remove key ∷ later) = by_test (is_changed key later) (few_come older later) (count_cons (is_fresh older) (Remove key) later)
  where
    by_test : (b : Bool) → length (rows_left later) ≤ rows_gone older later + fresh_rows older later → fresh_rows older (Remove key ∷ later) ≡ 0 + fresh_rows older later →
        length (rows_put (if b then last_changes later else Remove key ∷ last_changes later)) ≤ length (filter (λ key. has_key key older) (keys_changed (if b then last_changes later else Remove key ∷ last_changes later))) + fresh_rows older (Remove key ∷ later)
    by_test true there fresh = omega (arith, there, fresh)
    by_test false there fresh =
        let gone = count_cons (λ key. has_key key older) key (keys_changed (last_changes later)) in
        omega (arith, there, fresh, gone)
