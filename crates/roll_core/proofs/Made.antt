-- The rows that a job puts: their keys, their lost weights, and that both halves are there where both versions have the table.
use Rattle.roll_core.proofs.Words.{◌≡◌, ◌∙◌, ℕ, ℤ, List, true, Option, Some, None, Ok, is_some, ap, refl, sym, subst, Each, option_map_or}
use Rattle.roll_core.proofs.Words.{and_then_ok, ok_same, and_then, Value, sound, wrong, value_cause, altered, altered_halves, altered_row, changes, filled_row}
use Rattle.roll_core.proofs.Words.{remade, map_fault, Beside, Site, half, half_beside, halves_on, key_of, other, other_half, shape_of, touched, touched_by, Expr, New, Old, Side}
use Rattle.roll_core.proofs.Words.{Change, Put, Remove, Halves, Job, Kept, OfPut}
use Rattle.roll_core.proofs.Words.job
use Rattle.row_rules.specs.Made.{changes_made}
use Rattle.roll_core.proofs.Outcomes.{map_fault_ok, without_ok}
use Rattle.roll_core.proofs.Tables.{each_all}

-- ---- puts

pub of_put : {P Q : Kept → Type 0} → ((row : Kept) → P row → Q row) → (change : Change) → OfPut P change → OfPut Q change
of_put h (Put row) p = h row p
of_put h (Remove key) p = tt

-- ---- one row

-- Whether the new half is there, where both versions have the table.
abbrev pub HasNew : Option Beside → Halves → Type 0
HasNew None halves = Unit {0}
HasNew (Some beside) halves = is_some halves.new ≡ true

pub record Remade (site : Site) (key : ℤ) (lost : ℕ) (row : Kept) : Type 0 where
  pub is_key : row.key ≡ key
  pub is_lost : row.lost ≡ lost
  pub has_new : HasNew site.there row.halves

other_there : (side : Side) (site : Site) (there : Option Beside) → site.there ≡ there → (values : List Value) (before made : Option (List Value)) → other_half site values before ≡ Ok made → HasNew there (halves_on side values made)
other_there side site None t values before made h = tt
other_there side site (Some beside) t values before made h =
    let of = λ (o : Option Beside). option_map_or (λ beside. and_then (half_beside site.side (shape_of site.here) beside values before) (λ made. Ok (Some made))) o (Ok None) in
    let is : and_then (half_beside site.side (shape_of site.here) beside values before) (λ made. Ok (Some made)) ≡ Ok made = ap of (sym t) ∙ h in
    let step = and_then_ok (half_beside site.side (shape_of site.here) beside values before) (λ made. Ok (Some made)) made is in
    subst (λ (m : Option (List Value)). is_some (halves_on side values m).new ≡ true) (ok_same (Some step.0) made step.2) (elim side as (λ side. is_some (halves_on side values (Some step.0)).new ≡ true) [ Old ↦ refl | New ↦ refl ])

remade_is : (site : Site) (key : ℤ) (lost : ℕ) (before : Option (List Value)) (values : List Value) (row : Kept) → remade site key lost before values ≡ Ok row → Remade site key lost row
remade_is site key lost before values row h =
    let step = and_then_ok (map_fault (value_cause key) (other_half site values before)) (λ other. sound site (record { key = key; halves = halves_on site.side values other; lost = lost })) row h in
    let made : Kept = record { key = key; halves = halves_on site.side values step.0; lost = lost } in
    let same = (without_ok (wrong site made) made row step.2).1 in
    let there = other_there site.side site site.there refl values before step.0 (map_fault_ok (value_cause key) (other_half site values before) step.0 step.1) in
    subst (Remade site key lost) same (record { is_key = refl; is_lost = refl; has_new = there })

altered_is : (site : Site) (sets : List (ℕ × Expr)) (row made : Kept) → altered_row site sets row ≡ Ok made → Remade site row.key row.lost made
altered_is site sets row made h =
    let step = and_then_ok (map_fault (value_cause row.key) (touched site row.halves)) (altered_halves site sets row) made h in
    let more = and_then_ok (map_fault (value_cause row.key) (altered (shape_of site.here) sets _)) (λ values. remade site row.key row.lost (half (other site.side) step.0) values) made step.2 in
    remade_is site row.key row.lost (half (other site.side) step.0) more.0 made more.2

touched_there : (there : Option Beside) (old new : Option (List Value)) (halves : Halves) → touched_by there New (record { old = old; new = new }) ≡ Ok halves → HasNew there halves
touched_there None old new halves h = tt
touched_there (Some beside) old None halves h =
    let step = and_then_ok _ (λ made. Ok (record { old = old; new = Some made })) halves h in
    subst (λ (t : Halves). is_some t.new ≡ true) (ok_same (record { old = old; new = Some step.0 }) halves step.2) refl
touched_there (Some beside) old (Some values) halves h = subst (λ (t : Halves). is_some t.new ≡ true) (ok_same (record { old = old; new = Some values }) halves h) refl

filled_is : (site : Site) → site.side ≡ New → (row made : Kept) → filled_row site row ≡ Ok made → Remade site row.key row.lost made
filled_is site side row made h =
    let step = and_then_ok (map_fault (value_cause row.key) (touched site row.halves)) (λ halves. sound site (record row { halves = halves })) made h in
    let same = (without_ok (wrong site (record row { halves = step.0 })) (record row { halves = step.0 }) made step.2).1 in
    let begun = map_fault_ok (value_cause row.key) (touched site row.halves) step.0 step.1 in
    let there = touched_there site.there row.halves.old row.halves.new step.0 (ap (λ side. touched_by site.there side row.halves) (sym side) ∙ begun) in
    subst (Remade site row.key row.lost) same (record { is_key = refl; is_lost = refl; has_new = there })

-- ---- the changes of a job

-- A batch is written through the new version.
abbrev pub SideOf : Site → Job → Type 0
SideOf site job.Fill = site.side ≡ New
SideOf site _ = Unit {0}

-- What holds of the keys and lost weights of the rows that a job is done to, and of those of new rows, holds of those that it puts.
abbrev pub PutBy : (ℤ → ℕ → Type 0) → Site → Job → List Kept → Type 0
PutBy P site (job.Put rows) older = (key : ℤ) → P key site.lost
PutBy P site (job.Alter sets condition) older = Each (λ row. P row.key row.lost) older
PutBy P site (job.Remove condition) older = Unit {0}
PutBy P site job.Fill older = Each (λ row. P row.key row.lost) older

-- A row that is put.
pub record Placed (P : ℤ → ℕ → Type 0) (site : Site) (row : Kept) : Type 0 where
  pub weighs : P row.key row.lost
  pub has_new : HasNew site.there row.halves

placed : (P : ℤ → ℕ → Type 0) (site : Site) (key : ℤ) (lost : ℕ) (row : Kept) → P key lost → Remade site key lost row → Placed P site row
placed P site key lost row p r = record { weighs = subst (λ k. P k row.lost) (sym r.is_key) (subst (P key) (sym r.is_lost) p); has_new = r.has_new }

pub changes_placed : (P : ℤ → ℕ → Type 0) (site : Site) (what : Job) (older : List Kept) (all : List Change) → SideOf site what → PutBy P site what older → changes site what older ≡ Ok all → Each (OfPut (Placed P site)) all
changes_placed P site (job.Put rows) older all side kept h =
    changes_made (λ row. Unit {0}) (Placed P site) site (job.Put rows) older all
    (each_all (λ values row m. let key = key_of (shape_of site.here) values in placed P site key site.lost row (kept key) (remade_is site key site.lost None values row m)) rows)
    (each_all (λ row. tt) older) h
changes_placed P site (job.Alter sets condition) older all side kept h =
    changes_made (λ row. P row.key row.lost) (Placed P site) site (job.Alter sets condition) older all
    (λ row made p m. placed P site row.key row.lost made p (altered_is site sets row made m)) kept h
changes_placed P site (job.Remove condition) older all side kept h =
    changes_made (λ row. Unit {0}) (Placed P site) site (job.Remove condition) older all tt (each_all (λ row. tt) older) h
changes_placed P site job.Fill older all side kept h =
    changes_made (λ row. P row.key row.lost) (Placed P site) site job.Fill older all
    (λ row made p m. placed P site row.key row.lost made p (filled_is site side row made m)) kept h
