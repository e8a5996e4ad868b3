-- Rows of a site that stands, as a write makes them.
use Rattle.std.proofs.Common.{◌≡◌, ◌∙◌, ℕ, zero, suc, ℤ, List, [], ◌∷◌, Bool, true, false, Option, Some, None, Ok, ap, refl, sym, subst, is_some}
use Rattle.std.specs.Prelude.{slice_get, slice_index_or}
use Rattle.std.specs.Option.{option_map}
use Rattle.sql_base.specs.Fit.{row_fits}
use Rattle.sql_base.specs.Laws.{and_then_ok, ok_same}
use Rattle.sql_base.specs.declared.shapes.Shape.{Shape}
use Rattle.sql_base.specs.declared.values.Value.{Value}
use Rattle.sql_base.specs.declared.values.Value.TheVariants.{Null}
use Rattle.mig_lens.specs.Lens.{forward}
use Rattle.mig_lens.specs.Laws.{FitsBefore}
use Rattle.row_rules.specs.Accept.{sound, wrong}
use Rattle.row_rules.specs.Causes.{value_cause}
use Rattle.row_rules.specs.Changes.{filled_row, new_row, remade}
use Rattle.row_rules.specs.Outcome.{map_fault}
use Rattle.row_rules.specs.Site.{Beside, Site, filled, half, half_beside, halves_on, integer, key_of, other, other_half, shape_of, touched}
use Rattle.machine.specs.Sites.{BesideStands, SiteRow, SiteStands, may_miss_beside}
use Rattle.machine.specs.Standing.{HalfStands, NewStands}
use Rattle.machine.specs.Words.{Halves, Kept, New, Old, Side, Table}
use Rattle.machine.proofs.Accepting.{map_fault_ok, without_ok}
use Rattle.machine.specs.Below.{Below}

-- ---- keys

-- The key is the integer at its place, and else 0.
key_by_place : (values : List Value) (k : ℕ) → integer (slice_get values k) ≡ integer (Some (slice_index_or values k Null))
key_by_place [] k = refl
key_by_place (x ∷ values) zero = refl
key_by_place (x ∷ values) (suc k) = key_by_place values k

pub same_key : (shape : Shape) (half : List Value) (other : Shape) (other_half : List Value) → slice_index_or half shape.key Null ≡ slice_index_or other_half other.key Null → key_of shape half ≡ key_of other other_half
same_key shape half other other_half h = key_by_place half shape.key ∙ ap (λ v. integer (Some v)) h ∙ sym (key_by_place other_half other.key)

-- ---- halves

-- A half that stands is a new half that does, whether or not it may be missing.
pub any_new : (may : Bool) (table : Option Table) (key : ℤ) (half : Option (List Value)) → HalfStands table key half → NewStands may table key half
any_new true table key None h = tt
any_new true table key (Some values) h = h
any_new false table key half h = h

-- A new half that is there stands.
pub new_half : (may : Bool) (table : Option Table) (key : ℤ) (half : Option (List Value)) → is_some half ≡ true → NewStands may table key half → HalfStands table key half
new_half true table key None h stands = cc
new_half true table key (Some values) h stands = stands
new_half false table key half h stands = stands

-- The half beside, where there is one, fits the other version's shape.
abbrev FitsThere : Option Beside → Option (List Value) → Type 0
FitsThere None before = Unit {0}
FitsThere (Some beside) before = FitsBefore (shape_of beside.table) before

half_before : (table : Table) (key : ℤ) (half : Option (List Value)) → HalfStands (Some table) key half → FitsBefore (shape_of table) half
half_before table key None h = refl
half_before table key (Some values) h = h.0

new_before : (may : Bool) (table : Table) (key : ℤ) (half : Option (List Value)) → NewStands may (Some table) key half → FitsBefore (shape_of table) half
new_before true table key None h = refl
new_before true table key (Some values) h = h.0
new_before false table key half h = half_before table key half h

none_before : (there : Option Beside) → FitsThere there None
none_before None = tt
none_before (Some beside) = refl

-- The other half that a lens makes of a half that fits.
made_beside : Below → (side : Side) (here : Table) (beside : Beside) → BesideStands side here (Some beside) → (values : List Value) (before : Option (List Value)) (made : List Value) → row_fits (shape_of here) values ≡ true → FitsBefore (shape_of beside.table) before →
    half_beside side (shape_of here) beside values before ≡ Ok made → HalfStands (Some beside.table) (key_of (shape_of here) values) (Some made)
made_beside below Old here beside j values before made fit b h =
    let done = below.forward beside.lens (shape_of here) (shape_of beside.table) values before made j.fitting j.well_formed fit b h in
    (done.0, same_key (shape_of beside.table) made (shape_of here) values done.1)
made_beside below New here beside j values before made fit b h =
    let done = below.backward beside.lens (shape_of beside.table) (shape_of here) values before made j.fitting j.well_formed fit b h in
    (done.0, same_key (shape_of beside.table) made (shape_of here) values done.1)

abbrev table_there : Option Beside → Option Table
table_there there = option_map (λ beside. beside.table) there

-- A site, piece by piece.
abbrev pub site_at : Side → Table → Option Beside → ℕ → Site
site_at side here there lost = record { side = side; here = here; there = there; lost = lost }

other_made : Below → (side : Side) (here : Table) (there : Option Beside) (lost : ℕ) → BesideStands side here there → (values : List Value) (before made : Option (List Value)) → row_fits (shape_of here) values ≡ true → FitsThere there before →
    other_half (site_at side here there lost) values before ≡ Ok made → HalfStands (table_there there) (key_of (shape_of here) values) made
other_made below side here None lost j values before made fit b h = subst (HalfStands None (key_of (shape_of here) values)) (ok_same None made h) tt
other_made below side here (Some beside) lost j values before made fit b h =
    let step = and_then_ok (half_beside side (shape_of here) beside values before) (λ made. Ok (Some made)) made h in
    subst (HalfStands (Some beside.table) (key_of (shape_of here) values)) (ok_same (Some step.0) made step.2) (made_beside below side here beside j values before step.0 fit b step.1)

-- ---- rows

module _ (Lost : ℕ → Type 0) where
  -- A row of two halves that stand.
  row_of_halves : (side : Side) (here : Table) (there : Option Beside) (lost : ℕ) (key : ℤ) (values : List Value) (beside : Option (List Value)) (weight : ℕ) → HalfStands (Some here) key (Some values) → HalfStands (table_there there) key beside → Lost weight →
      SiteRow Lost (site_at side here there lost) (record { key = key; halves = halves_on side values beside; lost = weight })
  row_of_halves Old here there lost key values beside weight a b c = record { old = a; new = any_new (may_miss_beside there) (table_there there) key beside b; lost = c }
  row_of_halves New here there lost key values beside weight a b c = record { old = b; new = any_new (may_miss_beside there) (Some here) key (Some values) a; lost = c }

  pub remade_stands : Below → (site : Site) → SiteStands site → (key : ℤ) (weight : ℕ) (before : Option (List Value)) (values : List Value) (row : Kept) → row_fits (shape_of site.here) values ≡ true → key_of (shape_of site.here) values ≡ key → FitsThere site.there before → Lost weight →
      remade site key weight before values ≡ Ok row → SiteRow Lost site row
  remade_stands below site stands key weight before values row fit is b l h =
      let step = and_then_ok (map_fault (value_cause key) (other_half site values before)) (λ other. sound site (record { key = key; halves = halves_on site.side values other; lost = weight })) row h in
      let made : Kept = record { key = key; halves = halves_on site.side values step.0; lost = weight } in
      let looked = without_ok (wrong site made) made row step.2 in
      let beside = other_made below site.side site.here site.there site.lost stands.beside values before step.0 fit b (map_fault_ok (value_cause key) (other_half site values before) step.0 step.1) in
      let beside_key = subst (λ k. HalfStands (table_there site.there) k step.0) is beside in
      subst (SiteRow Lost site) looked.1 (row_of_halves site.side site.here site.there site.lost key values step.0 weight (fit, is) beside_key l)

  pub new_row_stands : Below → (site : Site) → SiteStands site → Lost site.lost → (values : List Value) (row : Kept) → row_fits (shape_of site.here) values ≡ true → new_row site values ≡ Ok row → SiteRow Lost site row
  new_row_stands below site stands l values row fit h = remade_stands below site stands (key_of (shape_of site.here) values) site.lost None values row fit refl (none_before site.there) l h

  -- ---- what a write begins with

  -- The written half is there and stands, and the other one fits.
  pub record Touched (site : Site) (key : ℤ) (halves : Halves) : Type 0 where
    pub here : HalfStands (Some site.here) key (half site.side halves)
    pub there : FitsThere site.there (half (other site.side) halves)
    pub row : (weight : ℕ) → Lost weight → SiteRow Lost site (record { key = key; halves = halves; lost = weight })

  new_there : (may : Bool) (there : Option Beside) (key : ℤ) (half : Option (List Value)) → NewStands may (table_there there) key half → FitsThere there half
  new_there may None key half h = tt
  new_there may (Some beside) key half h = new_before may beside.table key half h

  filled_touched : Below → (here : Table) (beside : Beside) (lost : ℕ) → BesideStands New here (Some beside) → (key : ℤ) (old : Option (List Value)) (halves : Halves) → HalfStands (Some beside.table) key old → filled beside (record { old = old; new = None }) ≡ Ok halves → Touched (site_at New here (Some beside) lost) key halves
  filled_touched below here beside lost j key None halves o h = absurd o
  filled_touched below here beside lost j key (Some values) halves o h =
      let step = and_then_ok (forward beside.lens (shape_of beside.table) values None) (λ made. Ok (record { old = Some values; new = Some made })) halves h in
      let done = below.forward beside.lens (shape_of beside.table) (shape_of here) values None step.0 j.fitting j.well_formed o.0 refl step.1 in
      let new : HalfStands (Some here) key (Some step.0) = (done.0, same_key (shape_of here) step.0 (shape_of beside.table) values done.1 ∙ o.1) in
      subst (Touched (site_at New here (Some beside) lost) key) (ok_same (record { old = Some values; new = Some step.0 }) halves step.2)
      (record { here = new; there = o.0; row = λ weight l. record { old = o; new = any_new (may_miss_beside (Some beside)) (Some here) key (Some step.0) new; lost = l } })

  touched_by_side : Below → (side : Side) (here : Table) (there : Option Beside) (lost : ℕ) → BesideStands side here there → (key : ℤ) (old new : Option (List Value)) (weight : ℕ) (halves : Halves) → SiteRow Lost (site_at side here there lost) (record { key = key; halves = record { old = old; new = new }; lost = weight }) →
      touched (site_at side here there lost) (record { old = old; new = new }) ≡ Ok halves → Touched (site_at side here there lost) key halves
  touched_by_side below Old here there lost j key old new weight halves r h =
      subst (Touched (site_at Old here there lost) key) (ok_same (record { old = old; new = new }) halves h)
      (record { here = r.old; there = new_there (may_miss_beside there) there key new r.new; row = λ weight l. record { old = r.old; new = r.new; lost = l } })
  touched_by_side below New here None lost j key old new weight halves r h =
      subst (Touched (site_at New here None lost) key) (ok_same (record { old = old; new = new }) halves h)
      (record { here = r.new; there = tt; row = λ weight l. record { old = r.old; new = r.new; lost = l } })
  touched_by_side below New here (Some beside) lost j key old None weight halves r h = filled_touched below here beside lost j key old halves r.old h
  touched_by_side below New here (Some beside) lost j key old (Some values) weight halves r h =
      subst (Touched (site_at New here (Some beside) lost) key) (ok_same (record { old = old; new = Some values }) halves h)
      (record {
        here = new_half (may_miss_beside (Some beside)) (Some here) key (Some values) refl r.new;
        there = half_before beside.table key old r.old;
        row = λ weight l. record { old = r.old; new = r.new; lost = l };
      })

  pub touched_stands : Below → (site : Site) → SiteStands site → (row : Kept) (halves : Halves) → SiteRow Lost site row → touched site row.halves ≡ Ok halves → Touched site row.key halves
  touched_stands below site stands row halves r h =
      touched_by_side below site.side site.here site.there site.lost stands.beside row.key row.halves.old row.halves.new row.lost halves (record { old = r.old; new = r.new; lost = r.lost }) h

  -- ---- FILL

  pub filled_row_stands : Below → (site : Site) → SiteStands site → (row made : Kept) → SiteRow Lost site row → filled_row site row ≡ Ok made → SiteRow Lost site made
  filled_row_stands below site stands row made r h =
      let step = and_then_ok (map_fault (value_cause row.key) (touched site row.halves)) (λ halves. sound site (record row { halves = halves })) made h in
      let looked = without_ok (wrong site (record row { halves = step.0 })) (record row { halves = step.0 }) made step.2 in
      let begun = touched_stands below site stands row step.0 r (map_fault_ok (value_cause row.key) (touched site row.halves) step.0 step.1) in
      subst (SiteRow Lost site) looked.1 (begun.row row.lost r.lost)
