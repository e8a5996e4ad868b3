-- The rows that a job puts can be stored in the form of their table.
use Rattle.roll_core.proofs.Words.{◌≡◌, ◌∙◌, ℕ, ℤ, List, [], ◌∷◌, Bool, true, false, Option, Some, None, is_some, cond, int_cmp, map, ap, refl, sym, subst, option_map, T}
use Rattle.roll_core.proofs.Words.{int_eq_equiv, is_sorted, below_all, Each, eq_by_cmp, is_eq, is_lt, some_same, Value, Table, Halves, Kept, Beside, number_of, shape_of, Rows}
use Rattle.roll_core.proofs.Words.{State, HalvesAgree, PairStands, SiteRow, TableStands, may_miss_beside, new_table_by, table_by, HalfStands, NewStands, Found, Shared, beside_on, lens_between}
use Rattle.roll_core.proofs.Words.{shared, site_of, table_on, New, Old, Side, LaidBefore, Pair, Form, Own, Paired, Left, Trimmed, FormSuits, IsStoredRow, StoredRow, kept}
use Rattle.roll_core.proofs.Words.{Calm, Returned, Shape, lost_columns_by, other, pair_over, row_fits}
use Rattle.roll_core.proofs.Words.finite
use Rattle.std.specs.FinMap.{find}
use Rattle.roll_core.proofs.Made.{HasNew}
use Rattle.roll_core.proofs.Runs.{calm_none, no_new, shared_of}
use Rattle.roll_core.proofs.Stepped.{is_less, split}
use Rattle.roll_core.proofs.Storing.{AloneFits, FormStands, Storable, Together, lost_over, returned_over}

-- ---- what is stored under a key

behind_found : (first : StoredRow) (all rows : List StoredRow) → T (below_all int_cmp first.0 rows) → Each (λ row. find int_cmp row.0 all ≡ Some row.1) rows → Each (λ row. find int_cmp row.0 (first ∷ all) ≡ Some row.1) rows
behind_found first all [] b h = tt
behind_found first all (row ∷ rows) b h =
    let parts = split (is_lt (int_cmp first.0 row.0)) (below_all int_cmp first.0 rows) b in
    let differs : eq_by_cmp int_cmp row.0 first.0 ≡ false = int_eq_equiv.symm row.0 first.0 ∙ ap is_eq (is_less (int_cmp first.0 row.0) parts.0) in
    (ap (λ test. cond test (Some first.1) (find int_cmp row.0 all)) differs ∙ h.0, behind_found first all rows parts.1 h.1)

pub sorted_found : (rows : List StoredRow) → T (is_sorted int_cmp rows) → Each (λ row. find int_cmp row.0 rows ≡ Some row.1) rows
sorted_found [] s = tt
sorted_found (row ∷ rows) s =
    let parts = split (below_all int_cmp row.0 rows) (is_sorted int_cmp rows) s in
    (ap (λ test. cond test (Some row.1) (find int_cmp row.0 rows)) (int_eq_equiv.refl row.0), behind_found row rows rows parts.0 (sorted_found rows parts.1))

-- ---- lost weights

abbrev pub WeighsOver : Form → Option (List Value) → ℕ → Type 0
WeighsOver (Own side) before lost = lost ≡ 0
WeighsOver (Paired pair) before lost = lost ≡ 0
WeighsOver (Left pair) before lost = LaidBefore pair before × (lost ≡ lost_over pair before)
WeighsOver (Trimmed pair) before lost = lost ≡ 0
WeighsOver (Returned pair) before lost = LaidBefore pair before × (lost ≡ returned_over pair before)

-- A row of this key may have this lost weight, over what is stored.
abbrev pub Weighs : Form → Rows → ℤ → ℕ → Type 0
Weighs form rows key lost = WeighsOver form (finite.get rows key) lost

pub new_weighs : (form : Form) (lost : ℕ) → lost ≡ lost_columns_by form → WeighsOver form None lost
new_weighs (Own side) lost e = e
new_weighs (Paired pair) lost e = e
new_weighs (Left pair) lost e = (tt, e)
new_weighs (Trimmed pair) lost e = e
new_weighs (Returned pair) lost e = (tt, e)

row_weighs : (form : Form) (before : Option (List Value)) (row : StoredRow) → before ≡ Some row.1 → IsStoredRow form row.1 → WeighsOver form before (kept form row).lost
row_weighs (Own side) before row e s = refl
row_weighs (Paired pair) before row e s = refl
row_weighs (Left pair) before row e s = (subst (LaidBefore pair) (sym e) s, ap (lost_over pair) (sym e))
row_weighs (Trimmed pair) before row e s = refl
row_weighs (Returned pair) before row e s = (subst (LaidBefore pair) (sym e) s, ap (returned_over pair) (sym e))

rows_weigh : (form : Form) (all : Rows) (rows : List StoredRow) → Each (λ row. find int_cmp row.0 (finite.entries all) ≡ Some row.1) rows → Each (λ row. IsStoredRow form row.1) rows → Each (λ row. Weighs form all row.key row.lost) (map (kept form) rows)
rows_weigh form all [] f s = tt
rows_weigh form all (row ∷ rows) f s = (row_weighs form (finite.get all row.0) row (finite.get-entries all row.0 ∙ f.0) s.0, rows_weigh form all rows f.1 s.1)

-- The rows that are stored have the lost weights of what is stored.
pub older_weigh : (form : Form) (rows : Rows) → Each (λ row. IsStoredRow form row.1) (finite.entries rows) → Each (λ row. Weighs form rows row.key row.lost) (map (kept form) (finite.entries rows))
older_weigh form rows s = rows_weigh form rows (finite.entries rows) (sorted_found (finite.entries rows) (finite.entries_sorted rows)) s

-- ---- the halves of one version

halves_are : (halves : Halves) (old new : Option (List Value)) → halves.old ≡ old → halves.new ≡ new → halves ≡ record { old = old; new = new }
halves_are halves old new o n = λ i. record { old = o i; new = n i }

no_half : (key : ℤ) (half : Option (List Value)) → HalfStands None key half → half ≡ None
no_half key None h = refl
no_half key (Some values) h = absurd h

-- A half that stands.
record FittingHalf (here : Table) (half : Option (List Value)) : Type 0 where
  values : List Value
  is : half ≡ Some values
  fits : row_fits (shape_of here) values ≡ true

fitting_half : (here : Table) (key : ℤ) (half : Option (List Value)) → HalfStands (Some here) key half → FittingHalf here half
fitting_half here key None h = absurd h
fitting_half here key (Some values) h = record { values = values; is = refl; fits = h.0 }

alone_has : (side : Side) (here : Table) (there : Option Beside) (row : Kept) → there ≡ None → HalfStands (table_by side here there) row.key row.halves.old → NewStands (may_miss_beside there) (new_table_by side here there) row.key row.halves.new → AloneFits side (shape_of here) row
alone_has Old here None row t o n =
    let has = fitting_half here row.key row.halves.old o in
    record { values = has.values; halves = halves_are row.halves (Some has.values) None has.is (no_half row.key row.halves.new n); fits = has.fits }
alone_has New here None row t o n =
    let has = fitting_half here row.key row.halves.new n in
    record { values = has.values; halves = halves_are row.halves None (Some has.values) (no_half row.key row.halves.old o) has.is; fits = has.fits }
alone_has side here (Some beside) row t o n = cc

-- ---- a table that one version has alone

-- It is found on that version's side.
alone_side : (s : State) (number : ℕ) (own side : Side) (table : Table) → table_on s (other own) number ≡ None → table_on s side number ≡ Some table → side ≡ own
alone_side s number Old Old table none e = refl
alone_side s number Old New table none e = cc
alone_side s number New Old table none e = cc
alone_side s number New New table none e = refl

pub alone_shared : (s : State) (number : ℕ) (own : Side) → table_on s (other own) number ≡ None → shared s number ≡ None
alone_shared s number Old none = ap (λ new. shared_of (lens_between s.mode number) new (table_on s Old number)) none ∙ no_new (lens_between s.mode number) (table_on s Old number)
alone_shared s number New none = ap (shared_of (lens_between s.mode number) (table_on s New number)) none

alone_fits : (s : State) (found : Found) (own : Side) → table_on s (other own) (number_of found.table) ≡ None → TableStands s found → (row : Kept) → SiteRow (λ lost. Unit {0}) (site_of s found) row → AloneFits own (shape_of found.table) row
alone_fits s found own none stands row r =
    let number = number_of found.table in
    let there = ap (option_map (beside_on found.side)) (alone_shared s number own none) in
    subst (λ side. AloneFits side (shape_of found.table) row) (alone_side s number own found.side found.table none stands.on_side) (alone_has found.side found.table (site_of s found).there row there r.old r.new)

-- ---- while both do

record BothHave (both : Shared) (row : Kept) : Type 0 where
  old : HalfStands (Some both.old) row.key row.halves.old
  new : NewStands (may_miss_beside (Some (beside_on Old both))) (Some both.new) row.key row.halves.new

both_site : (side : Side) (here : Table) (both : Shared) (row : Kept) → (side ≡ Old → both.old ≡ here) → (side ≡ New → both.new ≡ here) → HalfStands (table_by side here (Some (beside_on side both))) row.key row.halves.old → NewStands (may_miss_beside (Some (beside_on side both))) (new_table_by side here (Some (beside_on side both))) row.key row.halves.new → BothHave both row
both_site Old here both row o n ho hn = record { old = subst (λ (t : Table). HalfStands (Some t) row.key row.halves.old) (sym (o refl)) ho; new = hn }
both_site New here both row o n ho hn = record { old = ho; new = subst (λ (t : Table). NewStands (may_miss_beside (Some (beside_on New both))) (Some t) row.key row.halves.new) (sym (n refl)) hn }

pub new_stands : (may : Bool) (table : Table) (key : ℤ) (values : List Value) → NewStands may (Some table) key (Some values) → HalfStands (Some table) key (Some values)
new_stands true table key values h = h
new_stands false table key values h = h

together : (both : Shared) (row : Kept) → BothHave both row → is_some row.halves.new ≡ true → HalvesAgree both.lens row.halves → Together (pair_over both) row
together both row h some agree = by_halves row.halves.old row.halves.new refl refl h.old h.new some
  where
    by_halves : (old new : Option (List Value)) → row.halves.old ≡ old → row.halves.new ≡ new → HalfStands (Some both.old) row.key old → NewStands (may_miss_beside (Some (beside_on Old both))) (Some both.new) row.key new → is_some new ≡ true → Together (pair_over both) row
    by_halves None new eo en ho hn s = absurd ho
    by_halves (Some old) None eo en ho hn s = cc
    by_halves (Some old) (Some new) eo en ho hn s = record {
      old = old;
      new = new;
      halves = halves_are row.halves (Some old) (Some new) eo en;
      old_fits = ho.0;
      new_fits = (new_stands (may_miss_beside (Some (beside_on Old both))) both.new row.key new hn).0;
      agree = λ i at c. agree old new i at eo en c;
    }

both_has : (s : State) (found : Found) (both : Shared) → shared s (number_of found.table) ≡ Some both → PairStands s (number_of found.table) both → TableStands s found → (row : Kept) → SiteRow (λ lost. Unit {0}) (site_of s found) row → BothHave both row
both_has s found both is p stands row r =
    let number = number_of found.table in
    let there : (site_of s found).there ≡ Some (beside_on found.side both) = ap (option_map (beside_on found.side)) is in
    let old = subst (λ t. HalfStands (table_by found.side found.table t) row.key row.halves.old) there r.old in
    let new = subst (λ t. NewStands (may_miss_beside t) (new_table_by found.side found.table t) row.key row.halves.new) there r.new in
    both_site found.side found.table both row
    (λ side. some_same both.old found.table (sym p.old ∙ subst (λ side. table_on s side number ≡ Some found.table) side stands.on_side))
    (λ side. some_same both.new found.table (sym p.new ∙ subst (λ side. table_on s side number ≡ Some found.table) side stands.on_side)) old new

-- ---- any form

new_there : (there : Option Beside) (beside : Beside) (halves : Halves) → there ≡ Some beside → HasNew there halves → is_some halves.new ≡ true
new_there None beside halves e h = cc
new_there (Some b) beside halves e h = h

pub form_stands : (s : State) (number : ℕ) (form : Form) → FormSuits s number form → FormStands form
form_stands s number (Own side) f = tt
form_stands s number (Paired pair) f = f.is_pair
form_stands s number (Left pair) f = f.is_pair
form_stands s number (Trimmed pair) f = f.is_pair
form_stands s number (Returned pair) f = f.is_pair

-- One version stands alone, and its table of the number has this shape.
calm_fits : (s : State) (found : Found) (shape : Shape) → s.mode ≡ Calm → ((table : Table) → table_on s Old (number_of found.table) ≡ Some table → shape ≡ shape_of table) → TableStands s found
    → (row : Kept) → SiteRow (λ lost. Unit {0}) (site_of s found) row → AloneFits Old shape row
calm_fits s found shape calm is stands row r =
    let number = number_of found.table in
    let none = calm_none s number calm in
    let old = subst (λ side. table_on s side number ≡ Some found.table) (alone_side s number Old found.side found.table none stands.on_side) stands.on_side in
    subst (λ shape. AloneFits Old shape row) (sym (is found.table old)) (alone_fits s found Old none stands row r)

pub storable : (s : State) (found : Found) → TableStands s found → ((both : Shared) → shared s (number_of found.table) ≡ Some both → PairStands s (number_of found.table) both) → (form : Form) (before : Option (List Value)) (row : Kept) → FormSuits s (number_of found.table) form
    → SiteRow (λ lost. Unit {0}) (site_of s found) row → HasNew (site_of s found).there row.halves → ((both : Shared) → shared s (number_of found.table) ≡ Some both → HalvesAgree both.lens row.halves) → WeighsOver form before row.lost → Storable form before row
storable s found stands pairs (Own side) before row f r h a w = let has = alone_fits s found side f stands row r in (record { values = has.values; halves = has.halves }, w)
storable s found stands pairs (Paired pair) before row f r h a w =
    let both = f.both in
    let there = ap (option_map (beside_on found.side)) f.shares in
    let have = both_has s found both f.shares (pairs both f.shares) stands row r in
    let some = new_there (site_of s found).there (beside_on found.side both) row.halves there h in
    (subst (λ (p : Pair). Together p row) (sym f.over) (together both row have some (a both f.shares)), w)
storable s found stands pairs (Left pair) before row f r h a w = (calm_fits s found pair.new f.calm f.shape stands row r, w.0, w.1)
storable s found stands pairs (Trimmed pair) before row f r h a w = (calm_fits s found pair.new f.calm f.shape stands row r, w)
storable s found stands pairs (Returned pair) before row f r h a w = (calm_fits s found pair.old f.calm f.shape stands row r, w.0, w.1)
