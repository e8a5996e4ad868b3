-- A table as a statement meets it, and the halves of its rows.
--
-- A client sees a table through a version. While a migration is active two versions stand, the old side and the new side, and a row has a half for each version that has its table; in a table that both have, the new half may be missing until the row is filled. That both are usable meanwhile is pgroll's (its documentation, How pgroll works). While no migration is active one version stands, and it is the old side.
use Rattle.std.specs.Prelude.{ℕ, ℤ, List, [], Bool, Option, Some, None, Result, Ok, is_none, unwrap_or, slice_get, pos, if◌then◌else◌}
use Rattle.std.specs.Option.{option_map, option_map_or}
use Rattle.row_rules.specs.declared.sites.BesideRef.{BesideRef}
use Rattle.row_rules.specs.declared.sites.SiteRef.{SiteRef}
use Rattle.row_rules.specs.Words.{EvalFault, Halves, Int, Kept, Lens, New, Old, Shape, Side, Table, Value, and_then, backward, forward, unfilled}

-- ---- tables

-- A table of a version is its name, its number and its shape.
abbrev pub name_of : Table → List ℕ
name_of table = table.0

abbrev pub number_of : Table → ℕ
number_of table = table.1

abbrev pub shape_of : Table → Shape
shape_of table = table.2

-- What the other version has of a table that both have, and the lens between the old shape and the new one.
pub record Beside : Type 0 where
  pub table : Table
  pub lens : Lens

-- A table as a statement meets it: the side that it goes through, what that version has of it, and what the other one has, where both have it; and the lost weight of a new row, which is the number of columns that are lost with the version that is gone, while steps of tidying are left.
pub record Site : Type 0 where
  pub side : Side
  pub here : Table
  pub there : Option Beside
  pub lost : ℕ

abbrev pub beside_of : BesideRef → Beside
beside_of lent = record { table = lent.table.now; lens = lent.lens.now }

-- The site that is lent to a call.
abbrev pub site_of : SiteRef → Site
site_of lent = record { side = lent.side; here = lent.here.now; there = option_map beside_of lent.there; lost = lent.lost }

abbrev pub other : Side → Side
other Old = New
other New = Old

-- ---- halves

-- The half of a row that a side has.
abbrev pub half : Side → Halves → Option (List Value)
half Old halves = halves.old
half New halves = halves.new

-- The halves of a row that has this half on a side, and on the other one that half, where it has any.
abbrev pub halves_on : Side → List Value → Option (List Value) → Halves
halves_on Old here there = record { old = Some here; new = there }
halves_on New here there = record { old = there; new = Some here }

-- The integer at the key's place of a row. A row that fits its shape has one; else it is 0.
abbrev pub integer : Option Value → ℤ
integer (Some (Int n)) = n
integer _ = pos 0

abbrev pub key_of : Shape → List Value → ℤ
key_of shape values = integer (slice_get values shape.key)

abbrev pub is_missing : Kept → Bool
is_missing row = is_none row.halves.new

-- ---- what a row shows

-- What the new version shows of a row whose new half is missing.
abbrev pub shown_unfilled : Option Beside → Halves → List Value
shown_unfilled there halves = option_map_or (λ beside. unfilled beside.lens (unwrap_or halves.old [])) there []

-- A row shows the side's half. (A half is missing only on the new side of a table that both versions have.)
abbrev pub shown_by : Option Beside → Side → Halves → List Value
shown_by there Old halves = unwrap_or halves.old []
shown_by there New halves = unwrap_or halves.new (shown_unfilled there halves)

abbrev pub shown : Site → Halves → List Value
shown site halves = shown_by site.there site.side halves

-- ---- how halves are made

-- The other half of a row, which the lens makes of the half that is written and of the other one as it was, where there was one.
abbrev pub half_beside : Side → Shape → Beside → List Value → Option (List Value) → Result (List Value) EvalFault
half_beside Old shape beside half before = forward beside.lens shape half before
half_beside New shape beside half before = backward beside.lens shape half before

-- There is none where the other version doesn't have the table.
abbrev pub other_half : Site → List Value → Option (List Value) → Result (Option (List Value)) EvalFault
other_half site half before =
    option_map_or (λ beside. and_then (half_beside site.side (shape_of site.here) beside half before) (λ made. Ok (Some made))) site.there (Ok None)

-- A new half that is missing is made of the old one, without one before.
abbrev pub filled : Beside → Halves → Result Halves EvalFault
filled beside halves =
    and_then (forward beside.lens (shape_of beside.table) (unwrap_or halves.old []) None) (λ made. Ok (record halves { new = Some made }))

abbrev pub filled_beside : Beside → Halves → Result Halves EvalFault
filled_beside beside halves = if is_none halves.new then filled beside halves else Ok halves

-- The halves that a write through a side begins with: through the new version a missing new half is made first.
abbrev pub touched_by : Option Beside → Side → Halves → Result Halves EvalFault
touched_by there Old halves = Ok halves
touched_by there New halves = option_map_or (λ beside. filled_beside beside halves) there (Ok halves)

abbrev pub touched : Site → Halves → Result Halves EvalFault
touched site halves = touched_by site.there site.side halves
