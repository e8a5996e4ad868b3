-- Without unique constraints no rows clash.
use Rattle.std.proofs.Common.{◌≡◌, ℤ, List, [], ◌∷◌, Bool, true, false, ◌||◌, Some, None, Option, refl, arith}
use Rattle.sql_base.specs.declared.shapes.Unique.{Unique}
use Rattle.row_rules.specs.Accept.{clashes, clashes_on, present, unique_cause}
use Rattle.row_rules.specs.Inner.{has_uniques, table_has_uniques}
use Rattle.row_rules.specs.Outcome.{first_some}
use Rattle.row_rules.specs.Site.{Beside, Site, other, shape_of}
use Rattle.row_rules.specs.Words.{Cause, Kept, Side}
use Rattle.std.specs.Option.{option_map, option_map_or}
use Rattle.std.proofs.lemmas.Bool.Decides.{nat_tests}
use Rattle.std.specs.Prelude.{length, nat_lt}

neither : (a b : Bool) → (a || b) ≡ false → (a ≡ false) × (b ≡ false)
neither true b h = cc
neither false b h = (refl, h)

none_of : (f : Unique → Option Cause) (uniques : List Unique) → nat_lt 0 (length uniques) ≡ false → first_some f uniques ≡ None
none_of f [] h = refl
none_of f (unique ∷ uniques) h = absurd (grind (arith, nat_tests, h))

none_there : (there : Option Beside) (side : Side) (rows : List Kept) (keys : List ℤ) → option_map_or (λ beside. table_has_uniques beside.table) there false ≡ false
    → clashes_on (option_map (λ beside. beside.table) there) side rows keys ≡ None
none_there None side rows keys h = refl
none_there (Some beside) side rows keys h = none_of (unique_cause (present side rows) keys) (shape_of beside.table).uniques h

pub no_clashes : (site : Site) (rows : List Kept) (keys : List ℤ) → has_uniques site ≡ false → clashes site rows keys ≡ None
no_clashes site rows keys h =
    let parts = neither (table_has_uniques site.here) (option_map_or (λ beside. table_has_uniques beside.table) site.there false) h in
    let here : clashes_on (Some site.here) site.side rows keys ≡ None = none_of (unique_cause (present site.side rows) keys) (shape_of site.here).uniques parts.0 in
    let there = none_there site.there (other site.side) rows keys parts.1 in
    rw here there
