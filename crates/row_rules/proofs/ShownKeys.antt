-- That rows which stand show their keys.
use Rattle.std.proofs.Common.{◌≡◌, ◌∙◌, ℕ, zero, suc, ℤ, List, [], ◌∷◌, true, Option, Some, None, ap, map, arith}
use Rattle.std.specs.Prelude.{slice_get, slice_index_or, unwrap_or}
use Rattle.std.proofs.lemmas.Bool.Decides.{nat_tests}
use Rattle.sql_base.specs.Fit.{fits_columns, is_integer}
use Rattle.sql_base.specs.Laws.{both}
use Rattle.sql_base.specs.declared.values.Value.TheVariants.{Bool as Truth, Text}
use Rattle.mig_lens.specs.declared.columns.Cell.{Cell}
use Rattle.mig_lens.specs.declared.columns.Cell.TheVariants.{Carry, Make, Still}
use Rattle.mig_lens.specs.Lens.{is_carried_from, unfilled_value}
use Rattle.row_rules.specs.InReach.{HasHalf, IsHalf, NewStands, SideStands, StandingShowKeys, UnfilledStands}
use Rattle.row_rules.specs.Site.{Beside, integer, shape_of, shown_by, shown_unfilled}
use Rattle.row_rules.specs.Words.{Int, Kept, New, Null, Old, Side, Table, Value}

integer_there : (values : List Value) (k : ℕ) (key : ℤ) → is_integer (slice_index_or values k Null) ≡ true → integer (slice_get values k) ≡ key → slice_index_or values k Null ≡ Int key
integer_there [] k key h e = cc
integer_there (Int n ∷ values) zero key h e = ap Int e
integer_there (Null ∷ values) zero key h e = cc
integer_there (Text t ∷ values) zero key h e = cc
integer_there (Truth b ∷ values) zero key h e = cc
integer_there (v ∷ values) (suc k) key h e = integer_there values k key h e

half_shows : (table : Table) (key : ℤ) (values : List Value) → IsHalf table key values → slice_index_or values (shape_of table).key Null ≡ Int key
half_shows table key values half =
    integer_there values (shape_of table).key key (both (fits_columns (shape_of table).columns values) (is_integer (slice_index_or values (shape_of table).key Null)) half.fits).1 half.has_key

-- What is shown of a column that carries an old one is that one's value.
carried_shows : (old : List Value) (cells : List Cell) (i j : ℕ) → is_carried_from j (slice_get cells i) ≡ true → slice_index_or (map (unfilled_value old) cells) i Null ≡ slice_index_or old j Null
carried_shows old [] i j h = cc
carried_shows old (Carry at ∷ cells) zero j h =
    let same : at ≡ j = grind (arith, nat_tests) in
    ap (λ n. slice_index_or old n Null) same
carried_shows old (Make expr ∷ cells) zero j h = cc
carried_shows old (Still value ∷ cells) zero j h = cc
carried_shows old (cell ∷ cells) (suc i) j h = carried_shows old cells i j h

old_shows : (table : Table) (key : ℤ) (half : Option (List Value)) → HasHalf table key half → slice_index_or (unwrap_or half []) (shape_of table).key Null ≡ Int key
old_shows table key None h = absurd h
old_shows table key (Some values) h = half_shows table key values h

shows : (side : Side) (here : Table) (there : Option Beside) (row : Kept) → SideStands side here there row → slice_index_or (shown_by there side row.halves) (shape_of here).key Null ≡ Int row.key
shows Old here there row stands = old_shows here row.key row.halves.old stands
shows New here there row stands = by_half row.halves.new stands
  where
    unfilled_shows : (beside : Option Beside) → UnfilledStands here beside row.key row.halves.old → slice_index_or (shown_unfilled beside row.halves) (shape_of here).key Null ≡ Int row.key
    unfilled_shows None h = absurd h
    unfilled_shows (Some beside) h =
        carried_shows (unwrap_or row.halves.old []) beside.lens.new_cols (shape_of here).key (shape_of beside.table).key h.carried
        ∙ old_shows beside.table row.key row.halves.old h.half

    by_half : (half : Option (List Value)) → NewStands here there row.key row.halves.old half → slice_index_or (unwrap_or half (shown_unfilled there row.halves)) (shape_of here).key Null ≡ Int row.key
    by_half None h = unfilled_shows there h
    by_half (Some values) h = half_shows here row.key values h

pub standing_show_keys : StandingShowKeys
standing_show_keys site [] stand = tt
standing_show_keys site (row ∷ rows) stand = (shows site.side site.here site.there row stand.0, standing_show_keys site rows stand.1)
