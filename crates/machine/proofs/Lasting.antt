-- Which tables stay where a version goes, one after another.
use Rattle.std.proofs.Common.{◌≡◌, ◌∙◌, ℕ, ◌+◌, ◌<◌, List, ◌∷◌, true, false, refl, sym, ap, drop, get_or, is_some, length}
use Rattle.std.proofs.lemmas.List.{drop_more}
use Rattle.machine.specs.Migrate.{staying_table, staying_tables}
use Rattle.machine.specs.Words.{Fate, Kept, Schema, Side, table_numbered}

front : {X : Type 0} (xs : List X) (at : ℕ) (x : X) → at < length xs → x ≡ get_or xs at x → drop at xs ≡ x ∷ drop (at + 1) xs
front xs at x within is = drop_more xs at x within ∙ ap (λ first. first ∷ drop (at + 1) xs) (sym is)

-- A table that the version which stays has does.
pub stays : (gone : Side) (schema : Schema) (fates : List (ℕ × Fate)) (tables : List (ℕ × List Kept)) (at : ℕ) (table : ℕ × List Kept) →
    at < length tables → table ≡ get_or tables at table → is_some (table_numbered schema table.0) ≡ true →
    staying_tables gone schema fates (drop at tables) ≡ staying_table gone fates table ∷ staying_tables gone schema fates (drop (at + 1) tables)
stays gone schema fates tables at table within is has = rw (front tables at table within is) (rw has refl)

-- Another one doesn't.
pub goes : (gone : Side) (schema : Schema) (fates : List (ℕ × Fate)) (tables : List (ℕ × List Kept)) (at : ℕ) (table : ℕ × List Kept) →
    at < length tables → table ≡ get_or tables at table → is_some (table_numbered schema table.0) ≡ false →
    staying_tables gone schema fates (drop at tables) ≡ staying_tables gone schema fates (drop (at + 1) tables)
goes gone schema fates tables at table within is has = rw (front tables at table within is) (rw has refl)
