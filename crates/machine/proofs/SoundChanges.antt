-- Each row that a job puts was looked at, and nothing is wrong with it.
use Rattle.std.proofs.Common.{◌≡◌, ℕ, ℤ, List, [], ◌∷◌, Option, None, Ok, unwrap_or, subst}
use Rattle.std.specs.List.{AllByRecursion as Each}
use Rattle.sql_base.specs.Laws.{and_then_ok}
use Rattle.sql_base.specs.declared.values.Value.{Value}
use Rattle.row_rules.specs.Accept.{sound, wrong}
use Rattle.row_rules.specs.Causes.{value_cause}
use Rattle.row_rules.specs.Changes.{altered, altered_halves, altered_row, changes, new_row, remade}
use Rattle.row_rules.specs.Outcome.{map_fault}
use Rattle.row_rules.specs.Site.{Site, half, halves_on, key_of, other, other_half, shape_of, touched}
use Rattle.machine.specs.Sites.{OfPut}
use Rattle.machine.specs.Words.{Change, Expr, Job, Kept}
use Rattle.machine.specs.Words.job
use Rattle.machine.proofs.Accepting.{without_ok}
use Rattle.machine.proofs.Filling.{fills}
use Rattle.row_rules.specs.Made.{Makes, changes_made}
use Rattle.machine.proofs.Moving.{each}

-- Nothing is wrong with the row.
abbrev pub IsSound : Site → Kept → Type 0
IsSound site row = wrong site row ≡ None

remade_sound : (site : Site) (key : ℤ) (weight : ℕ) (before : Option (List Value)) (values : List Value) (row : Kept) → remade site key weight before values ≡ Ok row → IsSound site row
remade_sound site key weight before values row h =
    let step = and_then_ok (map_fault (value_cause key) (other_half site values before)) (λ other. sound site (record { key = key; halves = halves_on site.side values other; lost = weight })) row h in
    let made : Kept = record { key = key; halves = halves_on site.side values step.0; lost = weight } in
    let looked = without_ok (wrong site made) made row step.2 in
    subst (IsSound site) looked.1 looked.0

new_sound : (site : Site) (values : List Value) (row : Kept) → new_row site values ≡ Ok row → IsSound site row
new_sound site values row h = remade_sound site (key_of (shape_of site.here) values) site.lost None values row h

altered_sound : (site : Site) (sets : List (ℕ × Expr)) (row made : Kept) → altered_row site sets row ≡ Ok made → IsSound site made
altered_sound site sets row made h =
    let step = and_then_ok (map_fault (value_cause row.key) (touched site row.halves)) (altered_halves site sets row) made h in
    let values = and_then_ok (map_fault (value_cause row.key) (altered (shape_of site.here) sets (unwrap_or (half site.side step.0) []))) (λ values. remade site row.key row.lost (half (other site.side) step.0) values) made step.2 in
    remade_sound site row.key row.lost (half (other site.side) step.0) values.0 made values.2

sound_rows : (site : Site) (rows : List (List Value)) → Each (λ values. (row : Kept) → new_row site values ≡ Ok row → IsSound site row) rows
sound_rows site [] = tt
sound_rows site (values ∷ rows) = (new_sound site values, sound_rows site rows)

makes : (site : Site) (what : Job) → Makes (λ row. Unit {0}) (IsSound site) site what
makes site (job.Put rows) = sound_rows site rows
makes site (job.Alter sets condition) = λ row made b h. altered_sound site sets row made h
makes site (job.Remove condition) = tt
makes site job.Fill = λ row made b h. (fills site row made h).looked

pub changes_sound : (site : Site) (what : Job) (older : List Kept) (all : List Change) → changes site what older ≡ Ok all → Each (OfPut (IsSound site)) all
changes_sound site what older all h = changes_made (λ row. Unit {0}) (IsSound site) site what older all (makes site what) (each (λ row. Unit {0}) (λ row. tt) older) h
