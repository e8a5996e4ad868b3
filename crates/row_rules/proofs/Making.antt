-- A row that is made and then looked at.
use Rattle.std.proofs.Common.{◌≡◌, ℕ, ℤ, List, [], Option, None, Result, Ok, Err, refl, subst}
use Rattle.std.specs.Prelude.{unwrap_or}
use Rattle.sql_base.specs.Outcome.{and_then}
use Rattle.row_rules.specs.Accept.{sound}
use Rattle.row_rules.specs.Causes.{value_cause}
use Rattle.row_rules.specs.Changes.{altered, new_row, remade}
use Rattle.row_rules.specs.Inner.{altered_half, made}
use Rattle.row_rules.specs.Outcome.{Answers, map_fault}
use Rattle.row_rules.specs.Site.{Site, half, halves_on, key_of, other_half, shape_of}
use Rattle.row_rules.specs.Words.{Cause, Expr, Halves, Kept, Value}
use Rattle.row_rules.specs.declared.stops.Stop.{Stop}

pub made_then_sound : (site : Site) (key : ℤ) (lost : ℕ) (before : Option (List Value)) (half : List Value) →
    remade site key lost before half ≡ and_then (made site key lost before half) (sound site)
made_then_sound site key lost before half = by_other (map_fault (value_cause key) (other_half site half before))
  where
    by_other : (other : Result (Option (List Value)) Cause) →
        and_then other (λ other. sound site (record { key = key; halves = halves_on site.side half other; lost = lost }))
        ≡ and_then (and_then other (λ other. Ok (record { key = key; halves = halves_on site.side half other; lost = lost }))) (sound site)
    by_other (Ok other) = refl
    by_other (Err cause) = refl

pub new_from : (site : Site) (key : ℤ) (values copy : List Value) (r : Result Kept (Stop Cause)) → key ≡ key_of (shape_of site.here) values → copy ≡ values
    → Answers (remade site key site.lost None copy) r → Answers (new_row site values) r
new_from site key values copy r k v h =
    subst (λ key. Answers (remade site key site.lost None values) r) k (subst (λ copy. Answers (remade site key site.lost None copy) r) v h)

-- The same with a key and halves that are equal.
pub remade_same : (site : Site) (key found : ℤ) (lost : ℕ) (before beside : Option (List Value)) (values : List Value) (r : Result Kept (Stop Cause)) → found ≡ key → beside ≡ before
    → Answers (remade site found lost beside values) r → Answers (remade site key lost before values) r
remade_same site key found lost before beside values r k b h =
    subst (λ key. Answers (remade site key lost before values) r) k (subst (λ before. Answers (remade site found lost before values) r) b h)

pub altered_same : (site : Site) (sets : List (ℕ × Expr)) (row : Kept) (halves : Halves) (found : ℤ) (before : List Value) (r : Result (List Value) (Stop Cause)) → found ≡ row.key
    → before ≡ unwrap_or (half site.side halves) [] → Answers (map_fault (value_cause found) (altered (shape_of site.here) sets before)) r → Answers (altered_half site sets row halves) r
altered_same site sets row halves found before r k b h =
    subst (λ key. Answers (map_fault (value_cause key) (altered (shape_of site.here) sets (unwrap_or (half site.side halves) []))) r) k
    (subst (λ before. Answers (map_fault (value_cause found) (altered (shape_of site.here) sets before)) r) b h)
