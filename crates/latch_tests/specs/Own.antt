-- The entries of one seat in a history, and what a caller was told of them.
use Rattle.std.specs.Prelude.{◌≡◌, ℕ, ◌==◌, ◌≤◌, Bool, false, List, [], ◌∷◌, ◌++◌, length, take, Option, Some, None, if◌then◌else◌}
use Rattle.latch_tests.specs.declared.callers.Told.{Told}
use Rattle.latch_tests.specs.declared.desk.Entry.{Entry}
use Rattle.latch_tests.specs.declared.desk.Desk.{Desk}

abbrev pub base_of : Desk → ℕ
base_of d = d.base

abbrev pub actor_of : Entry → Option ℕ
actor_of e = e.actor

abbrev pub carries : ℕ → Option ℕ → Bool
carries p None = false
carries p (Some q) = q == p

-- the entries that carry this place
abbrev pub own : ℕ → List Entry → List Entry
own p [] = []
own p (e ∷ es) = if carries p e.actor then e ∷ own p es else own p es

-- the entries of a place with these amounts
abbrev pub entries : ℕ → List ℕ → List Entry
entries place [] = []
entries place (n ∷ ns) = record { actor = Some place; amount = n } ∷ entries place ns

-- a seat that had seen one list has seen another now, which goes on from it and has as many of the amounts more as were added
pub record IsTold (place : ℕ) (amounts : List ℕ) (before now : List Entry) (told : Told) : Type 0 where
  pub few : told.added ≤ length amounts
  pub long : length now ≡ told.seen
  pub order : (between : List Entry) × (now ≡ before ++ between)
  pub more : own place now ≡ own place before ++ entries place (take told.added amounts)

-- of this place the history has the amounts that were added and no others, and the list that the seat has seen is a beginning of it, which has them all
pub record IsWhole (place : ℕ) (amounts : List ℕ) (told : Told) (log : List Entry) : Type 0 where
  pub mine : own place log ≡ entries place (take told.added amounts)
  pub begins : (before : List Entry) × (after : List Entry) × (log ≡ before ++ after) × (length before ≡ told.seen) × (own place before ≡ own place log)
