-- The latch's rule: what is so of the words, the slot and the seats' views between any two steps.
-- Word 0 is the ticket, the number that the next seat draws. Word 1 is the number that is served. Word 2 is the count of the history's entries. The rule's numbers have no end, and the words have them modulo 2 ^ 64.
use Rattle.std.specs.Prelude.{◌≡◌, ℕ, zero, suc, ◌+◌, ◌%◌, ◌^◌, ◌<◌, ◌≤◌, List, [], length, slice_index, Option, Some}
use mathlib.Core.Option.{some}
use lib.ListN.{get_elem?}
use Rattle.atomic_table.specs.Table.{State}
use Rattle.latch.specs.declared.view.View.{View}
use Rattle.latch.specs.declared.view.Stage.{Stage}
use Rattle.latch.specs.declared.view.Stage.TheVariants.{Idle, Waiting, Turn, Ended}
use Rattle.latch.specs.Lists.{total, times, upward, Begins, BeginsAll}
use Rattle.latch.specs.Views.{one_if_live, numbered, breadth, of_place}

module _ {B I : Type 0} (actor : I → Option ℕ) where
  module _ (ticket serving owner : ℕ) (log : List I) (base : B) (j : ℕ) (v : View B I) where
    -- A seat that hasn't ended knows the base. One that waits has a number that was drawn and isn't past. One that knows its turn has the number that is served, has the slot, and keeps the counted history. One that has ended stands for no place
    abbrev pub InStage : Stage → Type 0
    InStage Idle = v.base ≡ Some base
    InStage Waiting = (serving ≤ v.number) × (v.number < ticket) × (v.base ≡ Some base)
    InStage Turn = (v.number ≡ serving) × (owner ≡ suc j) × (v.kept ≡ log) × (v.base ≡ Some base)
    InStage Ended = v.places ≡ []

    -- what the seat j knows is so
    pub record Fits : Type 0 where
      -- the counted history begins with what the seat has seen, and no entry past that carries a place of the seat
      pub begins : Begins actor v.places log v.seen
      -- a seat that hasn't ended has a place
      pub placed : one_if_live v.stage ≤ length v.places
      pub stage : InStage v.stage
      -- the same of the two seats that it was made of, until it has been told so
      pub joined : BeginsAll actor v.seen v.parts

module _ {T B I : Type 0} (listed : T → List I) (based : T → B) (actor : I → Option ℕ) where
  -- The slot's home. Owner 0: it is there, with a value that stands for the counted history and the base. Owner k + 1: it is out with the seat k, which knows its turn
  abbrev pub AtHome : List I → B → State (Option T) (View B I) → ℕ → Type 0
  AtHome log base s zero = (x : T) × (get_elem? s.homes 0 ≡ some (some (Some x))) × (listed x ≡ log) × (based x ≡ base)
  AtHome log base s (suc k) = (v : View B I) × (get_elem? s.views k ≡ some v) × (v.stage ≡ Turn)

  pub record InTurn (seats : ℕ) (s : State (Option T) (View B I)) : Type 0 where
    pub ticket : ℕ
    pub serving : ℕ
    pub owner : ℕ
    -- the counted history
    pub log : List I
    -- the one base
    pub base : B
    pub wide : length s.words ≡ 3
    pub ticket_is : slice_index s.words 0 ≡ ticket % 2 ^ 64
    pub serving_is : slice_index s.words 1 ≡ serving % 2 ^ 64
    pub count_is : slice_index s.words 2 ≡ length log
    -- as many seats have a number as are drawn and not past
    pub numbers : ticket ≡ serving + total numbered s.views
    -- and no two have the same
    pub apart : (i j : ℕ) (v w : View B I) → get_elem? s.views i ≡ some v → get_elem? s.views j ≡ some w → numbered v ≡ 1 → numbered w ≡ 1 → v.number ≡ w.number → i ≡ j
    -- the places are those below the number of seats, each given out once
    pub shared : (p : ℕ) → total (of_place p) s.views ≡ times p (upward 0 seats)
    pub whole : total breadth s.views ≡ seats
    pub few : total breadth s.views < 2 ^ 64
    pub each_seat : (j : ℕ) (v : View B I) → get_elem? s.views j ≡ some v → Fits actor ticket serving owner log base j v
    pub home : AtHome log base s owner
