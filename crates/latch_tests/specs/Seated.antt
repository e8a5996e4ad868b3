-- Seats of one place, before and after a thread has used them.
use Rattle.std.specs.Prelude.{◌≡◌, ℕ, List, [], ◌∷◌, Option}
use Rattle.atomic_table.specs.declared.shared.Seat.{Seat}
use Rattle.latch.specs.declared.view.View.{View}
use Rattle.latch.specs.Origin.{Origin}
use Rattle.latch.specs.Seats.{IsSeatOf, IsFree, places, seen}
use Rattle.latch_tests.specs.declared.callers.Told.{Told}
use Rattle.latch_tests.specs.declared.desk.Entry.{Entry}
use Rattle.latch_tests.specs.declared.desk.Desk.{Desk}
use Rattle.latch_tests.specs.Own.{IsTold, base_of}

abbrev pub DeskSeat : Type 0
DeskSeat = Seat (Option Desk) (View ℕ Entry)

-- a seat of this place that hasn't entered
pub record IsOne (latch : Origin Desk) (place : ℕ) (seat : DeskSeat) : Type 0 where
  pub own : IsSeatOf base_of latch seat
  pub free : IsFree seat
  pub one : places seat ≡ place ∷ []

-- a seat after it has added amounts
pub record HasAdded (latch : Origin Desk) (place : ℕ) (amounts : List ℕ) (old new : DeskSeat) (told : Told) : Type 0 where
  pub still : IsOne latch place new
  pub adds : IsTold place amounts (seen old) (seen new) told
