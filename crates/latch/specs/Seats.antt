-- What contracts say of seats.
use Rattle.std.specs.Prelude.{◌≡◌, ℕ, List, [], ◌∷◌, length, Option, Some, None}
use mathlib.Core.Option.{some}
use lib.ListN.{get_elem?}
use Rattle.atomic_table.specs.declared.shared.Seat.{Seat}
use Rattle.latch.specs.declared.view.View.{View}
use Rattle.latch.specs.declared.view.Stage.TheVariants.{Idle, Turn}
use Rattle.latch.specs.Lists.{Begins}
use Rattle.latch.specs.Origin.{Origin}

module _ {T B I : Type 0} where
  -- the places that a seat stands for
  abbrev pub places : Seat (Option T) (View B I) → List ℕ
  places s = s.me.0.places

  -- the list that a seat has seen
  abbrev pub seen : Seat (Option T) (View B I) → List I
  seen s = s.me.0.seen

  -- the list of the value that `enter` gave a seat
  abbrev pub given : Seat (Option T) (View B I) → List I
  given s = s.me.0.kept

  -- for how many places a seat stands
  abbrev pub width : Seat (Option T) (View B I) → ℕ
  width s = length s.me.0.places

  -- it is a seat of this latch, and knows the base of the value that the latch took
  abbrev pub IsSeatOf : (T → B) → Origin T → Seat (Option T) (View B I) → Type 0
  IsSeatOf based latch s = (s.table_id ≡ latch.table) × (s.me.0.base ≡ Some (based latch.first))

  -- it hasn't entered
  abbrev pub IsFree : Seat (Option T) (View B I) → Type 0
  IsFree s = (s.me.0.stage ≡ Idle) × (s.me.1 ≡ [])

  -- it has entered, and its caller has the value
  abbrev pub HasEntered : Seat (Option T) (View B I) → Type 0
  HasEntered s = (s.me.0.stage ≡ Turn) × (s.me.1 ≡ (0, None) ∷ [])

  -- it is the same seat of the same latch
  abbrev pub IsSameToken : Seat (Option T) (View B I) → Seat (Option T) (View B I) → Type 0
  IsSameToken old new = (new.table_id ≡ old.table_id) × (new.id ≡ old.id)

  -- it is the same seat, with the same places
  abbrev pub IsSameSeat : Seat (Option T) (View B I) → Seat (Option T) (View B I) → Type 0
  IsSameSeat old new = IsSameToken old new × (places new ≡ places old)

  -- a seat of this latch that has done nothing yet: it has this place, and has seen this list
  pub record IsNew (based : T → B) (latch : Origin T) (place : ℕ) (log : List I) (s : Seat (Option T) (View B I)) : Type 0 where
    pub own : IsSeatOf based latch s
    pub free : IsFree s
    pub has_place : places s ≡ place ∷ []
    pub has_seen : seen s ≡ log

  -- each of these has the place that it has in the list, and has done nothing yet
  abbrev pub AreNew : (T → B) → Origin T → List I → List (Seat (Option T) (View B I)) → Type 0
  AreNew based latch log all = (k : ℕ) (s : Seat (Option T) (View B I)) → get_elem? all k ≡ some s → IsNew based latch k log s

  -- the seats of a new latch
  pub record AreDealt (based : T → B) (latch : Origin T) (log : List I) (all : List (Seat (Option T) (View B I))) : Type 0 where
    pub long : length all ≡ latch.seats
    pub each : AreNew based latch log all

  -- each of these is a seat of the latch that hasn't entered
  abbrev pub AreFree : (T → B) → Origin T → List (Seat (Option T) (View B I)) → Type 0
  AreFree based latch all = (k : ℕ) (s : Seat (Option T) (View B I)) → get_elem? all k ≡ some s → IsSeatOf based latch s × IsFree s

  -- the log begins with what each seat has seen, and no entry past that carries a place of it
  abbrev pub BeginsEach : (I → Option ℕ) → List (Seat (Option T) (View B I)) → List I → Type 0
  BeginsEach actor all log = (k : ℕ) (s : Seat (Option T) (View B I)) → get_elem? all k ≡ some s → Begins actor (places s) log (seen s)
