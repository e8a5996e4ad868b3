-- What each step tells the seat that makes it: of the step, the seat before, the number that it found and the seat after.
use Rattle.std.specs.Prelude.{◌≡◌, ◌≢◌, ℕ, ◌%◌, ◌^◌, List, ◌∷◌, length, Option, Some}
use Rattle.atomic_table.specs.Table.{Me, Step, rest}
use Rattle.latch.specs.declared.view.View.{View}
use Rattle.latch.specs.Lists.{Begins, BeginsAll}
use Rattle.latch.specs.Views.{drawn, turning, counting, idle, settled}

-- a seat's view, and the slots that it holds
abbrev pub Mine : Type 0 → Type 0 → Type 0 → Type 0
Mine T B I = Me (Option T) (View B I)

module _ {T B I : Type 0} where
  -- it has the number that the word had, which knows no end
  abbrev pub drew : Step (Option T) → Mine T B I → ℕ → Mine T B I → Type 0
  drew step m r m' = (n : ℕ) × (r ≡ n % 2 ^ 64) × (m' ≡ (drawn m.0 n, m.1))

  -- the word is the length of the history that it keeps
  abbrev pub tallied : Step (Option T) → Mine T B I → ℕ → Mine T B I → Type 0
  tallied step m r m' = (m' ≡ m) × (r ≡ length m.0.kept)

  -- it has no number, and the slot is at home
  abbrev pub passed : Step (Option T) → Mine T B I → ℕ → Mine T B I → Type 0
  passed step m r m' = m' ≡ (idle m.0, rest m.1)

  -- what a joined seat has seen begins with what each of its parts had seen
  abbrev pub recalled : (I → Option ℕ) → Step (Option T) → Mine T B I → ℕ → Mine T B I → Type 0
  recalled actor step m r m' = BeginsAll actor m.0.seen m.0.parts × (m' ≡ (settled m.0, m.1))

  -- the history is that of the value in the slot
  abbrev pub counted : (T → List I) → Step (Option T) → Mine T B I → ℕ → Mine T B I → Type 0
  counted listed step m r m' = (x : T) × (m.1 ≡ (0, Some x) ∷ rest m.1) × (m' ≡ (counting m.0 (listed x), m.1))

  module _ (listed : T → List I) (based : T → B) (actor : I → Option ℕ) where
    -- it is the seat's turn, and it takes the slot
    abbrev pub Takes : Mine T B I → Mine T B I → Type 0
    Takes m m' = (x : T) × (m' ≡ (turning m.0 m.0.number (listed x), (0, Some x) ∷ m.1)) × (m.0.base ≡ Some (based x)) × Begins actor m.0.places (listed x) m.0.seen

    abbrev pub looked : Step (Option T) → Mine T B I → ℕ → Mine T B I → Type 0
    looked step m r m' = (r ≡ m.0.number % 2 ^ 64 → Takes m m') × (r ≢ m.0.number % 2 ^ 64 → m' ≡ m)
