-- What seats know, and how it changes.
use Rattle.std.specs.Prelude.{ℕ, List, [], ◌∷◌, ◌++◌, length, Some, None}
use Rattle.latch.specs.declared.view.View.{View}
use Rattle.latch.specs.declared.view.Stage.{Stage}
use Rattle.latch.specs.declared.view.Stage.TheVariants.{Idle, Waiting, Turn, Ended}
use Rattle.latch.specs.Lists.{times, first_of, others_of, longer}

-- 1 at a stage with a number, and else 0
abbrev pub one_if_numbered : Stage → ℕ
one_if_numbered Idle = 0
one_if_numbered Waiting = 1
one_if_numbered Turn = 1
one_if_numbered Ended = 0

-- 0 at the end, and else 1
abbrev pub one_if_live : Stage → ℕ
one_if_live Idle = 1
one_if_live Waiting = 1
one_if_live Turn = 1
one_if_live Ended = 0

module _ {B I : Type 0} where
  -- 1 for a seat with a number, and else 0
  abbrev pub numbered : View B I → ℕ
  numbered v = one_if_numbered v.stage

  -- for how many places a seat stands
  abbrev pub breadth : View B I → ℕ
  breadth v = length v.places

  -- how often a seat stands for this place
  abbrev pub of_place : ℕ → View B I → ℕ
  of_place p v = times p v.places

  -- a seat that has done nothing yet
  abbrev pub fresh : List I → B → List ℕ → View B I
  fresh log base places = record { stage = Idle; number = 0; seen = log; kept = []; base = Some base; places = places; parts = [] }

  -- it has drawn the number n
  abbrev pub drawn : View B I → ℕ → View B I
  drawn v n = record v { stage = Waiting; number = n }

  -- it has its turn, and keeps the counted history
  abbrev pub turning : View B I → ℕ → List I → View B I
  turning v n log = record v { stage = Turn; number = n; kept = log }

  -- it has counted a history
  abbrev pub counting : View B I → List I → View B I
  counting v log = record v { seen = log; kept = log; parts = [] }

  -- it has no number
  abbrev pub idle : View B I → View B I
  idle v = record v { stage = Idle }

  abbrev pub standing_for : View B I → List ℕ → View B I
  standing_for v places = record v { places = places }

  -- a seat gives its first place up
  abbrev pub cut : View B I → View B I
  cut v = standing_for v (others_of v.places)

  -- and a new seat has it
  abbrev pub one_place : View B I → View B I
  one_place v = standing_for v (first_of v.places)

  -- the longer list, and the places of both; its parts are what each had
  abbrev pub merged : View B I → View B I → View B I
  merged v w = record v { seen = longer v.seen w.seen; places = v.places ++ w.places; parts = (v.seen, v.places) ∷ (w.seen, w.places) ∷ [] }

  -- a seat that another has taken in
  abbrev pub ended : View B I
  ended = record { stage = Ended; number = 0; seen = []; kept = []; base = None; places = []; parts = [] }

  -- it has been told of its parts
  abbrev pub settled : View B I → View B I
  settled v = record v { parts = [] }
