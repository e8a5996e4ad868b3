-- A keeper in memory, as contracts see it.
use Rattle.std.specs.Prelude.{ℕ, List}

pub record Kept : Type 0 where
  -- the records, in order
  pub records : List (List ℕ)
  -- for how many bytes of one more there is spare room
  pub room : ℕ
