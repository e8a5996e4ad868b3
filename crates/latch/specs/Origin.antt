-- A latch, as contracts see it.
use Rattle.std.specs.Prelude.{ℕ}
use Rattle.atomic_table.specs.Seated.{TableId}

-- which table it has, how many seats it was given, and the value that it took
pub record Origin (T : Type 0) : Type 0 where
  pub table : TableId
  pub seats : ℕ
  pub first : T
