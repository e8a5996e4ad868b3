-- A source and a sink in memory, as contracts see them.
use Rattle.std.specs.Prelude.{ℕ, List}

pub record SourceInMemory : Type 0 where
  -- the bytes that are still to be read
  pub left : List ℕ
  -- how many calls were made
  pub made : ℕ
  -- the numbers of the calls that are to fail, the first call being 0
  pub failing : List ℕ
  -- how many calls failed
  pub faults : ℕ

pub record SinkInMemory : Type 0 where
  -- the bytes that were written
  pub held : List ℕ
  -- for how many bytes more there is memory
  pub room : ℕ
  -- how many calls were made
  pub made : ℕ
  -- the numbers of the calls that are to fail, the first call being 0
  pub failing : List ℕ
  -- how many calls failed
  pub faults : ℕ
