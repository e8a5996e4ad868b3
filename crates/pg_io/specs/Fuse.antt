-- A disk that fails for good after some calls, as contracts see it.
use Rattle.std.specs.Prelude.{◌≡◌, ℕ, ◌-◌, ◌<◌, Result, OnErr, IsErr}
use Rattle.pg_io.specs.Causes.{Rose}

pub record Fused (D : Type 0) : Type 0 where
  -- the disk that the calls go to
  pub inner : D
  -- how many calls it lets pass yet
  pub left : ℕ
  -- how many calls it has failed itself
  pub blown : ℕ

-- what a meaning says of the disk behind
abbrev pub behind {ℓ} : {D : Type 0} {X : Type ℓ} → (D → X) → Fused D → X
behind meaning f = meaning f.inner

-- Where no call is left the disk behind isn't called, and the call fails. Else one call fewer is left, and the call
-- fails only where the disk behind did.
pub record Burns {D T E : Type 0} (faults : D → ℕ) (old new : Fused D) (result : Result T E) : Type 0 where
  pub left : new.left ≡ old.left - 1
  pub spent : old.left ≡ 0 → IsErr result × (new.inner ≡ old.inner)
  pub passed : 0 < old.left → OnErr result (Rose (faults old.inner) (faults new.inner)) × (new.blown ≡ old.blown)
