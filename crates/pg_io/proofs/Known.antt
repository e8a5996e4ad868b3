-- Steps of writing a whole piece.
use Rattle.std.proofs.Common.{◌≡◌, ◌≢◌, ℕ, ◌+◌, ◌-◌, ◌<◌, ◌≤◌, List, [], ◌++◌, length, take, drop, ap, arith, length-drop}
use Rattle.std.proofs.lemmas.List.{take_rest, drop-take, take-take, take-append-drop}

-- what a write that took n bytes adds to a front
pub take_step : (xs : List ℕ) (w n : ℕ) → w + n ≤ length xs → take w xs ++ take n (take (length xs - w) (drop w xs)) ≡ take (w + n) xs
take_step xs w n h =
    rw (take_rest xs w, ← drop-take w n xs, ← take-take w (w + n) xs (omega arith)) (take-append-drop w (take (w + n) xs))

-- something is missing behind a front that isn't all
pub rest_missing : (xs : List ℕ) (w : ℕ) → w < length xs → drop w xs ≢ []
rest_missing xs w h e = absurd (omega (arith, length-drop w xs, ap length e))
