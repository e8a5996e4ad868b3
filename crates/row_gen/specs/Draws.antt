-- The draws of a workload. Which they are is our own.
use Rattle.std.specs.Prelude.{ℕ, zero, suc, ◌+◌, ◌*◌, ◌/◌, ◌%◌}

-- The state that follows a state. The first one is the number of the workload.
unfoldable pub next_state : ℕ → ℕ
next_state state = (state * 1103515245 + 12345) % 2147483648

-- the state after so many draws
abbrev pub state_after : ℕ → ℕ → ℕ
state_after number zero = number
state_after number (suc draws) = next_state (state_after number draws)

-- The draw of this place, from 1: the state after it, without its lower 16 bits.
abbrev pub draw : ℕ → ℕ → ℕ
draw number place = state_after number place / 65536
