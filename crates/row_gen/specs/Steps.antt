-- For the code: the listing, a line at a time.
use Rattle.std.specs.Prelude.{ℕ, zero, suc, ◌+◌, ◌/◌, List, [], ◌∷◌, ◌++◌, codes, length}
use Rattle.row_gen.specs.Draws.{next_state, state_after}
use Rattle.row_gen.specs.Listing.{insert_person, keys_of, lane_head, statement, text_of}

-- a line with its newline
abbrev pub line_text : List ℕ → List ℕ
line_text line = line ++ codes "\n"

-- the rows of so many keys, from this one on, where the draws have come to this state
abbrev pub people_from : ℕ → ℕ → ℕ → List (List ℕ)
people_from state key zero = []
people_from state key (suc more) =
    insert_person key (next_state state / 65536) (next_state (next_state state) / 65536)
    ∷ people_from (next_state (next_state state)) (key + 1) more

-- The statements on these keys, where the draws have come to this state
abbrev pub statements_from : ℕ → ℕ → List ℕ → List (List ℕ)
statements_from state rows [] = []
statements_from state rows (key ∷ keys) =
    statement rows key (next_state state / 65536) ∷ statements_from (next_state state) rows keys

-- the text of a lane's statements, where the draws have come to this state
abbrev pub statements_text : ℕ → ℕ → ℕ → ℕ → List ℕ
statements_text state rows lanes lane = text_of (statements_from state rows (keys_of rows lanes lane))

-- and of the whole lane
abbrev pub lane_text : ℕ → ℕ → ℕ → ℕ → List ℕ
lane_text state rows lanes lane = line_text (lane_head lane) ++ statements_text state rows lanes lane

-- the state that the draws of a lane leave
abbrev pub state_behind : ℕ → ℕ → ℕ → ℕ → ℕ
state_behind state rows lanes lane = state_after state (length (keys_of rows lanes lane))
