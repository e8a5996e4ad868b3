-- The names of lanes.
use Rattle.std.specs.Prelude.{ℕ, List, Bool, not, nat_le, ◌&&◌, ◌||◌, ◌==◌, length, codes, is_none}
use Rattle.std.specs.List.{list_all}
use Rattle.std.specs.Str.{byte, bytes_eq}
use Rattle.script_text.specs.Script.{behind}

-- `a` to `z`, `0` to `9` and `_`
abbrev pub is_name_byte : ℕ → Bool
is_name_byte b =
    (nat_le 97 b && nat_le b 122) || (nat_le 48 b && nat_le b 57) || b == byte "_"

-- A name has 1 to 48 such bytes, which don't begin with `_pgroll_`. It may begin with a digit.
abbrev pub is_name : List ℕ → Bool
is_name text =
    not (length text == 0) && nat_le (length text) 48 && list_all is_name_byte text
    && is_none (behind (codes "_pgroll_") text)

-- what the lines of output call those that are no lanes
abbrev pub is_actor : List ℕ → Bool
is_actor text =
    bytes_eq text (codes "control") || bytes_eq text (codes "main") || bytes_eq text (codes "load")

-- a name that no other actor has
abbrev pub is_lane_name : List ℕ → Bool
is_lane_name text = is_name text && not (is_actor text)
