-- The listing by its draws, and the same a line at a time.
use Rattle.std.proofs.Common.{◌≡◌, ℕ, zero, suc, ◌+◌, ◌-◌, ◌*◌, ◌/◌, ◌%◌, eqb, ltb, List, [], ◌∷◌, length, filter, map, sym, refl, ap, ◌∙◌, add-one, add-zero, add-suc, arith}
use Rattle.std.proofs.lemmas.Bool.Decides.{nat_tests}
use Rattle.std.specs.List.{enumerate_from, range_with_len}
use Rattle.row_gen.specs.Draws.{draw, next_state, state_after}
use Rattle.row_gen.specs.Listing.{insert_person, keys_before, keys_of, lane_head, lane_lines, person, statement}
use Rattle.row_gen.specs.Steps.{people_from, statements_from}

-- The rows of the setup.
pub people_are : (number before rows : ℕ) →
    map (person number) (range_with_len (suc before) rows) ≡ people_from (state_after number (2 * before)) (suc before) rows
people_are number before zero = refl
people_are number before (suc rows) =
    let first : 2 * suc before - 1 ≡ suc (2 * before) = omega arith in
    let second : 2 * suc before ≡ suc (suc (2 * before)) = omega arith in
    let more = rw second at (people_are number (suc before) rows) in
    let s : ℕ = state_after number (2 * before) in
    rw (first, second, add-one (suc before))
    (ap (λ lines. insert_person (suc before) (next_state s / 65536) (next_state (next_state s) / 65536) ∷ lines) more)

-- The statements on these keys.
pub statements_are : (number taken rows : ℕ) (keys : List ℕ) →
    map (λ (place, key). statement rows key (draw number place)) (enumerate_from (taken + 1) keys)
    ≡ statements_from (state_after number taken) rows keys
statements_are number taken rows [] = refl
statements_are number taken rows (key ∷ keys) =
    rw (add-one taken)
    (ap (λ lines. statement rows key (next_state (state_after number taken) / 65536) ∷ lines) (statements_are number (suc taken) rows keys))

-- Draws behind draws.
pub states_join : (number a b : ℕ) → state_after (state_after number a) b ≡ state_after number (a + b)
states_join number a zero = rw add-zero refl
states_join number a (suc b) = rw add-suc (ap next_state (states_join number a b))

-- The keys of the lanes before the next lane.
pub keys_more : (lanes lane : ℕ) (keys : List ℕ) →
    length (filter (λ key. ltb (key % lanes) (lane + 1)) keys)
    ≡ length (filter (λ key. ltb (key % lanes) lane) keys) + length (filter (λ key. eqb (key % lanes) lane) keys)
keys_more lanes lane [] = refl
keys_more lanes lane (key ∷ keys) = let more = keys_more lanes lane keys in grind (arith, nat_tests, more)

pub no_key : (lanes : ℕ) (keys : List ℕ) → filter (λ key. ltb (key % lanes) 0) keys ≡ []
no_key lanes [] = refl
no_key lanes (key ∷ keys) = let more = no_key lanes keys in grind (arith, nat_tests, more)

-- A lane, where the draws have come to it.
pub lane_is : (number state rows lanes lane : ℕ) → state ≡ state_after number (keys_before rows lanes lane) →
    lane_lines number rows lanes lane ≡ lane_head lane ∷ statements_from state rows (keys_of rows lanes lane)
lane_is number state rows lanes lane h =
    ap (λ lines. lane_head lane ∷ lines)
    (statements_are number (keys_before rows lanes lane) rows (keys_of rows lanes lane)
    ∙ ap (λ s. statements_from s rows (keys_of rows lanes lane)) (sym h))

-- The draws have come to the next lane.
pub states_more : (number state next rows lanes lane : ℕ) → state ≡ state_after number (keys_before rows lanes lane) →
    next ≡ state_after state (length (keys_of rows lanes lane)) →
    next ≡ state_after number (keys_before rows lanes (lane + 1))
states_more number state next rows lanes lane h e =
    e ∙ ap (λ s. state_after s (length (keys_of rows lanes lane))) h
    ∙ states_join number (keys_before rows lanes lane) (length (keys_of rows lanes lane))
    ∙ ap (state_after number) (sym (keys_more lanes lane (range_with_len 1 rows)))
