-- The listing, a line at a time.
use Rattle.std.proofs.Common.{◌≡◌, ℕ, zero, suc, ◌+◌, ◌-◌, ◌/◌, ◌%◌, ◌<◌, eqb, List, [], ◌∷◌, ◌++◌, length, filter, sym, refl, ap, ◌∙◌, append_assoc, append-nil, arith}
use Rattle.std.specs.List.{flat_map, range_with_len}
use Rattle.std.proofs.lemmas.List.Concat.{flat_map-append}
use Rattle.row_gen.specs.Draws.{next_state, state_after}
use Rattle.row_gen.specs.Listing.{insert_person, statement, text_of}
use Rattle.row_gen.specs.Steps.{line_text, people_from, statements_from}

-- ---- lines

pub text_of-append : (a b : List (List ℕ)) → text_of (a ++ b) ≡ text_of a ++ text_of b
text_of-append a b = flat_map-append (λ line. line ++ 10 ∷ []) a b

-- the lines of the setup, pushed one after another
pub setup_pushed : (old a b c d out one two three last : List ℕ) (rows : List (List ℕ)) →
    a ≡ old ++ line_text one → b ≡ a ++ line_text two → c ≡ b ++ line_text three →
    d ≡ c ++ text_of rows → out ≡ d ++ line_text last →
    out ≡ old ++ text_of (one ∷ two ∷ three ∷ (rows ++ last ∷ []))
setup_pushed old a b c d out one two three last rows p q r s t =
    rw (t, s, r, q, p, text_of-append rows (last ∷ [])) (simp (append_assoc, append-nil))

-- the lines of the lanes, and two more
pub ends_pushed : (old a b out one two : List ℕ) (lanes : List (List ℕ)) →
    a ≡ old ++ text_of lanes → b ≡ a ++ line_text one → out ≡ b ++ line_text two →
    out ≡ old ++ text_of (lanes ++ one ∷ two ∷ [])
ends_pushed old a b out one two lanes p q r =
    rw (r, q, p, text_of-append lanes (one ∷ two ∷ [])) (simp (append_assoc, append-nil))

-- ---- rows

pub no_more_people : (state rows : ℕ) → people_from state (rows + 1) (rows + 1 - (rows + 1)) ≡ []
no_more_people state rows =
    let none : rows + 1 - (rows + 1) ≡ 0 = omega arith in rw none refl

-- the row of the next key
pub one_more_person : (out : List ℕ) (state key end : ℕ) → key < end →
    out ++ text_of (people_from state key (end - key))
    ≡ (out ++ line_text (insert_person key (next_state state / 65536) (next_state (next_state state) / 65536)))
    ++ text_of (people_from (next_state (next_state state)) (key + 1) (end - (key + 1)))
one_more_person out state key end h =
    let more : end - key ≡ suc (end - (key + 1)) = omega arith in
    rw more (sym (append_assoc out (line_text (insert_person key (next_state state / 65536) (next_state (next_state state) / 65536))) (text_of (people_from (next_state (next_state state)) (key + 1) (end - (key + 1))))))

-- ---- statements

draws_follow : (state n : ℕ) → state_after (next_state state) n ≡ state_after state (suc n)
draws_follow state zero = refl
draws_follow state (suc n) = ap next_state (draws_follow state n)

-- the keys of a lane from this one on
abbrev pub keys_from : ℕ → ℕ → ℕ → ℕ → List ℕ
keys_from key rows lanes lane = filter (λ k. eqb (k % lanes) lane) (range_with_len key (rows + 1 - key))

-- a key of the lane
pub one_more_key : (key rows lanes lane : ℕ) → key < rows + 1 → key % lanes ≡ lane →
    keys_from key rows lanes lane ≡ key ∷ keys_from (key + 1) rows lanes lane
one_more_key key rows lanes lane h e =
    let more : rows + 1 - key ≡ suc (rows + 1 - (key + 1)) = omega arith in
    rw more (grind (arith, e))

-- a key of another lane
pub one_less_key : (key rows lanes lane : ℕ) → key < rows + 1 → (key % lanes ≡ lane → ⊥) →
    keys_from key rows lanes lane ≡ keys_from (key + 1) rows lanes lane
one_less_key key rows lanes lane h e =
    let more : rows + 1 - key ≡ suc (rows + 1 - (key + 1)) = omega arith in
    rw more (grind (arith, e))

-- a statement is pushed
pub one_more_statement : (whole out now : List ℕ) (state key rows lanes lane : ℕ) → key < rows + 1 → key % lanes ≡ lane →
    now ≡ out ++ line_text (statement rows key (next_state state / 65536)) →
    out ++ text_of (statements_from state rows (keys_from key rows lanes lane)) ≡ whole →
    now ++ text_of (statements_from (next_state state) rows (keys_from (key + 1) rows lanes lane)) ≡ whole
one_more_statement whole out now state key rows lanes lane h e pushed before =
    let keys = one_more_key key rows lanes lane h e in
    let rest : List ℕ = text_of (statements_from (next_state state) rows (keys_from (key + 1) rows lanes lane)) in
    ap (λ bytes. bytes ++ rest) pushed ∙ append_assoc out (line_text (statement rows key (next_state state / 65536))) rest
    ∙ ap (λ ks. out ++ text_of (statements_from state rows ks)) (sym keys) ∙ before

-- and its draw is taken
pub one_more_draw : (state key rows lanes lane : ℕ) → key < rows + 1 → key % lanes ≡ lane →
    state_after (next_state state) (length (keys_from (key + 1) rows lanes lane))
    ≡ state_after state (length (keys_from key rows lanes lane))
one_more_draw state key rows lanes lane h e =
    draws_follow state (length (keys_from (key + 1) rows lanes lane))
    ∙ ap (λ ks. state_after state (length ks)) (sym (one_more_key key rows lanes lane h e))

pub no_more_keys : (rows lanes lane : ℕ) → keys_from (rows + 1) rows lanes lane ≡ []
no_more_keys rows lanes lane =
    let none : rows + 1 - (rows + 1) ≡ 0 = omega arith in rw none refl

-- ---- lanes

pub one_more_lane : (lines : ℕ → List (List ℕ)) (out : List ℕ) (lane lanes : ℕ) → lane < lanes →
    out ++ text_of (flat_map lines (range_with_len lane (lanes - lane)))
    ≡ (out ++ text_of (lines lane)) ++ text_of (flat_map lines (range_with_len (lane + 1) (lanes - (lane + 1))))
one_more_lane lines out lane lanes h =
    let more : lanes - lane ≡ suc (lanes - (lane + 1)) = omega arith in
    let rest : List (List ℕ) = flat_map lines (range_with_len (lane + 1) (lanes - (lane + 1))) in
    rw more (rw (text_of-append (lines lane) rest) (sym (append_assoc out (text_of (lines lane)) (text_of rest))))

pub no_more_lanes : (lines : ℕ → List (List ℕ)) (lanes : ℕ) → flat_map lines (range_with_len lanes (lanes - lanes)) ≡ []
no_more_lanes lines lanes =
    let none : lanes - lanes ≡ 0 = omega arith in rw none refl
