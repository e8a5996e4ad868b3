-- The first line of a text.
use Rattle.std.proofs.Common.{◌≡◌, ◌≢◌, ℕ, suc, ◌+◌, ◌-◌, ◌<◌, Bool, true, false, ◌&&◌, cond, eqb, List, [], ◌∷◌, ◌++◌, length, get_or, take, drop, sym, refl, ap, ◌∙◌, arith}
use Rattle.std.proofs.lemmas.Bool.{ne_eqb}
use Rattle.std.proofs.lemmas.List.{take-append-drop, drop_more, get_or-take}
use Rattle.std.proofs.Common.{length-take}
use Rattle.std.specs.List.{onto_first}
use Rattle.script_text.specs.Input.{split_lines, begins_with}
use Rattle.script_text.specs.Steps.{trimmed}

-- no newline is in it
abbrev pub Lacks : List ℕ → Type 0
Lacks bytes = (k : ℕ) → k < length bytes → eqb (get_or bytes k 0) 10 ≡ false

lacks_tail : (b : ℕ) (bytes : List ℕ) → Lacks (b ∷ bytes) → Lacks bytes
lacks_tail b bytes h k l = h (suc k) (omega arith)

and_false : (t : Bool) → (t && false) ≡ false
and_false true = refl
and_false false = refl

chosen : (t : Bool) (b : ℕ) (rest : List (List ℕ)) → cond (t && true) ([] ∷ rest) ((b ∷ []) ∷ rest) ≡ cond t [] (b ∷ []) ∷ rest
chosen true b rest = refl
chosen false b rest = refl

step_return : (b : ℕ) (rest : List ℕ) → eqb b 10 ≡ false → split_lines (b ∷ 10 ∷ rest) ≡ trimmed (b ∷ []) ∷ split_lines rest
step_return b rest h = rw h (chosen (eqb b 13) b (split_lines rest))

step_other : (b : ℕ) (bytes : List ℕ) → eqb b 10 ≡ false → begins_with 10 bytes ≡ false → split_lines (b ∷ bytes) ≡ onto_first b (split_lines bytes)
step_other b bytes h k = rw (h, k, and_false (eqb b 13)) refl

-- a line with its newline
pub split_at : (front rest : List ℕ) → Lacks front → split_lines (front ++ 10 ∷ rest) ≡ trimmed front ∷ split_lines rest
split_at [] rest h = refl
split_at (b ∷ []) rest h = step_return b rest (h 0 (omega arith))
split_at (b ∷ c ∷ front) rest h =
    step_other b (c ∷ (front ++ 10 ∷ rest)) (h 0 (omega arith)) (h 1 (omega arith))
    ∙ ap (onto_first b) (split_at (c ∷ front) rest (lacks_tail b (c ∷ front) h))

-- the last line without one
pub split_last : (b : ℕ) (bytes : List ℕ) → Lacks (b ∷ bytes) → split_lines (b ∷ bytes) ≡ (b ∷ bytes) ∷ []
split_last b [] h = step_other b [] (h 0 (omega arith)) refl
split_last b (c ∷ bytes) h =
    step_other b (c ∷ bytes) (h 0 (omega arith)) (h 1 (omega arith)) ∙ ap (onto_first b) (split_last c bytes (lacks_tail b (c ∷ bytes) h))

pub split_whole : (bytes : List ℕ) → 0 < length bytes → Lacks bytes → split_lines bytes ≡ bytes ∷ []
split_whole [] l h = absurd (omega arith)
split_whole (b ∷ bytes) l h = split_last b bytes h

pub split_place : (bytes : List ℕ) (at : ℕ) → at < length bytes → ((k : ℕ) → k < at → eqb (get_or bytes k 0) 10 ≡ false) → get_or bytes at 0 ≡ 10 → split_lines bytes ≡ trimmed (take at bytes) ∷ split_lines (drop (at + 1) bytes)
split_place bytes at l before found =
    let parts : bytes ≡ take at bytes ++ 10 ∷ drop (at + 1) bytes = sym (take-append-drop at bytes) ∙ ap (λ z. take at bytes ++ z) (drop_more bytes at 0 l ∙ ap (λ b. b ∷ drop (at + 1) bytes) found) in
    ap split_lines parts
    ∙ split_at (take at bytes) (drop (at + 1) bytes) (λ k h. let below : k < at = omega (arith, length-take at bytes) in rw (get_or-take at bytes k 0 below) (before k below))

last_return : (b : ℕ) (bytes : List ℕ) → get_or (b ∷ bytes) (length bytes) 0 ≡ 13 → take (length bytes) (b ∷ bytes) ≡ trimmed (b ∷ bytes)
last_return b [] e = rw e refl
last_return b (c ∷ bytes) e = ap (λ z. b ∷ z) (last_return c bytes e)

last_other : (b : ℕ) (bytes : List ℕ) → eqb (get_or (b ∷ bytes) (length bytes) 0) 13 ≡ false → b ∷ bytes ≡ trimmed (b ∷ bytes)
last_other b [] e = rw e refl
last_other b (c ∷ bytes) e = ap (λ z. b ∷ z) (last_other c bytes e)

pub trimmed_return : (line : List ℕ) → 0 < length line → get_or line (length line - 1) 0 ≡ 13 → take (length line - 1) line ≡ trimmed line
trimmed_return [] h e = absurd (omega arith)
trimmed_return (b ∷ bytes) h e =
    let s : suc (length bytes) - 1 ≡ length bytes = omega arith in rw s (last_return b bytes (rw s at e))

pub trimmed_other : (line : List ℕ) → get_or line (length line - 1) 0 ≢ 13 → line ≡ trimmed line
trimmed_other [] h = refl
trimmed_other (b ∷ bytes) h =
    let s : suc (length bytes) - 1 ≡ length bytes = omega arith in
    let apart : get_or (b ∷ bytes) (length bytes) 0 ≢ 13 = rw s at h in
    last_other b bytes (ne_eqb _ _ apart)
