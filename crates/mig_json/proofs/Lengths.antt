-- A part of a value has no longer text than the value.
use Rattle.std.proofs.Common.{◌≡◌, ℕ, ◌≤◌, List, [], ◌∷◌, ◌++◌, length, Bool, true, false, cond, nat_lt, Some, Ordering, Less, Equal, Greater, nat_cmp, subst, arith, length-append}
use Rattle.std.specs.Cmp.Lexicographic.{slice_cmp}
use Rattle.std.specs.Ordering.{match_ordering}
use Rattle.json.specs.Print.{escape_letter, escape_byte, escape, quoted}
use Rattle.serde_json.specs.Data.{Data, object, Items, item, Members, no_members, member}
use Rattle.serde_json.specs.Find.{get_member}
use Rattle.serde_json.specs.Written.{compact_text, items_text, members_text, comma_if}

tested : (b c : Bool) (x a d e : ℕ) → 1 ≤ length (cond b (92 ∷ a ∷ []) (cond c (92 ∷ 117 ∷ 48 ∷ 48 ∷ d ∷ e ∷ []) (x ∷ [])))
tested true c x a d e = omega arith
tested false true x a d e = omega arith
tested false false x a d e = omega arith

escaped_some : (x : ℕ) → 1 ≤ length (escape_byte x)
unfolding escape_byte
escaped_some x = tested (nat_lt 0 (escape_letter x)) (nat_lt x 32) x (escape_letter x) _ _

escaped_longer : (s : List ℕ) → length s ≤ length (escape s)
escaped_longer [] = omega arith
escaped_longer (x ∷ xs) = rw (length-append (escape_byte x) (escape xs)) (omega (arith, escaped_some x, escaped_longer xs))

pub quoted_longer : (s : List ℕ) → length s ≤ length (quoted s)
quoted_longer s = rw (length-append (escape s) (34 ∷ [])) (omega (arith, escaped_longer s))

-- ---- members

value_shorter : (later : Bool) (k : List ℕ) (d : Data) (ms : Members) → length (compact_text d) ≤ length (members_text later (member k d ms))
value_shorter later k d ms =
    rw (length-append (comma_if later) (quoted k ++ 58 ∷ (compact_text d ++ members_text true ms)), length-append (quoted k) (58 ∷ (compact_text d ++ members_text true ms)), length-append (compact_text d) (members_text true ms)) (omega arith)

others_shorter : (later : Bool) (k : List ℕ) (d : Data) (ms : Members) → length (members_text true ms) ≤ length (members_text later (member k d ms))
others_shorter later k d ms =
    rw (length-append (comma_if later) (quoted k ++ 58 ∷ (compact_text d ++ members_text true ms)), length-append (quoted k) (58 ∷ (compact_text d ++ members_text true ms)), length-append (compact_text d) (members_text true ms)) (omega arith)

found_at : (later : Bool) (key : List ℕ) (ms : Members) (d : Data) → get_member key ms ≡ Some d → length (compact_text d) ≤ length (members_text later ms)
found_at later key no_members d e = absurd cc
found_at later key (member l x ms) d e = by_place (slice_cmp nat_cmp key l) (λ f. found_at true key ms d f) e
  where
    here : Some x ≡ Some d → length (compact_text d) ≤ length (members_text later (member l x ms))
    here e = let same : x ≡ d = cc in subst (λ y. length (compact_text y) ≤ length (members_text later (member l x ms))) same (value_shorter later l x ms)

    by_place : (o : Ordering) → (get_member key ms ≡ Some d → length (compact_text d) ≤ length (members_text true ms)) → match_ordering o (get_member key ms) (Some x) (get_member key ms) ≡ Some d → length (compact_text d) ≤ length (members_text later (member l x ms))
    by_place Less inner e = omega (arith, inner e, others_shorter later l x ms)
    by_place Equal inner e = here e
    by_place Greater inner e = omega (arith, inner e, others_shorter later l x ms)

-- A value that is found in an object.
pub found_shorter : (key : List ℕ) (ms : Members) (d : Data) → get_member key ms ≡ Some d → length (compact_text d) ≤ length (compact_text (object ms))
found_shorter key ms d e = let one : length (compact_text d) ≤ length (members_text false ms) = found_at false key ms d e in omega (arith, one)

pub first_shorter : (later : Bool) (k : List ℕ) (d : Data) (ms : Members) → length (compact_text d) ≤ length (members_text later (member k d ms))
first_shorter = value_shorter

pub rest_shorter : (later : Bool) (k : List ℕ) (d : Data) (ms : Members) → length (members_text true ms) ≤ length (members_text later (member k d ms))
rest_shorter = others_shorter

-- ---- items

pub item_shorter : (later : Bool) (d : Data) (ds : Items) → length (compact_text d) ≤ length (items_text later (item d ds))
item_shorter later d ds = rw (length-append (comma_if later) (compact_text d ++ items_text true ds), length-append (compact_text d) (items_text true ds)) (omega arith)

pub items_shorter : (later : Bool) (d : Data) (ds : Items) → length (items_text true ds) ≤ length (items_text later (item d ds))
items_shorter later d ds = rw (length-append (comma_if later) (compact_text d ++ items_text true ds), length-append (compact_text d) (items_text true ds)) (omega arith)
