-- The values of a row, with bars between them.
use Rattle.std.proofs.Common.{◌≡◌, OnOk, Result, Ok, Err, ℕ, List, [], ◌∷◌, ◌++◌, map, refl, ap, append-nil, append_assoc, codes, sym}
use Rattle.std.specs.List.{flat_map, join_with_byte}
use Rattle.sql_base.specs.declared.values.Value.{Value}
use Rattle.sql_text.specs.Printing.{value_text}
use Rattle.report.specs.Lines.{row_text}
use Rattle.report.specs.Inner.{values_text}

-- the first piece, and then each next one behind the byte
join_with_byte-cons : {X : Type 0} (c : ℕ) (f : X → List ℕ) (x : X) (xs : List X) → join_with_byte c (map f (x ∷ xs)) ≡ f x ++ flat_map (λ y. c ∷ f y) xs
join_with_byte-cons c f x [] = sym (append-nil (f x))
join_with_byte-cons c f x (y ∷ ys) = ap (λ rest. f x ++ c ∷ rest) (join_with_byte-cons c f y ys)

pub join-values : (values : List Value) → join_with_byte 124 (map value_text values) ≡ values_text values
join-values [] = refl
join-values (value ∷ values) = join_with_byte-cons 124 value_text value values

-- a row whose parts were pushed one after another
pub row_pushed : (row : List Value) (old blanks values out : List ℕ) → blanks ≡ old ++ codes "  " → values ≡ blanks ++ values_text row → out ≡ values ++ codes "\n" → out ≡ old ++ row_text row
row_pushed row old blanks values out a b c = rw (c, b, a, join-values row) (simp append_assoc)

-- parts that were pushed one after another
pub three_pushed : (a b c old x y z : List ℕ) → x ≡ old ++ a → y ≡ x ++ b → z ≡ y ++ c → z ≡ old ++ (a ++ (b ++ c))
three_pushed a b c old x y z p q r = rw (r, q, p) (simp append_assoc)

pub four_pushed : (a b c d old x y z w : List ℕ) → x ≡ old ++ a → y ≡ x ++ b → z ≡ y ++ c → w ≡ z ++ d → w ≡ old ++ (a ++ (b ++ (c ++ d)))
four_pushed a b c d old x y z w p q r s = rw (s, r, q, p) (simp append_assoc)

-- what follows where the last part was pushed
pub on_ok : {T E P Q : Type 0} (result : Result T E) → (P → Q) → OnOk result P → OnOk result Q
on_ok (Ok value) f p = f p
on_ok (Err fault) f p = tt
