-- A header and the records behind it.
use Rattle.std.proofs.Common.{◌≡◌, ℕ, suc, List, [], ◌∷◌, length, take, drop, get_or, ◌≤◌, ◌-◌, arith, Bool, true, false, Option, None, Some, cond, refl, sym, ap, ◌∙◌, subst, is_some}
use Rattle.std.proofs.Math.Seq.{take-length}
use Rattle.std.specs.List.{cons_option, filter_map}
use Rattle.sql_base.specs.Laws.{both, some_same}
use Rattle.sql_base.specs.declared.shapes.Shape.{Shape}
use Rattle.sql_text.specs.Identifier.{name_in}
use Rattle.csv_load.specs.Load.{is_header, load_rows}
use Rattle.csv_load.specs.Steps.{lines_from, names_of}

one_more : (found : Option (List ℕ)) (names : List (List ℕ)) → is_some found ≡ true → length (cons_option found names) ≡ suc (length names)
one_more None names h = cc
one_more (Some name) names h = refl

found_all : (fields : List (List ℕ)) → is_header fields ≡ true → length (filter_map name_in fields) ≡ length fields
found_all [] h = refl
found_all (field ∷ fields) h =
    let parts = both (is_some (name_in field)) (is_header fields) h in
    one_more (name_in field) (filter_map name_in fields) parts.0 ∙ ap suc (found_all fields parts.1)

named : (t : Bool) (all names : List (List ℕ)) → cond t (Some all) None ≡ Some names → (t ≡ true) × (all ≡ names)
named true all names h = (refl, some_same all names h)
named false all names h = cc

-- Behind a header the records are read.
pub load_named : (table : List ℕ) (shape : Option Shape) (header names : List (List ℕ)) (rows : List (List (List ℕ))) →
    names_of header ≡ Some names → load_rows table shape (header ∷ rows) ≡ lines_from table shape names 2 [] rows
load_named table shape header names rows h =
    let is = named (is_header header) (filter_map name_in header) names h in
    let width = found_all header is.0 in
    subst (λ ns. load_rows table shape (header ∷ rows) ≡ lines_from table shape ns 2 [] rows) is.1 (rw (is.0, width) refl)

-- The first one of some, and the others.
pub first_and_rest : {X : Type 0} (xs : List X) (x : X) → 1 ≤ length xs → x ≡ get_or xs 0 x → xs ≡ x ∷ take (length xs - 1) (drop 1 xs)
first_and_rest [] x h e = absurd (omega arith)
first_and_rest (y ∷ ys) x h e =
    let less : length (y ∷ ys) - 1 ≡ length ys = omega arith in
    let whole : take (length ys) ys ≡ ys = take-length ys in
    rw (less, whole) (ap (λ z. z ∷ ys) (sym e))
