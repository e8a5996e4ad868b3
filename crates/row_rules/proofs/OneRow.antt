-- Of rows in ascending key one has a given key, or none.
use Rattle.std.proofs.Common.{◌≡◌, ◌∙◌, ℤ, List, [], ◌∷◌, Bool, true, false, ap, refl, subst, arith, Less}
use Rattle.std.proofs.lemmas.Cmp.{int_cmp_total}
use Rattle.std.specs.Ordering.{int_cmp, int_eq, is_eq, ordering_reverse}
use Rattle.std.proofs.lemmas.Bool.Decides.{Decides-int_eq}
use Rattle.row_rules.specs.InReach.{ReachesOne}
use Rattle.row_rules.specs.Rows.{Ascends}
use Rattle.row_rules.specs.Reach.{row_alone, row_of}
use Rattle.row_rules.specs.Rows.{rows_at}
use Rattle.row_rules.specs.Words.{Kept}

-- The first of these rows, if there is one, has a greater key.
abbrev Above : ℤ → List Kept → Type 0
Above key [] = Unit {0}
Above key (row ∷ rows) = int_cmp key row.key ≡ Less

above_first : (row : Kept) (rows : List Kept) → Ascends (row ∷ rows) → Above row.key rows
above_first row [] h = tt
above_first row (next ∷ rows) h = h.0

ascend_after : (row : Kept) (rows : List Kept) → Ascends (row ∷ rows) → Ascends rows
ascend_after row [] h = tt
ascend_after row (next ∷ rows) h = h.1

above_less : (key other : ℤ) (rows : List Kept) → int_cmp key other ≡ Less → Above other rows → Above key rows
above_less key other [] h a = tt
above_less key other (row ∷ rows) h a = int_cmp_total.trans key other row.key h a

none_above : (key : ℤ) (rows : List Kept) → Above key rows → Ascends rows → rows_at (key ∷ []) rows ≡ []
none_above key [] a h = refl
none_above key (row ∷ rows) a h =
    let differ : int_eq row.key key ≡ false = ap is_eq (int_cmp_total.antisymm row.key key ∙ ap ordering_reverse a) in
    let there = none_above key rows (above_less key row.key rows a (above_first row rows h)) (ascend_after row rows h) in
    rw differ there

pub reaches_one : ReachesOne
reaches_one key [] h = refl
reaches_one key (row ∷ rows) h = by_test (reaches_one key rows (ascend_after row rows h)) (int_eq row.key key) refl
  where
    by_test : rows_at (key ∷ []) rows ≡ row_alone (row_of key rows) → (b : Bool) → int_eq row.key key ≡ b → rows_at (key ∷ []) (row ∷ rows) ≡ row_alone (row_of key (row ∷ rows))
    by_test there true e =
        let same : row.key ≡ key = grind (arith, Decides-int_eq row.key key) in
        rw e (ap (λ more. row ∷ more) (none_above key rows (subst (λ k. Above k rows) same (above_first row rows h)) (ascend_after row rows h)))
    by_test there false e = rw e there
