-- Tables that are parted one after another, into those that stay and those that go.
use Rattle.roll_core.proofs.Words.{◌≡◌, ◌∙◌, ◌++◌, List, [], ◌∷◌, true, false, if◌then◌else◌, ap, append_assoc, filter, map, refl, sym, OwnTable, Side, State, StoredTable, goes, left_table, seen, stays}

-- What is made of tables is made of the first and of the others.
abbrev Splits : (List StoredTable → List StoredTable) → Type 0
Splits made = (table : StoredTable) (tables : List StoredTable) → made (table ∷ tables) ≡ made (table ∷ []) ++ made tables

pub stays_first : (gone : Side) (frame : State) → Splits (λ tables. map (left_table gone) (filter (stays gone frame) tables))
stays_first gone frame table tables =
    let rest = filter (stays gone frame) tables in
    elim (stays gone frame table) as (λ b. map (left_table gone) (if b then table ∷ rest else rest) ≡ map (left_table gone) (if b then table ∷ [] else []) ++ map (left_table gone) rest)
    [ true ↦ refl | false ↦ refl ]

pub goes_first : (gone : Side) (frame : State) → Splits (filter (goes gone frame))
goes_first gone frame table tables =
    let rest = filter (goes gone frame) tables in
    elim (goes gone frame table) as (λ b. (if b then table ∷ rest else rest) ≡ (if b then table ∷ [] else []) ++ rest) [ true ↦ refl | false ↦ refl ]

-- One more is parted.
pub parted_next : (made : List StoredTable → List StoredTable) → Splits made → (table : OwnTable) (rest items : List OwnTable) (old new wanted : List StoredTable) → items ≡ table ∷ rest → new ≡ old ++ made (seen table ∷ [])
    → old ++ made (map seen items) ≡ wanted → new ++ made (map seen rest) ≡ wanted
parted_next made splits table rest items old new wanted e is h =
    ap (λ (ts : List StoredTable). ts ++ made (map seen rest)) is ∙ append_assoc old (made (seen table ∷ [])) (made (map seen rest))
    ∙ ap (λ (ts : List StoredTable). old ++ ts) (sym (splits (seen table) (map seen rest))) ∙ ap (λ (items : List OwnTable). old ++ made (map seen items)) (sym e) ∙ h
