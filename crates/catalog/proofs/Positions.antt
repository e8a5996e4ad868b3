-- How many places a stored row has, and where they stand.
use Rattle.std.proofs.Common.{◌≡◌, ◌∙◌, ◌<◌, ◌≤◌, ℕ, suc, ◌+◌, ◌^◌, List, [], ◌∷◌, ◌++◌, Bool, true, false, Some, None, Option, subst, length, map, cond, drop, get_or, add-one, append_assoc, length-append, ap, refl, sym, arith}
use Rattle.std.specs.Prelude.{◌==◌, ◌&&◌, filter, find}
use Rattle.std.specs.Option.{option_and_then, option_map, option_map_or}
use Rattle.std.specs.List.{enumerate_from, list_all}
use Rattle.std.proofs.Math.Seq.{drop-cons}
use Rattle.std.proofs.lemmas.List.{length-map}
use Rattle.std.proofs.lemmas.List.FromFn.{length-enumerate_from}
use Rattle.mig_lens.specs.declared.columns.Cell.{Cell}
use Rattle.mig_lens.specs.declared.columns.Lens.{Lens}
use Rattle.mig_lens.specs.declared.columns.Side.{Side}
use Rattle.mig_lens.specs.declared.columns.Side.TheVariants.{Old, New}
use Rattle.mig_lens.specs.declared.plans.Fate.{Fate}
use Rattle.mig_lens.specs.Lens.{is_carry}
use Rattle.mig_lens.specs.Plan.{lens_in, shape_numbered}
use Rattle.sql_base.specs.declared.shapes.Schema.{Schema}
use Rattle.sql_base.specs.declared.shapes.Shape.{Shape}
use Rattle.std.proofs.lemmas.Bool.Decides.{nat_tests}
use Rattle.trigger_pair.specs.declared.pairs.Pair.{Pair}
use Rattle.phase_steps.specs.Places.{carried_places, mark_places, old_places, paired_places, shadow_places, trimmed_row_places}
use Rattle.phase_steps.specs.Rows.{is_shadow, pair_of}
use Rattle.catalog.specs.declared.pairs.PairRef.{PairRef}
use Rattle.catalog.specs.declared.versions.Known.{Known}
use Rattle.catalog.specs.declared.versions.Stage.{Stage}
use Rattle.catalog.specs.declared.versions.Stage.TheVariants.{Calm, Both, AfterFirst, AfterSecond, RolledBack}
use Rattle.catalog.specs.Places as lent
use Rattle.catalog.specs.Versions.{tables_on}
use Rattle.catalog.specs.Views.{lens_among, pair_among, pair_at, pair_in, row_places}
use Rattle.catalog.specs.Widths.{fate_is_narrow, fates_at, is_narrow, lens_is_narrow, table_is_narrow}

-- ---- tests

and_first : (a b : Bool) → (a && b) ≡ true → a ≡ true
and_first true b both = refl
and_first false b both = both

and_last : (a b : Bool) → (a && b) ≡ true → b ≡ true
and_last true b both = both
and_last false b both = absurd (cc)

-- ---- lengths

kept_few : {T : Type 0} (keeps : T → Bool) (all : List T) → length (filter keeps all) ≤ length all
kept_few keeps [] = omega arith
kept_few keeps (x ∷ all) =
    let rest = kept_few keeps all in
    elim (keeps x) as (λ kept. length (cond kept (x ∷ filter keeps all) (filter keeps all)) ≤ length (x ∷ all))
    [ true ↦ omega arith | false ↦ omega arith ]

old_long : (cells : List Cell) → length (old_places cells) ≡ length cells
old_long cells = simp (length-map, length-enumerate_from) refl

carried_short : (cells : List Cell) → length (carried_places cells) ≤ length cells
carried_short cells =
    simp length-map (omega (arith, kept_few (λ column. is_carry column.1) (enumerate_from 0 cells), length-enumerate_from 0 cells))

shadows_short : (cells : List Cell) → length (shadow_places cells) ≤ length cells
shadows_short cells =
    simp length-map (omega (arith, kept_few (λ column. is_shadow column.1) (enumerate_from 0 cells), length-enumerate_from 0 cells))

mark_short : (mark : Bool) → length (mark_places mark) ≤ 1
mark_short true = omega arith
mark_short false = omega arith

-- ---- lists made one by one

pub one_more : {A B C : Type 0} (f : B → C) (g : A → B) (made whole : List C) (xs : List A) (i : ℕ) (d : A) → i < length xs → made ++ map f (map g (drop i xs)) ≡ whole → (made ++ f (g (get_or xs i d)) ∷ []) ++ map f (map g (drop (i + 1) xs)) ≡ whole
one_more f g made whole xs i d within so_far =
    let split : made ++ map f (map g (get_or xs i d ∷ drop (suc i) xs)) ≡ whole = rw (drop-cons xs i d within) at so_far in
    rw (append_assoc, add-one) split

-- ---- rows

abbrev Few : Pair → Type 0
Few pair = (length pair.lens.old_cols ≤ 32) × (length pair.lens.new_cols ≤ 32)

paired_few : (pair : Pair) → Few pair → length (paired_places pair) ≤ 65
paired_few pair few =
    simp length-append (omega (arith, few.0, few.1, old_long pair.lens.old_cols, shadows_short pair.lens.new_cols, mark_short pair.layout.mark))

trimmed_few : (pair : Pair) → Few pair → length (trimmed_row_places pair) ≤ 65
trimmed_few pair few =
    simp length-append (omega (arith, few.0, few.1, carried_short pair.lens.old_cols, shadows_short pair.lens.new_cols))

row_few : (stage : Stage) (pair : Pair) → Few pair → length (row_places stage pair) ≤ 65
row_few Calm pair few = paired_few pair few
row_few (Both name schema fates) pair few = paired_few pair few
row_few (AfterFirst lost fates) pair few = paired_few pair few
row_few (AfterSecond lost fates) pair few = trimmed_few pair few
row_few (RolledBack lost fates) pair few = paired_few pair few

-- ---- widths

lens_few : (lens : Lens) → lens_is_narrow lens ≡ true → (length lens.old_cols ≤ 32) × (length lens.new_cols ≤ 32)
lens_few lens narrow = (grind (arith, nat_tests), grind (arith, nat_tests))

found_narrow : (here : Bool) (fate : ℕ × Fate) (rest : Option (ℕ × Fate)) (lens : Lens) → fate_is_narrow fate ≡ true → (option_and_then (λ f. lens_in f.1) rest ≡ Some lens → lens_is_narrow lens ≡ true) → option_and_then (λ f. lens_in f.1) (cond here (Some fate) rest) ≡ Some lens → lens_is_narrow lens ≡ true
found_narrow true fate rest lens narrow later is = ap (λ found. option_map_or lens_is_narrow found true) (sym is) ∙ narrow
found_narrow false fate rest lens narrow later is = later is

lens_narrow : (fates : List (ℕ × Fate)) (number : ℕ) (lens : Lens) → list_all fate_is_narrow fates ≡ true → lens_among fates number ≡ Some lens → lens_is_narrow lens ≡ true
lens_narrow [] number lens all is = cc
lens_narrow (fate ∷ fates) number lens all is =
    found_narrow (fate.0 == number) fate (find (λ f. f.0 == number) fates) lens (and_first _ _ all) (lens_narrow fates number lens (and_last _ _ all)) is

of_shapes : (old new : Option Shape) (lens : Option Lens) (pair : Pair) → ((l : Lens) → lens ≡ Some l → lens_is_narrow l ≡ true) → option_and_then (λ o. option_and_then (λ n. option_map (λ l. pair_of o n l) lens) new) old ≡ Some pair → Few pair
of_shapes None new lens pair narrow is = absurd (cc)
of_shapes (Some o) None lens pair narrow is = absurd (cc)
of_shapes (Some o) (Some n) None pair narrow is = absurd (cc)
of_shapes (Some o) (Some n) (Some l) pair narrow is =
    let same : pair_of o n l ≡ pair = cc in
    subst Few same (lens_few l (narrow l refl))

among_few : (before after : Schema) (fates : List (ℕ × Fate)) (number : ℕ) (pair : Pair) → list_all fate_is_narrow fates ≡ true → pair_among before after fates number ≡ Some pair → Few pair
among_few before after fates number pair all is =
    of_shapes (shape_numbered before number) (shape_numbered after number) (lens_among fates number) pair (λ lens found. lens_narrow fates number lens all found) is

pair_few : (current : Schema) (stage : Stage) (number : ℕ) (pair : Pair) → list_all fate_is_narrow (fates_at stage) ≡ true → pair_at current stage number ≡ Some pair → Few pair
pair_few current Calm number pair all is = absurd (cc)
pair_few current (Both name schema fates) number pair all is = among_few current schema fates number pair all is
pair_few current (AfterFirst lost fates) number pair all is = among_few lost current fates number pair all is
pair_few current (AfterSecond lost fates) number pair all is = among_few lost current fates number pair all is
pair_few current (RolledBack lost fates) number pair all is = among_few current lost fates number pair all is

fates_narrow : (known : Known) → is_narrow known ≡ true → list_all fate_is_narrow (fates_at known.stage) ≡ true
fates_narrow known narrow = and_last _ _ narrow

-- A stored row of a narrow pair has few places.
pub places_fit : (known : Known) → is_narrow known ≡ true → (number : ℕ) (pair : PairRef) → Some (lent.pair pair) ≡ pair_in known number → length (row_places known.stage (lent.pair pair)) < 2 ^ 32
places_fit known narrow number pair found =
    let few : length (row_places known.stage (lent.pair pair)) ≤ 65 =
    row_few known.stage (lent.pair pair) (pair_few known.schema known.stage number (lent.pair pair) (fates_narrow known narrow) (sym found)) in
    omega (arith, few)

-- The tables of each side are narrow.
pub tables_narrow : (known : Known) (side : Side) → is_narrow known ≡ true → list_all table_is_narrow (tables_on known side) ≡ true
tables_narrow known Old narrow = and_first _ _ (and_first _ _ narrow)
tables_narrow known New narrow = and_last _ _ (and_first _ _ narrow)
