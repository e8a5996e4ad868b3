-- What is known of the values that a text is read as.
use Rattle.std.proofs.Common.{◌≡◌, ℕ, ◌<◌, ◌≤◌, List, [], ◌∷◌, ◌++◌, map, true, Option, Some, None, Less, nat_cmp, refl, sym, ap, ap₂, ◌∙◌, subst, arith}
use Rattle.std.proofs.lemmas.Bool.{and_parts}
use Rattle.std.proofs.lemmas.Str.{utf8_lossy-IsUtf8}
use Rattle.std.specs.Cmp.Lexicographic.{slice_cmp}
use Rattle.std.specs.List.{AllByRecursion}
use Rattle.std.specs.Prelude.{IfSome}
use Rattle.std.specs.Str.Lossy.{utf8_lossy}
use Rattle.serde_json.specs.Data.{Data, Items, no_items, item, Members, no_members, member}
use Rattle.serde_json.specs.Data as json
use Rattle.serde_json.specs.Find.{get}
use Rattle.serde_json.specs.View.{items_of}
use Rattle.sql_base.specs.declared.exprs.Expr.{Expr}
use Rattle.sql_base.specs.declared.exprs.Expr.TheVariants.{Lit}
use Rattle.sql_base.specs.Tree.{depth}
use Rattle.sql_text.specs.Laws.{HasText}
use Rattle.sql_parse.specs.Laws.{TreesHaveText}
use Rattle.mig_lens.specs.declared.migrations.Ways.{Ways}
use Rattle.mig_lens.specs.declared.migrations.Ways.TheVariants.{One, Each}
use Rattle.mig_json.specs.Demand.{IsExpression}
use Rattle.mig_json.specs.Kind as kind
use Rattle.mig_json.specs.Kind.{Kind, Fields, ValueOf, ValuesOf, Is, Are, Has, May, IsTextOf, AreItems, ArePairs, AreEach, IsWays, IsNewName, is_filled}
use Rattle.mig_json.specs.Name.{is_name, is_part_name, is_name_byte}
use Rattle.mig_json.specs.Writing.{data_of, text_data}
use Rattle.mig_json.proofs.Ordered.{IsBefore, IsOrdered, AreOrdered, InOrder, found_ordered}
use Rattle.mig_json.proofs.Spelled.{ascii_by}

-- an expression that has a text and isn't too deep
abbrev pub IsSpelled : Expr → Type 0
IsSpelled a = HasText a × (depth a ≤ 64)

abbrev pub IsFilled : {T : Type 0} → List T → Type 0
IsFilled [] = ⊥
IsFilled (x ∷ xs) = Unit {0}

-- the name comes before those of the pairs
abbrev pub ComesFirst : List ℕ → List (List ℕ × Expr) → Type 0
ComesFirst k [] = Unit {0}
ComesFirst k (x ∷ xs) = slice_cmp nat_cmp k x.0 ≡ Less

-- pairs in ascending order of their names
abbrev pub PairsFit : List (List ℕ × Expr) → Type 0
PairsFit [] = Unit {0}
PairsFit (x ∷ xs) = ComesFirst x.0 xs × ((is_part_name x.0 ≡ true) × (IsSpelled x.1 × PairsFit xs))

abbrev pub WaysFit : Ways → Type 0
WaysFit (One a) = IsSpelled a
WaysFit (Each pairs) = PairsFit pairs

abbrev mutual
  pub Fits : (kind : Kind) → ValueOf kind → Type 0
  Fits kind.name x = is_part_name x ≡ true
  Fits kind.type x = Unit {0}
  Fits kind.flag x = Unit {0}
  Fits (kind.word text) x = Unit {0}
  Fits (kind.expression place) x = IsSpelled x
  Fits (kind.literal place) x = IsSpelled (Lit x)
  Fits (kind.object fields) xs = AllFit fields xs
  Fits (kind.many kind) xs = IsFilled xs × AllByRecursion (λ x. Fits kind x) xs
  Fits kind.names xs = Is kind.names (data_of kind.names xs) xs
  Fits (kind.each place) xs = PairsFit xs
  Fits (kind.ways place) x = WaysFit x

  pub AllFit : (fields : Fields) → ValuesOf fields → Type 0
  AllFit kind.end xs = Unit {0}
  AllFit (kind.must key kind fields) xs = Fits kind xs.0 × AllFit fields xs.1
  AllFit (kind.may key kind fields) xs = IfSome xs.0 (λ x. Fits kind x) × AllFit fields xs.1
  AllFit (kind.never key fields) xs = AllFit fields xs

-- ---- names

name_byte_low : (b : ℕ) → is_name_byte b ≡ true → b < 128
name_byte_low b e = grind (arith, e)

pub name_text : (x : List ℕ) → is_name x ≡ true → utf8_lossy x ≡ x
name_text x e = utf8_lossy-IsUtf8 x (ascii_by is_name_byte name_byte_low x (and_parts _ _ (and_parts _ _ e).0).1)

pub part_text : (x : List ℕ) → is_part_name x ≡ true → utf8_lossy x ≡ x
part_text [] e = absurd cc
part_text (b ∷ bs) e = name_text (b ∷ bs) (and_parts _ _ e).1

names_are : (before : List Data) (ds : Items) (xs : List (List ℕ)) → AreItems IsNewName before ds xs → ds ≡ items_of (map text_data xs)
names_are before no_items xs h = rw h refl
names_are before (item d ds) xs (x, rest, one, more, is) =
    subst (λ (ys : List (List ℕ)). item d ds ≡ items_of (map text_data ys)) (sym is)
    (ap₂ item (one.0 ∙ ap json.string (sym (part_text x one.1))) (names_are (before ++ d ∷ []) ds rest more))

filled_from : {T : Type 0} (Is : List Data → Data → T → Type 0) (before : List Data) (ds : Items) (xs : List T) → is_filled ds ≡ true → AreItems Is before ds xs → IsFilled xs
filled_from Is before no_items xs some h = absurd cc
filled_from Is before (item d ds) xs some (x, rest, one, more, is) = subst (λ ys. IsFilled ys) (sym is) tt

-- ---- from what is read

module _ (have_text : TreesHaveText) where
  spelled_from : (text : List ℕ) (a : Expr) → IsExpression text a → IsSpelled a
  spelled_from text a h = (have_text text a h.reads.0, h.reads.1)

  text_from : (d : Data) (a : Expr) → IsTextOf (λ text. IsExpression text a) d → IsSpelled a
  text_from d a (text, is, reads) = spelled_from text a reads

  pairs_fit : (ms : Members) (xs : List (List ℕ × Expr)) → InOrder ms → ArePairs ms xs → PairsFit xs
  pairs_fit no_members xs order h = subst (λ ys. PairsFit ys) (sym h) tt
  pairs_fit (member k d ms) xs order (x, rest, one, more, is) =
      subst (λ ys. PairsFit ys) (sym is)
      (first ms rest order.0 more, (subst (λ n. is_part_name n ≡ true) (sym one.0) one.1, (text_from d x.1 one.2, pairs_fit ms rest order.1.1 more)))
    where
      first : (ms : Members) (rest : List (List ℕ × Expr)) → IsBefore k ms → ArePairs ms rest → ComesFirst x.0 rest
      first no_members rest low none = subst (λ ys. ComesFirst x.0 ys) (sym none) tt
      first (member l e more) rest low (y, others, pair, _, same) =
          subst (λ ys. ComesFirst x.0 ys) (sym same) (rw (one.0, pair.0) low)

  each_fits : (d : Data) (xs : List (List ℕ × Expr)) → IsOrdered d → AreEach d xs → PairsFit xs
  each_fits d xs order (ms, is, are) = pairs_fit ms xs (subst IsOrdered is order) are

  ways_fit : (d : Data) (x : Ways) → IsOrdered d → IsWays d x → WaysFit x
  ways_fit d (One a) order h = text_from d a h
  ways_fit d (Each pairs) order h = each_fits d pairs order h

  has_fits : {T : Type 0} (Is : Data → T → Type 0) (P : T → Type 0) (o : Option Data) (x : T) → IfSome o IsOrdered → ((d : Data) → IsOrdered d → Is d x → P x) → Has Is o x → P x
  has_fits Is P None x order all h = absurd h
  has_fits Is P (Some d) x order all h = all d order h

  may_fits : {T : Type 0} (Is : Data → T → Type 0) (P : T → Type 0) (o : Option Data) (x : Option T) → IfSome o IsOrdered → ((d : Data) (y : T) → IsOrdered d → Is d y → P y) → May Is o x → IfSome x P
  may_fits Is P None x order all h = subst (λ y. IfSome y P) (sym h) tt
  may_fits Is P (Some d) x order all (y, is, same) = subst (λ z. IfSome z P) (sym same) (all d y order is)

  all_items : {T : Type 0} (Is : Data → T → Type 0) (P : T → Type 0) (before : List Data) (ds : Items) (xs : List T) → AreOrdered ds → ((d : Data) (x : T) → IsOrdered d → Is d x → P x) → AreItems (λ before. Is) before ds xs → AllByRecursion P xs
  all_items Is P before no_items xs order all h = subst (λ ys. AllByRecursion P ys) (sym h) tt
  all_items Is P before (item d ds) xs order all (x, rest, one, more, is) =
      subst (λ ys. AllByRecursion P ys) (sym is) (all d x order.0 one, all_items Is P (before ++ d ∷ []) ds rest order.1 all more)

  mutual
    pub fits : (kind : Kind) (d : Data) (x : ValueOf kind) → IsOrdered d → Is kind d x → Fits kind x
    fits kind.name d x order h = h.1
    fits kind.type d x order h = tt
    fits kind.flag d x order h = tt
    fits (kind.word text) d x order h = tt
    fits (kind.expression place) d x order h = text_from d x h
    fits (kind.literal place) d x order h = text_from d (Lit x) h
    fits (kind.object fields) d xs order h = all_fit fields d xs order h.1
    fits (kind.many kind) d xs order (ds, is, some, are) =
        (filled_from (λ before. Is kind) [] ds xs some are, all_items (λ d x. Is kind d x) (λ x. Fits kind x) [] ds xs (subst IsOrdered is order) (λ d x o h. fits kind d x o h) are)
    fits kind.names d xs order (ds, is, some, are) =
        subst (λ e. Is kind.names e xs) (is ∙ ap json.array (names_are [] ds xs are)) (ds, is, some, are)
    fits (kind.each place) d x order h = each_fits d x order h
    fits (kind.ways place) d x order h = ways_fit d x order h

    pub all_fit : (fields : Fields) (d : Data) (xs : ValuesOf fields) → IsOrdered d → Are fields d xs → AllFit fields xs
    all_fit kind.end d xs order h = tt
    all_fit (kind.must key kind fields) d xs order h =
        (has_fits (λ d x. Is kind d x) (λ x. Fits kind x) (get key d) xs.0 (found_ordered key d order) (λ e o is. fits kind e xs.0 o is) h.0, all_fit fields d xs.1 order h.1)
    all_fit (kind.may key kind fields) d xs order h =
        (may_fits (λ d x. Is kind d x) (λ x. Fits kind x) (get key d) xs.0 (found_ordered key d order) (λ e y o is. fits kind e y o is) h.0, all_fit fields d xs.1 order h.1)
    all_fit (kind.never key fields) d xs order h = all_fit fields d xs order h.1
