-- Columns of a draft with different names in the new version, and what happens to them where some change.
use Rattle.std.proofs.Common.{◌≡◌, ◌∙◌, ℕ, zero, suc, ◌+◌, ◌≤◌, List, [], ◌∷◌, ◌++◌, Bool, true, false, not, ◌&&◌, ◌||◌, ◌⊎◌, inl, inr, Option, Some, None, if◌then◌else◌, length, map, take, ap, refl, sym, subst, arith}
use Rattle.std.specs.Prelude.{find, is_some, slice_get}
use Rattle.std.specs.List.{cons_option, filter_map, list_any}
use Rattle.std.specs.Option.{option_and_then, option_map}
use Rattle.std.specs.Str.{bytes_eq}
use Rattle.std.proofs.lemmas.Bool.{false≢true}
use Rattle.std.proofs.lemmas.Slice.Eq.{bytes_eq-Decides}
use Rattle.sql_base.specs.declared.shapes.Column.{Column}
use Rattle.sql_base.specs.Laws.{all_true}
use Rattle.sql_eval.specs.Shape.{all_different}
use Rattle.mig_plan.specs.declared.drafts.After.{After}
use Rattle.mig_plan.specs.declared.drafts.DraftColumn.{DraftColumn}
use Rattle.mig_plan.specs.Columns.{place_named}
use Rattle.mig_plan.specs.Draft.{is_called, is_now, put_after}
use Rattle.mig_plan.specs.Finish.{new_side}
use Rattle.mig_plan.proofs.Each.{Each, each_append}

-- ---- truth values and names

pub neither : (a b : Bool) → (a || b) ≡ false → (a ≡ false) × (b ≡ false)
neither true b h = cc
neither false b h = (refl, h)

pub not_either : (a b : Bool) → a ≡ false → b ≡ false → (a || b) ≡ false
not_either true b h k = h
not_either false b h k = k

pub not_both : (b c : Bool) → (not b && c) ≡ true → (b ≡ false) × (c ≡ true)
not_both true c h = cc
not_both false c h = (refl, h)

pub name_is : (a b : List ℕ) → bytes_eq a b ≡ true → a ≡ b
name_is a b h = (bytes_eq-Decides a b).0 h

pub name_same : (a : List ℕ) → bytes_eq a a ≡ true
name_same a = (bytes_eq-Decides a a).1 refl

-- A test that would hold is false.
pub false_unless : (b : Bool) → (b ≡ true → ⊥) → b ≡ false
false_unless true h = absurd (h refl)
false_unless false h = refl

pub other_way : (a b : List ℕ) → bytes_eq a b ≡ false → bytes_eq b a ≡ false
other_way a b h = false_unless (bytes_eq b a) (λ k. false≢true (sym h ∙ subst (λ c. bytes_eq a c ≡ true) (sym (name_is b a k)) (name_same a)))

-- ---- different names

abbrev pub Differ : Option Column → Option Column → Type 0
Differ (Some a) (Some b) = bytes_eq a.name b.name ≡ false
Differ (Some a) None = Unit {0}
Differ None p = Unit {0}

abbrev pub Distinct : List DraftColumn → Type 0
Distinct [] = Unit {0}
Distinct (c ∷ cs) = Each (λ d. Differ (new_side c) (new_side d)) cs × Distinct cs

abbrev pub names : List DraftColumn → List (List ℕ)
names cs = map (λ c. c.name) (filter_map new_side cs)

-- no column has the name
abbrev pub Free : List ℕ → Option Column → Type 0
Free name p = is_called name p ≡ false

apart_in : (x : Column) (cs : List DraftColumn) → Each (λ d. Differ (Some x) (new_side d)) cs → list_any (bytes_eq x.name) (names cs) ≡ false
apart_in x [] h = refl
apart_in x (d ∷ cs) h = by_side (new_side d) h.0 (apart_in x cs h.1)
  where
    by_side : (o : Option Column) → Differ (Some x) o → list_any (bytes_eq x.name) (names cs) ≡ false → list_any (bytes_eq x.name) (map (λ c. c.name) (cons_option o (filter_map new_side cs))) ≡ false
    by_side None t k = k
    by_side (Some y) t k = not_either (bytes_eq x.name y.name) (list_any (bytes_eq x.name) (names cs)) t k

pub all_differ : (cs : List DraftColumn) → Distinct cs → all_different (names cs) ≡ true
all_differ [] h = refl
all_differ (c ∷ cs) h = by_side (new_side c) h.0 (all_differ cs h.1)
  where
    by_side : (o : Option Column) → Each (λ d. Differ o (new_side d)) cs → all_different (names cs) ≡ true → all_different (map (λ c. c.name) (cons_option o (filter_map new_side cs))) ≡ true
    by_side None t k = k
    by_side (Some x) t k = all_true (not (list_any (bytes_eq x.name) (names cs))) (all_different (names cs)) (ap not (apart_in x cs t)) k

-- ---- one column more

pub distinct_more : (cs : List DraftColumn) (x : DraftColumn) → Distinct cs → Each (λ c. Differ (new_side c) (new_side x)) cs → Distinct (cs ++ x ∷ [])
distinct_more [] x h k = (tt, tt)
distinct_more (c ∷ cs) x h k = (each_append (λ d. Differ (new_side c) (new_side d)) cs (x ∷ []) h.0 (k.0, tt), distinct_more cs x h.1 k.1)

-- ---- columns that change

pub distinct_mapped : (f : DraftColumn → DraftColumn) (Q : DraftColumn → Type 0) → ((c d : DraftColumn) → Q c → Q d → Differ (new_side c) (new_side d) → Differ (new_side (f c)) (new_side (f d))) → (cs : List DraftColumn) → Each Q cs → Distinct cs → Distinct (map f cs)
distinct_mapped f Q more [] q h = tt
distinct_mapped f Q more (c ∷ cs) q h = (rest cs q.1 h.0, distinct_mapped f Q more cs q.1 h.1)
  where
    rest : (ds : List DraftColumn) → Each Q ds → Each (λ d. Differ (new_side c) (new_side d)) ds → Each (λ d. Differ (new_side (f c)) (new_side d)) (map f ds)
    rest [] q h = tt
    rest (d ∷ ds) k h = (more c d q.0 k.0 h.0, rest ds k.1 h.1)

pub get_mapped : {X : Type 0} (f : X → X) (xs : List X) (k : ℕ) → slice_get (map f xs) k ≡ option_map f (slice_get xs k)
get_mapped f [] k = refl
get_mapped f (x ∷ xs) zero = refl
get_mapped f (x ∷ xs) (suc k) = get_mapped f xs k

-- A side that no column loses or gets.
pub side_kept : (side : DraftColumn → Option Column) (f : DraftColumn → DraftColumn) → ((c : DraftColumn) → side (f c) ≡ side c) → (cs : List DraftColumn) → filter_map side (map f cs) ≡ filter_map side cs
side_kept side f same [] = refl
side_kept side f same (c ∷ cs) =
    let here = same c in
    let there = side_kept side f same cs in
    cc

take_mapped : (f : DraftColumn → DraftColumn) (cs : List DraftColumn) (k : ℕ) → take k (map f cs) ≡ map f (take k cs)
take_mapped f [] zero = refl
take_mapped f [] (suc k) = refl
take_mapped f (c ∷ cs) zero = refl
take_mapped f (c ∷ cs) (suc k) = ap (λ ds. f c ∷ ds) (take_mapped f cs k)

pub place_kept : (side : DraftColumn → Option Column) (f : DraftColumn → DraftColumn) → ((c : DraftColumn) → side (f c) ≡ side c) → (cs : List DraftColumn) (k : ℕ) → length (filter_map side (take k (map f cs))) ≡ length (filter_map side (take k cs))
place_kept side f same cs k = ap (λ ds. length (filter_map side ds)) (take_mapped f cs k) ∙ ap length (side_kept side f same (take k cs))

-- No column is added to a side.
pub no_longer : (side : DraftColumn → Option Column) (f : DraftColumn → DraftColumn) → ((c : DraftColumn) → side c ≡ None → side (f c) ≡ None) → (cs : List DraftColumn) → length (filter_map side (map f cs)) ≤ length (filter_map side cs)
no_longer side f none [] = omega arith
no_longer side f none (c ∷ cs) = by_sides (side c) (side (f c)) (none c) (no_longer side f none cs)
  where
    by_sides : (o p : Option Column) → (o ≡ None → p ≡ None) → length (filter_map side (map f cs)) ≤ length (filter_map side cs) → length (cons_option p (filter_map side (map f cs))) ≤ length (cons_option o (filter_map side cs))
    by_sides None None h k = k
    by_sides None (Some y) h k = let no : Some y ≡ None = h refl in cc
    by_sides (Some x) None h k = omega arith
    by_sides (Some x) (Some y) h k = omega arith

-- ---- the column of a name

pub called_is : (name : List ℕ) (p : Option Column) (x : Column) → p ≡ Some x → is_called name p ≡ true → x.name ≡ name
called_is name None x e h = cc
called_is name (Some y) x e h = let is : y ≡ x = cc in ap (λ c. c.name) (sym is) ∙ name_is y.name name h

differ_not : (name : List ℕ) (o p : Option Column) → Differ o p → is_called name o ≡ true → is_called name p ≡ false
differ_not name None p t h = cc
differ_not name (Some x) None t h = refl
differ_not name (Some x) (Some y) t h =
    false_unless (bytes_eq y.name name) (λ k. false≢true (sym t ∙ subst (λ n. bytes_eq x.name n ≡ true) (name_is x.name name h ∙ sym (name_is y.name name k)) (name_same x.name)))

no_other : (name : List ℕ) (c : DraftColumn) (cs : List DraftColumn) → is_now name c ≡ true → Each (λ d. Differ (new_side c) (new_side d)) cs → Each (λ d. is_now name d ≡ true → d ≡ c) cs
no_other name c [] h t = tt
no_other name c (d ∷ cs) h t = ((λ k. absurd (false≢true (sym (differ_not name (new_side c) (new_side d) t.0 h) ∙ k))), no_other name c cs h t.1)

found_now : (name : List ℕ) (cs : List DraftColumn) (c : DraftColumn) → find (is_now name) cs ≡ Some c → is_now name c ≡ true
found_now name [] c h = cc
found_now name (d ∷ cs) c h = by_test (found_now name cs c) (is_now name d) refl h
  where
    by_test : (find (is_now name) cs ≡ Some c → is_now name c ≡ true) → (b : Bool) → is_now name d ≡ b → (if b then Some d else find (is_now name) cs) ≡ Some c → is_now name c ≡ true
    by_test more true g k = let is : d ≡ c = cc in subst (λ e. is_now name e ≡ true) is g
    by_test more false g k = more k

pub found_is_now : (name : List ℕ) (cs : List DraftColumn) (c : DraftColumn) → find (is_now name) cs ≡ Some c → is_now name c ≡ true
found_is_now name cs c h = found_now name cs c h

apart_found : (name : List ℕ) (c d : DraftColumn) (cs : List DraftColumn) → Each (λ e. Differ (new_side d) (new_side e)) cs → find (is_now name) cs ≡ Some c → is_now name d ≡ false
apart_found name c d [] t h = cc
apart_found name c d (e ∷ cs) t h = by_test (apart_found name c d cs t.1) (is_now name e) refl h
  where
    by_test : (find (is_now name) cs ≡ Some c → is_now name d ≡ false) → (b : Bool) → is_now name e ≡ b → (if b then Some e else find (is_now name) cs) ≡ Some c → is_now name d ≡ false
    by_test more true g k = false_unless (is_now name d) (λ n. false≢true (sym (differ_not name (new_side d) (new_side e) t.0 n) ∙ g))
    by_test more false g k = more k

-- Of different columns one alone has the name.
pub only : (name : List ℕ) (cs : List DraftColumn) (c : DraftColumn) → Distinct cs → find (is_now name) cs ≡ Some c → Each (λ d. is_now name d ≡ true → d ≡ c) cs
only name [] c t h = tt
only name (d ∷ cs) c t h = by_test (only name cs c t.1) (is_now name d) refl h
  where
    by_test : (find (is_now name) cs ≡ Some c → Each (λ d. is_now name d ≡ true → d ≡ c) cs) → (b : Bool) → is_now name d ≡ b → (if b then Some d else find (is_now name) cs) ≡ Some c → Each (λ d. is_now name d ≡ true → d ≡ c) (d ∷ cs)
    by_test more true g k = let is : d ≡ c = cc in ((λ n. is), subst (λ e. Each (λ d. is_now name d ≡ true → d ≡ e) cs) is (no_other name d cs g t.0))
    by_test more false g k = ((λ n. absurd (false≢true (sym g ∙ n))), more k)

-- ---- a column whose state is put

-- The name of the column that is put is the one before, or no column has it.
abbrev pub MayBe : List ℕ → List DraftColumn → Option Column → Type 0
MayBe name cs None = Unit {0}
MayBe name cs (Some x) = (x.name ≡ name) ⊎ Each (λ c. Free x.name (new_side c)) cs

abbrev Fine : List ℕ → Option Column → DraftColumn → Type 0
Fine name None c = Unit {0}
Fine name (Some x) c = (x.name ≡ name) ⊎ Free x.name (new_side c)

fine_each : (name : List ℕ) (cs : List DraftColumn) (o : Option Column) → MayBe name cs o → Each (Fine name o) cs
fine_each name cs None t = none cs
  where
    none : (ds : List DraftColumn) → Each (Fine name None) ds
    none [] = tt
    none (d ∷ ds) = (tt, none ds)
fine_each name cs (Some x) (inl e) = all cs
  where
    all : (ds : List DraftColumn) → Each (Fine name (Some x)) ds
    all [] = tt
    all (d ∷ ds) = (inl e, all ds)
fine_each name cs (Some x) (inr f) = all cs f
  where
    all : (ds : List DraftColumn) → Each (λ c. Free x.name (new_side c)) ds → Each (Fine name (Some x)) ds
    all [] f = tt
    all (d ∷ ds) f = (inr f.0, all ds f.1)

left_put : (name : List ℕ) (o p q : Option Column) (d : DraftColumn) → new_side d ≡ q → Fine name o d → is_called name p ≡ true → Differ p q → Differ o q
left_put name None p q d e t h k = tt
left_put name (Some x) p None d e t h k = tt
left_put name (Some x) None (Some y) d e t h k = cc
left_put name (Some x) (Some z) (Some y) d e (inl same) h k = subst (λ n. bytes_eq n y.name ≡ false) (name_is z.name name h ∙ sym same) k
left_put name (Some x) (Some z) (Some y) d e (inr free) h k = other_way y.name x.name (subst (λ r. is_called x.name r ≡ false) e free)

right_put : (name : List ℕ) (o p q : Option Column) (c : DraftColumn) → new_side c ≡ p → Fine name o c → is_called name q ≡ true → Differ p q → Differ p o
right_put name o None q c e t h k = tt
right_put name None (Some z) q c e t h k = tt
right_put name (Some x) (Some z) None c e t h k = cc
right_put name (Some x) (Some z) (Some y) c e (inl same) h k = subst (λ n. bytes_eq z.name n ≡ false) (name_is y.name name h ∙ sym same) k
right_put name (Some x) (Some z) (Some y) c e (inr free) h k = subst (λ r. is_called x.name r ≡ false) e free

put_differ : (name : List ℕ) (a : After) (c d : DraftColumn) → Fine name a.column c → Fine name a.column d → Differ (new_side c) (new_side d) → Differ (new_side (put_after name a c)) (new_side (put_after name a d))
put_differ name a c d p q h = by_tests (is_now name c) (is_now name d) refl refl
  where
    by_tests : (b e : Bool) → is_now name c ≡ b → is_now name d ≡ e → Differ (new_side (if b then record c { after = a } else c)) (new_side (if e then record d { after = a } else d))
    by_tests true true f g = absurd (false≢true (sym (differ_not name (new_side c) (new_side d) h f) ∙ g))
    by_tests true false f g = left_put name a.column (new_side c) (new_side d) d refl q f h
    by_tests false true f g = right_put name a.column (new_side c) (new_side d) c refl p g h
    by_tests false false f g = h

pub put_distinct : (name : List ℕ) (a : After) (cs : List DraftColumn) → MayBe name cs a.column → Distinct cs → Distinct (map (put_after name a) cs)
put_distinct name a cs may h = distinct_mapped (put_after name a) (Fine name a.column) (put_differ name a) cs (fine_each name cs a.column may) h

-- ---- places at which a column stands

abbrev pub Stands : List DraftColumn → ℕ → Type 0
Stands cs at = is_some (option_and_then new_side (slice_get cs at)) ≡ true

pub stands_more : (cs more : List DraftColumn) (at : ℕ) → Stands cs at → Stands (cs ++ more) at
stands_more [] more at h = cc
stands_more (c ∷ cs) more zero h = h
stands_more (c ∷ cs) more (suc at) h = stands_more cs more at h

pub get_last : {X : Type 0} (xs : List X) (x : X) → slice_get (xs ++ x ∷ []) (length xs) ≡ Some x
get_last [] x = refl
get_last (y ∷ xs) x = get_last xs x

pub get_more : {X : Type 0} (xs more : List X) (k : ℕ) (x : X) → slice_get xs k ≡ Some x → slice_get (xs ++ more) k ≡ Some x
get_more [] more k x h = cc
get_more (y ∷ xs) more zero x h = h
get_more (y ∷ xs) more (suc k) x h = get_more xs more k x h

pub stands_mapped : (f : DraftColumn → DraftColumn) (cs : List DraftColumn) (at : ℕ) → ((c : DraftColumn) → slice_get cs at ≡ Some c → is_some (new_side c) ≡ true → is_some (new_side (f c)) ≡ true) → Stands cs at → Stands (map f cs) at
stands_mapped f [] at kept h = cc
stands_mapped f (c ∷ cs) zero kept h = kept c refl h
stands_mapped f (c ∷ cs) (suc at) kept h = stands_mapped f cs at (λ d e. kept d e) h

named_stands : (name : List ℕ) (p : Option Column) → is_called name p ≡ true → is_some p ≡ true
named_stands name None h = cc
named_stands name (Some x) h = refl

behind : (c : DraftColumn) (cs : List DraftColumn) (n : ℕ) → Stands cs n → Stands (c ∷ cs) (1 + n)
behind c cs n h =
    let next : suc n ≡ 1 + n = omega arith in
    subst (λ m. Stands (c ∷ cs) m) next h

pub place_stands : (cs : List DraftColumn) (name : List ℕ) → is_some (find (is_now name) cs) ≡ true → Stands cs (place_named cs name)
place_stands [] name h = cc
place_stands (c ∷ cs) name h = by_test (place_stands cs name) (is_now name c) refl h
  where
    by_test : (is_some (find (is_now name) cs) ≡ true → Stands cs (place_named cs name)) → (b : Bool) → is_now name c ≡ b → is_some (if b then Some c else find (is_now name) cs) ≡ true → Stands (c ∷ cs) (place_named (c ∷ cs) name)
    by_test more true g k = rw g (named_stands name (new_side c) g)
    by_test more false g k = rw g (behind c cs (place_named cs name) (more k))
