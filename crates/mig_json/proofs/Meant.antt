-- Values that meet what their kind demands are of it, and the other way round; and they are one value.
use Rattle.std.proofs.Common.{◌≡◌, ℕ, List, [], ◌∷◌, ◌++◌, length, Bool, true, false, not, Option, Some, None, is_some, refl, sym, ◌∙◌, ap, subst}
use Rattle.std.specs.Prelude.{bytes_eq}
use Rattle.std.proofs.lemmas.Slice.Eq.{bytes_eq-Decides}
use Rattle.serde_json.specs.Data.{Data, Items, no_items, item, Members, no_members, member}
use Rattle.serde_json.specs.Data as json
use Rattle.serde_json.specs.Find.{get, as_str, as_array}
use Rattle.sql_base.specs.declared.exprs.Expr.{Expr}
use Rattle.sql_base.specs.declared.exprs.Expr.TheVariants.{Lit}
use Rattle.sql_base.specs.declared.values.Ty.{Ty}
use Rattle.sql_base.specs.declared.values.Value.{Value}
use Rattle.sql_text.specs.Lexing.{tokens_of}
use Rattle.sql_parse.specs.Grammar.{IsText}
use Rattle.sql_parse.specs.Laws.{OneTree}
use Rattle.mig_lens.specs.declared.migrations.Ways.{Ways}
use Rattle.mig_lens.specs.declared.migrations.Ways.TheVariants.{One, Each}
use Rattle.mig_json.specs.declared.faults.JsonFault.{JsonFault}
use Rattle.mig_lens.specs.declared.faults.Member.{Member}
use Rattle.mig_json.specs.Demand.{Demand, AreMet, IsExpression, inside}
use Rattle.mig_json.specs.Kind as kind
use Rattle.mig_json.specs.Kind.{Kind, Fields, needs, type_of, is_text, is_object, is_flag, has_type, is_list, is_filled, text_of, items_of, members_of, needed, within, member_path, element_path, item_demands, name_demands, pairs_demands, each_demands, demands, field_demands, ValueOf, ValuesOf, Has, May, IsTextOf, AreItems, IsNewName, IsPair, ArePairs, AreEach, IsWays, Is, Are}
use Rattle.mig_json.specs.Name.{is_part_name}
use Rattle.mig_json.proofs.Demands.{met_append, met_parts}

-- ---- what meets the demands is of the kind

pub named : (holds : List ℕ → Bool) (d : Data) → needs holds (as_str d) ≡ true → (x : List ℕ) × (d ≡ json.string x) × (holds x ≡ true)
named holds json.null h = absurd cc
named holds (json.boolean b) h = absurd cc
named holds (json.number n) h = absurd cc
named holds (json.string s) h = (s, refl, h)
named holds (json.array ds) h = absurd cc
named holds (json.object ms) h = absurd cc

some : {T : Type 0} (o : Option T) → is_some o ≡ true → (x : T) × (o ≡ Some x)
some None h = absurd cc
some (Some x) h = (x, refl)

typed : (d : Data) → has_type d ≡ true → (x : Ty) × Is kind.type d x
typed json.null h = absurd cc
typed (json.boolean b) h = absurd cc
typed (json.number n) h = absurd cc
typed (json.string s) h = let t = some (type_of s) h in (t.0, (s, refl, t.1))
typed (json.array ds) h = absurd cc
typed (json.object ms) h = absurd cc

flagged : (d : Data) → is_flag d ≡ true → (b : Bool) × (d ≡ json.boolean b)
flagged json.null h = absurd cc
flagged (json.boolean b) h = (b, refl)
flagged (json.number n) h = absurd cc
flagged (json.string s) h = absurd cc
flagged (json.array ds) h = absurd cc
flagged (json.object ms) h = absurd cc

written : (d : Data) → is_text d ≡ true → d ≡ json.string (text_of d)
written json.null h = absurd cc
written (json.boolean b) h = absurd cc
written (json.number n) h = absurd cc
written (json.string s) h = refl
written (json.array ds) h = absurd cc
written (json.object ms) h = absurd cc

pub arrayed : (d : Data) → is_some (as_array d) ≡ true → d ≡ json.array (items_of d)
arrayed json.null h = absurd cc
arrayed (json.boolean b) h = absurd cc
arrayed (json.number n) h = absurd cc
arrayed (json.string s) h = absurd cc
arrayed (json.array ds) h = refl
arrayed (json.object ms) h = absurd cc

filled : (d : Data) → is_list d ≡ true → (d ≡ json.array (items_of d)) × (is_filled (items_of d) ≡ true)
filled json.null h = absurd cc
filled (json.boolean b) h = absurd cc
filled (json.number n) h = absurd cc
filled (json.string s) h = absurd cc
filled (json.array ds) h = (refl, h)
filled (json.object ms) h = absurd cc

objected : (d : Data) → is_object d ≡ true → d ≡ json.object (members_of d)
objected json.null h = absurd cc
objected (json.boolean b) h = absurd cc
objected (json.number n) h = absurd cc
objected (json.string s) h = absurd cc
objected (json.array ds) h = absurd cc
objected (json.object ms) h = refl

same_bytes : (x y : List ℕ) → bytes_eq x y ≡ true → x ≡ y
same_bytes x y h = (bytes_eq-Decides x y).0 h

absent : {T : Type 0} (o : Option T) → not (is_some o) ≡ true → o ≡ None
absent None h = refl
absent (Some x) h = absurd cc

pub met_has : {T : Type 0} (demands : Data → List Demand) (Is : Data → T → Type 0) (fault : JsonFault) (o : Option Data) → ((d : Data) → AreMet (demands d) → (x : T) × Is d x) → AreMet (needed demands fault o) → (x : T) × Has Is o x
met_has demands Is fault None all met = absurd cc
met_has demands Is fault (Some d) all met = all d met.1

pub met_may : {T : Type 0} (demands : Data → List Demand) (Is : Data → T → Type 0) (o : Option Data) → ((d : Data) → AreMet (demands d) → (x : T) × Is d x) → AreMet (within demands o) → (x : Option T) × May Is o x
met_may demands Is None all met = (None, refl)
met_may demands Is (Some d) all met = let it = all d met in (Some it.0, (it.0, it.1, refl))

pub met_items : {T : Type 0} (demands : List Data → Data → List Demand) (Is : List Data → Data → T → Type 0) (before : List Data) (ds : Items) →
    ((before : List Data) (d : Data) → AreMet (demands before d) → (x : T) × Is before d x) → AreMet (item_demands demands before ds) → (xs : List T) × AreItems Is before ds xs
met_items demands Is before no_items all met = ([], refl)
met_items demands Is before (item d ds) all met =
    let parts = met_parts (demands before d) (item_demands demands (before ++ d ∷ []) ds) met in
    let first = all before d parts.0 in
    let rest = met_items demands Is (before ++ d ∷ []) ds all parts.1 in
    (first.0 ∷ rest.0, (first.0, rest.0, first.1, rest.1, refl))

met_name : (at : ℕ) (path : List ℕ) (before : List Data) (d : Data) → AreMet (name_demands at path before d) → (x : List ℕ) × IsNewName before d x
met_name at path before d met = let it = named is_part_name d met.0 in (it.0, (it.1, it.2, met.1.0))

met_pairs : (place : Member) (at : ℕ) (path : List ℕ) (ms : Members) → AreMet (pairs_demands place at path ms) → (xs : List (List ℕ × Expr)) × ArePairs ms xs
met_pairs place at path no_members met = ([], refl)
met_pairs place at path (member key d ms) met =
    let read = met.1.1.0 in
    let rest = met_pairs place at path ms met.1.1.1 in
    ((key, read.0) ∷ rest.0, ((key, read.0), rest.0, (refl, met.0, (text_of d, written d met.1.0, read.1)), rest.1, refl))

met_each : (place : Member) (at : ℕ) (path : List ℕ) (d : Data) → AreMet (each_demands place at path d) → (xs : List (List ℕ × Expr)) × AreEach d xs
met_each place at path d met = let they = met_pairs place at path (members_of d) met.1 in (they.0, (members_of d, objected d met.0, they.1))

met_ways : (place : Member) (at : ℕ) (path : List ℕ) (d : Data) (b : Bool) → is_text d ≡ b → AreMet (demands (kind.ways place) at path d) → (x : Ways) × IsWays d x
met_ways place at path d true e met =
    let read = (rw e at met).0 in (One read.0, (text_of d, written d e, read.1))
met_ways place at path d false e met =
    let they = met_each place at path d (rw e at met) in (Each they.0, they.1)

mutual
  pub met_is : (kind : Kind) (at : ℕ) (path : List ℕ) (d : Data) → AreMet (demands kind at path d) → (x : ValueOf kind) × Is kind d x
  met_is kind.name at path d met = let it = named is_part_name d met.0 in (it.0, (it.1, it.2))
  met_is kind.type at path d met = typed d met.1.0
  met_is kind.flag at path d met = flagged d met.0
  met_is (kind.word text) at path d met = let it = named (λ s. bytes_eq s text) d met.0 in (tt, it.1 ∙ ap json.string (same_bytes it.0 text it.2))
  met_is (kind.expression place) at path d met = (met.1.0.0, (text_of d, written d met.0, met.1.0.1))
  met_is (kind.literal place) at path d met = (met.1.0.0, (text_of d, written d met.0, met.1.0.1))
  met_is (kind.object fields) at path d met = let they = met_are fields at path d met.1 in (they.0, (met.0, they.1))
  met_is (kind.many one) at path d met =
      let is = filled d met.0 in
      let they = met_items (λ before e. demands one at (element_path path (length before)) e) (λ before. Is one) [] (items_of d) (λ before e. met_is one at (element_path path (length before)) e) met.1 in
      (they.0, (items_of d, is.0, is.1, they.1))
  met_is kind.names at path d met =
      let is = filled d met.0 in
      let they = met_items (name_demands at path) IsNewName [] (items_of d) (met_name at path) met.1 in
      (they.0, (items_of d, is.0, is.1, they.1))
  met_is (kind.each place) at path d met = met_each place at path d met
  met_is (kind.ways place) at path d met = met_ways place at path d (is_text d) refl met

  pub met_are : (fields : Fields) (at : ℕ) (path : List ℕ) (d : Data) → AreMet (field_demands fields at path d) → (xs : ValuesOf fields) × Are fields d xs
  met_are kind.end at path d met = (tt, tt)
  met_are (kind.must key one fields) at path d met =
      let parts = met_parts (needed (demands one at (member_path path key)) (inside at (member_path path key)) (get key d)) (field_demands fields at path d) met in
      let first = met_has (demands one at (member_path path key)) (Is one) (inside at (member_path path key)) (get key d) (met_is one at (member_path path key)) parts.0 in
      let rest = met_are fields at path d parts.1 in
      ((first.0, rest.0), (first.1, rest.1))
  met_are (kind.may key one fields) at path d met =
      let parts = met_parts (within (demands one at (member_path path key)) (get key d)) (field_demands fields at path d) met in
      let first = met_may (demands one at (member_path path key)) (Is one) (get key d) (met_is one at (member_path path key)) parts.0 in
      let rest = met_are fields at path d parts.1 in
      ((first.0, rest.0), (first.1, rest.1))
  met_are (kind.never key fields) at path d met =
      let rest = met_are fields at path d met.1 in (rest.0, (absent (get key d) met.0, rest.1))

-- ---- what is of the kind meets the demands

has_met : {T : Type 0} (demands : Data → List Demand) (Is : Data → T → Type 0) (fault : JsonFault) (o : Option Data) (x : T) → ((d : Data) (x : T) → Is d x → AreMet (demands d)) → Has Is o x → AreMet (needed demands fault o)
has_met demands Is fault None x all has = absurd has
has_met demands Is fault (Some d) x all has = (refl, all d x has)

may_met : {T : Type 0} (demands : Data → List Demand) (Is : Data → T → Type 0) (o : Option Data) (x : Option T) → ((d : Data) (x : T) → Is d x → AreMet (demands d)) → May Is o x → AreMet (within demands o)
may_met demands Is None x all h = tt
may_met demands Is (Some d) x all h = all d h.0 h.1

pub items_met : {T : Type 0} (demands : List Data → Data → List Demand) (Is : List Data → Data → T → Type 0) (before : List Data) (ds : Items) (xs : List T) →
    ((before : List Data) (d : Data) (x : T) → Is before d x → AreMet (demands before d)) → AreItems Is before ds xs → AreMet (item_demands demands before ds)
items_met demands Is before no_items xs all h = tt
items_met demands Is before (item d ds) xs all h =
    met_append (demands before d) (item_demands demands (before ++ d ∷ []) ds) (all before d h.0 h.2) (items_met demands Is (before ++ d ∷ []) ds h.1 all h.3)

name_met : (at : ℕ) (path : List ℕ) (before : List Data) (d : Data) (x : List ℕ) → IsNewName before d x → AreMet (name_demands at path before d)
name_met at path before d x h = (rw (h.0) (h.1), (h.2, tt))

pairs_met : (place : Member) (at : ℕ) (path : List ℕ) (ms : Members) (xs : List (List ℕ × Expr)) → ArePairs ms xs → AreMet (pairs_demands place at path ms)
pairs_met place at path no_members xs h = tt
pairs_met place at path (member key d ms) xs (x, rest, (same, is_name, (text, is, reads)), others, made) =
    (is_name, (rw is refl, ((x.1, rw is reads), pairs_met place at path ms rest others)))

each_met : (place : Member) (at : ℕ) (path : List ℕ) (d : Data) (ms : Members) (xs : List (List ℕ × Expr)) → d ≡ json.object ms → ArePairs ms xs → AreMet (each_demands place at path d)
each_met place at path d ms xs is they = rw is (refl, pairs_met place at path ms xs they)

ways_met : (place : Member) (at : ℕ) (path : List ℕ) (d : Data) (x : Ways) → IsWays d x → AreMet (demands (kind.ways place) at path d)
ways_met place at path d (One a) (text, is, reads) = rw is ((a, reads), tt)
ways_met place at path d (Each pairs) (ms, is, they) = rw is (refl, pairs_met place at path ms pairs they)

same_word : (text : List ℕ) → bytes_eq text text ≡ true
same_word text = (bytes_eq-Decides text text).1 refl

mutual
  pub is_met : (kind : Kind) (at : ℕ) (path : List ℕ) (d : Data) (x : ValueOf kind) → Is kind d x → AreMet (demands kind at path d)
  is_met kind.name at path d x is = (rw (is.0) (is.1), tt)
  is_met kind.type at path d x is = (rw (is.1) refl, (rw (is.1, is.2) refl, tt))
  is_met kind.flag at path d x is = (rw is refl, tt)
  is_met (kind.word text) at path d x is = (rw is (same_word text), tt)
  is_met (kind.expression place) at path d x is = (rw (is.1) refl, ((x, rw (is.1) (is.2)), tt))
  is_met (kind.literal place) at path d x is = (rw (is.1) refl, ((x, rw (is.1) (is.2)), tt))
  is_met (kind.object fields) at path d x is = (is.0, are_met fields at path d x is.1)
  is_met (kind.many one) at path d x is = rw (is.1) (is.2, items_met (λ before e. demands one at (element_path path (length before)) e) (λ before. Is one) [] is.0 x (λ before e y. is_met one at (element_path path (length before)) e y) is.3)
  is_met kind.names at path d x is = rw (is.1) (is.2, items_met (name_demands at path) IsNewName [] is.0 x (name_met at path) is.3)
  is_met (kind.each place) at path d x is = each_met place at path d is.0 x is.1 is.2
  is_met (kind.ways place) at path d x is = ways_met place at path d x is

  pub are_met : (fields : Fields) (at : ℕ) (path : List ℕ) (d : Data) (xs : ValuesOf fields) → Are fields d xs → AreMet (field_demands fields at path d)
  are_met kind.end at path d xs are = tt
  are_met (kind.must key one fields) at path d xs are =
      met_append (needed (demands one at (member_path path key)) (inside at (member_path path key)) (get key d)) (field_demands fields at path d)
      (has_met (demands one at (member_path path key)) (Is one) (inside at (member_path path key)) (get key d) xs.0 (is_met one at (member_path path key)) are.0)
      (are_met fields at path d xs.1 are.1)
  are_met (kind.may key one fields) at path d xs are =
      met_append (within (demands one at (member_path path key)) (get key d)) (field_demands fields at path d)
      (may_met (demands one at (member_path path key)) (Is one) (get key d) xs.0 (is_met one at (member_path path key)) are.0)
      (are_met fields at path d xs.1 are.1)
  are_met (kind.never key fields) at path d xs are = (rw (are.0) refl, are_met fields at path d xs are.1)

-- ---- a value of a kind is one value

pair_of : {A B : Type 0} (p q : A × B) → p.0 ≡ q.0 → p.1 ≡ q.1 → p ≡ q
pair_of p q e f = ap (λ (x : _). (x, p.1)) e ∙ ap (λ (y : _). (q.0, y)) f

has_once : {T : Type 0} (Is : Data → T → Type 0) (o : Option Data) (x y : T) → ((d : Data) (x y : T) → Is d x → Is d y → x ≡ y) → Has Is o x → Has Is o y → x ≡ y
has_once Is None x y all h k = absurd h
has_once Is (Some d) x y all h k = all d x y h k

may_once : {T : Type 0} (Is : Data → T → Type 0) (o : Option Data) (x y : Option T) → ((d : Data) (x y : T) → Is d x → Is d y → x ≡ y) → May Is o x → May Is o y → x ≡ y
may_once Is None x y all h k = h ∙ sym k
may_once Is (Some d) x y all h k = h.2 ∙ ap Some (all d h.0 k.0 h.1 k.1) ∙ sym k.2

cons_of : {T : Type 0} (x y : T) (xs ys : List T) → x ≡ y → xs ≡ ys → x ∷ xs ≡ y ∷ ys
cons_of {T} x y xs ys e f = ap (λ (z : T). z ∷ xs) e ∙ ap (λ (zs : List T). y ∷ zs) f

pub items_once : {T : Type 0} (Is : List Data → Data → T → Type 0) (before : List Data) (ds : Items) (xs ys : List T) →
    ((before : List Data) (d : Data) (x y : T) → Is before d x → Is before d y → x ≡ y) → AreItems Is before ds xs → AreItems Is before ds ys → xs ≡ ys
items_once Is before no_items xs ys all h k = h ∙ sym k
items_once Is before (item d ds) xs ys all h k =
    h.4 ∙ cons_of h.0 k.0 h.1 k.1 (all before d h.0 k.0 h.2 k.2) (items_once Is (before ++ d ∷ []) ds h.1 k.1 all h.3 k.3) ∙ sym k.4

same_text : (d : Data) (s t : List ℕ) → d ≡ json.string s → d ≡ json.string t → t ≡ s
same_text d s t e f = cc

same_items : (d : Data) (s t : Items) → d ≡ json.array s → d ≡ json.array t → t ≡ s
same_items d s t e f = cc

same_members : (d : Data) (s t : Members) → d ≡ json.object s → d ≡ json.object t → t ≡ s
same_members d s t e f = cc

new_name_once : (before : List Data) (d : Data) (x y : List ℕ) → IsNewName before d x → IsNewName before d y → x ≡ y
new_name_once before d x y h k = same_text d y x k.0 h.0

module _ (one_tree : OneTree) where
  text_once : (d : Data) (x y : Expr) → IsTextOf (λ text. IsExpression text x) d → IsTextOf (λ text. IsExpression text y) d → x ≡ y
  text_once d x y h k = one_tree (tokens_of h.0) x y h.2.reads.0 (subst (λ (t : List ℕ). IsText (tokens_of t) y) (same_text d h.0 k.0 h.1 k.1) k.2.reads.0)

  pair_once : (key : List ℕ) (d : Data) (x y : List ℕ × Expr) → IsPair key d x → IsPair key d y → x ≡ y
  pair_once key d x y h k = pair_of x y (h.0 ∙ sym k.0) (text_once d x.1 y.1 h.2 k.2)

  pairs_once : (ms : Members) (xs ys : List (List ℕ × Expr)) → ArePairs ms xs → ArePairs ms ys → xs ≡ ys
  pairs_once no_members xs ys h k = h ∙ sym k
  pairs_once (member key d ms) xs ys h k = h.4 ∙ cons_of h.0 k.0 h.1 k.1 (pair_once key d h.0 k.0 h.2 k.2) (pairs_once ms h.1 k.1 h.3 k.3) ∙ sym k.4

  each_once : (d : Data) (xs ys : List (List ℕ × Expr)) → AreEach d xs → AreEach d ys → xs ≡ ys
  each_once d xs ys h k = pairs_once h.0 xs ys h.2 (subst (λ (ms : Members). ArePairs ms ys) (same_members d h.0 k.0 h.1 k.1) k.2)

  ways_once : (d : Data) (x y : Ways) → IsWays d x → IsWays d y → x ≡ y
  ways_once d (One a) (One b) h k = ap One (text_once d a b h k)
  ways_once d (One a) (Each ys) h k = absurd (no_text d h.0 k.0 h.1 k.1)
    where
      no_text : (d : Data) (s : List ℕ) (ms : Members) → d ≡ json.string s → d ≡ json.object ms → ⊥
      no_text d s ms e f = absurd cc
  ways_once d (Each xs) (One b) h k = absurd (no_object d h.0 k.0 h.1 k.1)
    where
      no_object : (d : Data) (ms : Members) (s : List ℕ) → d ≡ json.object ms → d ≡ json.string s → ⊥
      no_object d ms s e f = absurd cc
  ways_once d (Each xs) (Each ys) h k = ap Each (each_once d xs ys h k)

  same_type : (x y : Ty) → Some x ≡ Some y → x ≡ y
  same_type x y e = cc

  same_flag : (d : Data) (x y : Bool) → d ≡ json.boolean x → d ≡ json.boolean y → x ≡ y
  same_flag d x y e f = cc

  same_literal : (x y : Value) → Lit x ≡ Lit y → x ≡ y
  same_literal x y e = cc

  mutual
    pub is_once : (kind : Kind) (d : Data) (x y : ValueOf kind) → Is kind d x → Is kind d y → x ≡ y
    is_once kind.name d x y h k = same_text d y x k.0 h.0
    is_once kind.type d x y h k = same_type x y (sym h.2 ∙ ap type_of (same_text d k.0 h.0 k.1 h.1) ∙ k.2)
    is_once kind.flag d x y h k = same_flag d x y h k
    is_once (kind.word text) d x y h k = refl
    is_once (kind.expression place) d x y h k = text_once d x y h k
    is_once (kind.literal place) d x y h k = same_literal x y (text_once d (Lit x) (Lit y) h k)
    is_once (kind.object fields) d x y h k = are_once fields d x y h.1 k.1
    is_once (kind.many one) d x y h k =
        items_once (λ before. Is one) [] h.0 x y (λ before. is_once one) h.3 (subst (λ (ds : Items). AreItems (λ before. Is one) [] ds y) (same_items d h.0 k.0 h.1 k.1) k.3)
    is_once kind.names d x y h k = items_once IsNewName [] h.0 x y new_name_once h.3 (subst (λ (ds : Items). AreItems IsNewName [] ds y) (same_items d h.0 k.0 h.1 k.1) k.3)
    is_once (kind.each place) d x y h k = each_once d x y h k
    is_once (kind.ways place) d x y h k = ways_once d x y h k

    pub are_once : (fields : Fields) (d : Data) (xs ys : ValuesOf fields) → Are fields d xs → Are fields d ys → xs ≡ ys
    are_once kind.end d xs ys h k = refl
    are_once (kind.must key one fields) d xs ys h k = pair_of xs ys (has_once (Is one) (get key d) xs.0 ys.0 (is_once one) h.0 k.0) (are_once fields d xs.1 ys.1 h.1 k.1)
    are_once (kind.may key one fields) d xs ys h k = pair_of xs ys (may_once (Is one) (get key d) xs.0 ys.0 (is_once one) h.0 k.0) (are_once fields d xs.1 ys.1 h.1 k.1)
    are_once (kind.never key fields) d xs ys h k = are_once fields d xs ys h.1 k.1
