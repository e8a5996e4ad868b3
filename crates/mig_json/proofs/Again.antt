-- A value that was read is read again of the JSON value that it is written as.
use Rattle.std.proofs.Common.{◌≡◌, ℕ, ◌≤◌, List, [], ◌∷◌, ◌++◌, map, length, Bool, true, false, ◌&&◌, ◌||◌, not, Option, Some, None, option_map, Ordering, Less, Equal, Greater, nat_cmp, refl, sym, ap, ◌∙◌, subst, arith, fold}
use Rattle.std.proofs.lemmas.Bool.{and_parts}
use Rattle.std.proofs.lemmas.Cmp.{nat_list_cmp_total}
use Rattle.std.proofs.lemmas.Slice.Eq.{bytes_eq-Decides}
use Rattle.std.proofs.lemmas.Str.{utf8_lossy-IsUtf8}
use Rattle.std.specs.Cmp.Lexicographic.{slice_cmp}
use Rattle.std.specs.List.{AllByRecursion, list_any, list_all}
use Rattle.std.specs.Ordering.{match_ordering, ordering_reverse}
use Rattle.std.specs.Prelude.{IfSome, bytes_eq}
use Rattle.std.specs.Str.Lossy.{utf8_lossy}
use Rattle.serde_json.proofs.Views.{get_member-put, get_member-put_other}
use Rattle.serde_json.specs.Data.{Data, object, Items, no_items, item, Members, no_members, member, put}
use Rattle.serde_json.specs.Data as json
use Rattle.serde_json.specs.Find.{get_member}
use Rattle.serde_json.specs.View.{items_of}
use Rattle.serde_json.specs.Written.{compact_text, items_text, members_text}
use Rattle.sql_base.specs.declared.exprs.Expr.{Expr}
use Rattle.sql_base.specs.declared.exprs.Expr.TheVariants.{Lit}
use Rattle.sql_base.specs.declared.values.Ty.{Ty}
use Rattle.sql_base.specs.declared.values.Ty.TheVariants as ty
use Rattle.sql_text.specs.Printing.{spelled, type_name}
use Rattle.sql_parse.specs.Laws.{ReadBack}
use Rattle.mig_lens.specs.declared.migrations.Ways.{Ways}
use Rattle.mig_lens.specs.declared.migrations.Ways.TheVariants.{One, Each}
use Rattle.mig_json.specs.Demand.{IsExpression, max_expression}
use Rattle.mig_json.specs.Kind as kind
use Rattle.mig_json.specs.Kind.{Kind, Fields, keys, ValueOf, ValuesOf, Is, Are, Has, May, IsTextOf, AreItems, ArePairs, AreEach, IsWays, type_of, is_filled}
use Rattle.mig_json.specs.Member.{is_member, keys_of}
use Rattle.mig_json.specs.Writing.{expression_data, put_if, with_pair, pairs_data, ways_data, data_of, members_with}
use Rattle.mig_json.proofs.Fitting.{Fits, AllFit, IsSpelled, IsFilled, PairsFit, ComesFirst, WaysFit, part_text}
use Rattle.mig_json.proofs.Lengths.{quoted_longer, found_shorter, first_shorter, rest_shorter, item_shorter, items_shorter}
use Rattle.mig_json.proofs.Spelled.{spelled_utf8}

-- ---- tables: no member stands twice in one

abbrev pub are_different : List (List ℕ) → Bool
are_different [] = true
are_different (k ∷ ks) = not (is_member ks k) && are_different ks

abbrev mutual
  pub is_sound : Kind → Bool
  is_sound kind.name = true
  is_sound kind.type = true
  is_sound kind.flag = true
  is_sound (kind.word text) = true
  is_sound (kind.expression place) = true
  is_sound (kind.literal place) = true
  is_sound (kind.object fields) = are_different (keys fields) && (list_all (is_member (keys fields)) (keys fields) && are_sound fields)
  is_sound (kind.many kind) = is_sound kind
  is_sound kind.names = true
  is_sound (kind.each place) = true
  is_sound (kind.ways place) = true

  pub are_sound : Fields → Bool
  are_sound kind.end = true
  are_sound (kind.must key kind fields) = is_sound kind && are_sound fields
  are_sound (kind.may key kind fields) = is_sound kind && are_sound fields
  are_sound (kind.never key fields) = are_sound fields

-- ---- members

-- none of these names has a member
abbrev pub AreAbsent : List (List ℕ) → Members → Type 0
AreAbsent ks ms = AllByRecursion (λ k. get_member k ms ≡ None) ks

not_true : (b : Bool) → not b ≡ true → b ≡ true → ⊥
not_true true e f = absurd cc
not_true false e f = absurd cc

or_left : (a b : Bool) → (a || b ≡ true → ⊥) → a ≡ true → ⊥
or_left true b h e = h refl
or_left false b h e = absurd cc

or_right : (a b : Bool) → (a || b ≡ true → ⊥) → b ≡ true → ⊥
or_right true b h e = h refl
or_right false b h e = h e

absent_put : (k : List ℕ) (d : Data) (ms : Members) (ks : List (List ℕ)) → (is_member ks k ≡ true → ⊥) → AreAbsent ks ms → AreAbsent ks (put k d ms)
absent_put k d ms [] other h = tt
absent_put k d ms (q ∷ ks) other h =
    let apart : q ≡ k → ⊥ = λ same. or_left (bytes_eq k q) (list_any (bytes_eq k) ks) other ((bytes_eq-Decides k q).1 (sym same)) in
    (get_member-put_other q k d ms apart ∙ h.0, absent_put k d ms ks (or_right (bytes_eq k q) (list_any (bytes_eq k) ks) other) h.1)

nothing : (ks : List (List ℕ)) → AreAbsent ks no_members
nothing [] = tt
nothing (k ∷ ks) = (refl, nothing ks)

absent_put_if : (k : List ℕ) (o : Option Data) (ms : Members) (ks : List (List ℕ)) → (is_member ks k ≡ true → ⊥) → AreAbsent ks ms → AreAbsent ks (put_if k o ms)
absent_put_if k None ms ks other h = h
absent_put_if k (Some d) ms ks other h = absent_put k d ms ks other h

kept_put_if : (q k : List ℕ) (o : Option Data) (ms : Members) → (q ≡ k → ⊥) → get_member q (put_if k o ms) ≡ get_member q ms
kept_put_if q k None ms apart = refl
kept_put_if q k (Some d) ms apart = get_member-put_other q k d ms apart

-- a member of another name stays what it is
kept : (q : List ℕ) (fields : Fields) (xs : ValuesOf fields) (ms : Members) → (is_member (keys fields) q ≡ true → ⊥) → get_member q (members_with fields xs ms) ≡ get_member q ms
kept q kind.end xs ms other = refl
kept q (kind.must key kind fields) xs ms other =
    let apart : q ≡ key → ⊥ = λ same. or_left (bytes_eq q key) (list_any (bytes_eq q) (keys fields)) other ((bytes_eq-Decides q key).1 same) in
    kept q fields xs.1 (put key (data_of kind xs.0) ms) (or_right (bytes_eq q key) (list_any (bytes_eq q) (keys fields)) other) ∙ get_member-put_other q key (data_of kind xs.0) ms apart
kept q (kind.may key kind fields) xs ms other =
    let apart : q ≡ key → ⊥ = λ same. or_left (bytes_eq q key) (list_any (bytes_eq q) (keys fields)) other ((bytes_eq-Decides q key).1 same) in
    let o = option_map (λ x. data_of kind x) xs.0 in
    kept q fields xs.1 (put_if key o ms) (or_right (bytes_eq q key) (list_any (bytes_eq q) (keys fields)) other) ∙ kept_put_if q key o ms apart
kept q (kind.never key fields) xs ms other = kept q fields xs ms (or_right (bytes_eq q key) (list_any (bytes_eq q) (keys fields)) other)

found_put_if : (k : List ℕ) (o : Option Data) (ms : Members) → get_member k ms ≡ None → get_member k (put_if k o ms) ≡ o
found_put_if k None ms h = h
found_put_if k (Some d) ms h = get_member-put k d ms

-- ---- no other members

and_both : (a b : Bool) → a ≡ true → b ≡ true → a && b ≡ true
and_both true b e f = f
and_both false b e f = absurd cc

known_put : (p : List ℕ → Bool) (k : List ℕ) (d : Data) (ms : Members) → p k ≡ true → list_all p (keys_of ms) ≡ true → list_all p (keys_of (put k d ms)) ≡ true
known_put p k d no_members one all = and_both (p k) true one refl
known_put p k d (member l e ms) one all = by_place (slice_cmp nat_cmp k l) (λ h. known_put p k d ms one h)
  where
    by_place : (o : Ordering) → (list_all p (keys_of ms) ≡ true → list_all p (keys_of (put k d ms)) ≡ true) → list_all p (keys_of (match_ordering o (member k d (member l e ms)) (member l d ms) (member l e (put k d ms)))) ≡ true
    by_place Less more = and_both (p k) _ one all
    by_place Equal more = all
    by_place Greater more = let both = and_parts (p l) _ all in and_both (p l) _ both.0 (more both.1)

known_put_if : (p : List ℕ → Bool) (k : List ℕ) (o : Option Data) (ms : Members) → p k ≡ true → list_all p (keys_of ms) ≡ true → list_all p (keys_of (put_if k o ms)) ≡ true
known_put_if p k None ms one all = all
known_put_if p k (Some d) ms one all = known_put p k d ms one all

known : (p : List ℕ → Bool) (fields : Fields) (xs : ValuesOf fields) (ms : Members) → list_all p (keys fields) ≡ true → list_all p (keys_of ms) ≡ true → list_all p (keys_of (members_with fields xs ms)) ≡ true
known p kind.end xs ms all h = h
known p (kind.must key kind fields) xs ms all h =
    let both = and_parts (p key) _ all in known p fields xs.1 (put key (data_of kind xs.0) ms) both.1 (known_put p key (data_of kind xs.0) ms both.0 h)
known p (kind.may key kind fields) xs ms all h =
    let both = and_parts (p key) _ all in
    let o = option_map (λ x. data_of kind x) xs.0 in
    known p fields xs.1 (put_if key o ms) both.1 (known_put_if p key o ms both.0 h)
known p (kind.never key fields) xs ms all h = let both = and_parts (p key) _ all in known p fields xs ms both.1 h

-- ---- pairs

-- the pairs as members, in their order
abbrev row : List (List ℕ × Expr) → Members
row [] = no_members
row (x ∷ xs) = member x.0 (expression_data x.1) (row xs)

abbrev pub onto : Members → Members → Members
onto no_members ns = ns
onto (member k d ms) ns = member k d (onto ms ns)

pub onto_end : (ms : Members) → onto ms no_members ≡ ms
onto_end no_members = refl
onto_end (member k d ms) = ap (member k d) (onto_end ms)

-- the members' keys come before this one
abbrev pub AreBefore : Members → List ℕ → Type 0
AreBefore no_members k = Unit {0}
AreBefore (member l e ms) k = (slice_cmp nat_cmp l k ≡ Less) × AreBefore ms k

pub put_last : (k : List ℕ) (d : Data) (ms : Members) → AreBefore ms k → put k d ms ≡ onto ms (member k d no_members)
put_last k d no_members h = refl
put_last k d (member l e ms) h =
    let above : slice_cmp nat_cmp k l ≡ Greater = nat_list_cmp_total.antisymm k l ∙ ap ordering_reverse h.0 in
    rw above (ap (member l e) (put_last k d ms h.1))

pub onto_onto : (ms : Members) (k : List ℕ) (d : Data) (ns : Members) → onto (onto ms (member k d no_members)) ns ≡ onto ms (member k d ns)
onto_onto no_members k d ns = refl
onto_onto (member l e ms) k d ns = ap (member l e) (onto_onto ms k d ns)

pub before_next : (ms : Members) (k : List ℕ) (d : Data) (q : List ℕ) → AreBefore ms k → slice_cmp nat_cmp k q ≡ Less → AreBefore (onto ms (member k d no_members)) q
before_next no_members k d q h less = (less, tt)
before_next (member l e ms) k d q h less = (nat_list_cmp_total.trans l k q h.0 less, before_next ms k d q h.1 less)

-- all come before the first pair
abbrev AreBeforeAll : Members → List (List ℕ × Expr) → Type 0
AreBeforeAll ms [] = Unit {0}
AreBeforeAll ms (x ∷ xs) = AreBefore ms x.0

in_row : (ms : Members) (xs : List (List ℕ × Expr)) → AreBeforeAll ms xs → PairsFit xs → fold with_pair ms xs ≡ onto ms (row xs)
in_row ms [] h fit = sym (onto_end ms)
in_row ms (x ∷ xs) h fit =
    let d = expression_data x.1 in
    let put_at : with_pair ms x ≡ onto ms (member x.0 d no_members) = ap (λ k. put k d ms) (part_text x.0 fit.1.0) ∙ put_last x.0 d ms h in
    ap (λ ns. fold with_pair ns xs) put_at ∙ in_row (onto ms (member x.0 d no_members)) xs (next xs fit.0) fit.1.1.1 ∙ onto_onto ms x.0 d (row xs)
  where
    next : (xs : List (List ℕ × Expr)) → ComesFirst x.0 xs → AreBeforeAll (onto ms (member x.0 (expression_data x.1) no_members)) xs
    next [] first = tt
    next (y ∷ ys) first = before_next ms x.0 (expression_data x.1) y.0 h first

-- ---- values

type_again : (t : Ty) → type_of (type_name t) ≡ Some t
type_again ty.Bigint = refl
type_again ty.Text = refl
type_again ty.Boolean = refl

module _ (read_back : ReadBack) where
  -- the value's text isn't too long
  abbrev IsShort : Data → Type 0
  IsShort d = length (compact_text d) ≤ max_expression

  text_again : (a : Expr) → IsSpelled a → IsShort (expression_data a) → IsTextOf (λ text. IsExpression text a) (expression_data a)
  text_again a fit short =
      let same : utf8_lossy (spelled a) ≡ spelled a = utf8_lossy-IsUtf8 (spelled a) (spelled_utf8 fit.0) in
      let within : length (utf8_lossy (spelled a)) ≤ max_expression = omega (arith, quoted_longer (utf8_lossy (spelled a)), short) in
      (spelled a, ap json.string same, record { short = subst (λ text. length text ≤ max_expression) same within; reads = (read_back a fit.0, fit.1) })

  row_again : (later : Bool) (xs : List (List ℕ × Expr)) → PairsFit xs → length (members_text later (row xs)) ≤ max_expression → ArePairs (row xs) xs
  row_again later [] fit short = refl
  row_again later (x ∷ xs) fit short =
      let d = expression_data x.1 in
      let one : IsShort d = omega (arith, first_shorter later x.0 d (row xs), short) in
      let more : length (members_text true (row xs)) ≤ max_expression = omega (arith, rest_shorter later x.0 d (row xs), short) in
      (x, xs, (refl, fit.1.0, text_again x.1 fit.1.1.0 one), row_again true xs fit.1.1.1 more, refl)

  pairs_again : (xs : List (List ℕ × Expr)) → PairsFit xs → IsShort (pairs_data xs) → AreEach (pairs_data xs) xs
  pairs_again xs fit short =
      let same : fold with_pair no_members xs ≡ row xs = in_row no_members xs (none_before xs) fit in
      let within : length (compact_text (object (row xs))) ≤ max_expression = subst (λ ms. length (compact_text (object ms)) ≤ max_expression) same short in
      (row xs, ap object same, row_again false xs fit (omega (arith, within)))
    where
      none_before : (xs : List (List ℕ × Expr)) → AreBeforeAll no_members xs
      none_before [] = tt
      none_before (x ∷ xs) = tt

  ways_again : (x : Ways) → WaysFit x → IsShort (ways_data x) → IsWays (ways_data x) x
  ways_again (One a) fit short = text_again a fit short
  ways_again (Each pairs) fit short = pairs_again pairs fit short

  filled_again : {T : Type 0} (write : T → Data) (xs : List T) → IsFilled xs → is_filled (items_of (map write xs)) ≡ true
  filled_again write [] some = absurd some
  filled_again write (x ∷ xs) some = refl

  items_again : {T : Type 0} (write : T → Data) (Is : Data → T → Type 0) (P : T → Type 0) (before : List Data) (later : Bool) (xs : List T) → ((x : T) → P x → IsShort (write x) → Is (write x) x) → AllByRecursion P xs
      → length (items_text later (items_of (map write xs))) ≤ max_expression → AreItems (λ before. Is) before (items_of (map write xs)) xs
  items_again write Is P before later [] each fit short = refl
  items_again write Is P before later (x ∷ xs) each fit short =
      let ds = items_of (map write xs) in
      let one : IsShort (write x) = omega (arith, item_shorter later (write x) ds, short) in
      let more : length (items_text true ds) ≤ max_expression = omega (arith, items_shorter later (write x) ds, short) in
      (x, xs, each x fit.0 one, items_again write Is P (before ++ write x ∷ []) true xs each fit.1 more, refl)

  may_again : {T : Type 0} (write : T → Data) (Is : Data → T → Type 0) (P : T → Type 0) (o : Option T) → ((x : T) → P x → IsShort (write x) → Is (write x) x) → IfSome o P → ((d : Data) → option_map write o ≡ Some d → IsShort d) → May Is (option_map write o) o
  may_again write Is P None each fit short = refl
  may_again write Is P (Some x) each fit short = (x, each x fit (short (write x) refl), refl)

  mutual
    pub again : (kind : Kind) (x : ValueOf kind) → is_sound kind ≡ true → Fits kind x → IsShort (data_of kind x) → Is kind (data_of kind x) x
    again kind.name x sound fit short = (ap json.string (part_text x fit), fit)
    again kind.type x sound fit short = (type_name x, refl, type_again x)
    again kind.flag x sound fit short = refl
    again (kind.word text) x sound fit short = refl
    again (kind.expression place) x sound fit short = text_again x fit short
    again (kind.literal place) x sound fit short = text_again (Lit x) fit short
    again (kind.object fields) xs sound fit short =
        let different = and_parts (are_different (keys fields)) _ sound in
        let members = and_parts (list_all (is_member (keys fields)) (keys fields)) _ different.1 in
        (known (is_member (keys fields)) fields xs no_members members.0 refl, fields_again fields xs no_members different.0 members.1 (nothing (keys fields)) fit short)
    again (kind.many kind) xs sound fit short = (
      items_of (map (λ x. data_of kind x) xs),
      refl,
      filled_again (λ x. data_of kind x) xs fit.0,
      items_again (λ x. data_of kind x) (λ d x. Is kind d x) (λ x. Fits kind x) [] false xs (λ x one brief. again kind x sound one brief) fit.1 (omega (arith, short)),
    )
    again kind.names xs sound fit short = fit
    again (kind.each place) xs sound fit short = pairs_again xs fit short
    again (kind.ways place) x sound fit short = ways_again x fit short

    fields_again : (fields : Fields) (xs : ValuesOf fields) (ms : Members) → are_different (keys fields) ≡ true → are_sound fields ≡ true → AreAbsent (keys fields) ms → AllFit fields xs
        → IsShort (object (members_with fields xs ms)) → Are fields (object (members_with fields xs ms)) xs
    fields_again kind.end xs ms different sound absent fit short = tt
    fields_again (kind.must key kind fields) xs ms different sound absent fit short =
        let d = data_of kind xs.0 in
        let apart = and_parts (not (is_member (keys fields) key)) _ different in
        let other : is_member (keys fields) key ≡ true → ⊥ = not_true _ apart.0 in
        let both = and_parts (is_sound kind) _ sound in
        let whole = members_with fields xs.1 (put key d ms) in
        let found : get_member key whole ≡ Some d = kept key fields xs.1 (put key d ms) other ∙ get_member-put key d ms in
        let brief : IsShort d = omega (arith, found_shorter key whole d found, short) in (
          subst (λ o. Has (λ e x. Is kind e x) o xs.0) (sym found) (again kind xs.0 both.0 fit.0 brief),
          fields_again fields xs.1 (put key d ms) apart.1 both.1 (absent_put key d ms (keys fields) other absent.1) fit.1 short,
        )
    fields_again (kind.may key kind fields) xs ms different sound absent fit short =
        let o = option_map (λ x. data_of kind x) xs.0 in
        let apart = and_parts (not (is_member (keys fields) key)) _ different in
        let other : is_member (keys fields) key ≡ true → ⊥ = not_true _ apart.0 in
        let both = and_parts (is_sound kind) _ sound in
        let whole = members_with fields xs.1 (put_if key o ms) in
        let found : get_member key whole ≡ o = kept key fields xs.1 (put_if key o ms) other ∙ found_put_if key o ms absent.0 in
        let brief : (d : Data) → o ≡ Some d → IsShort d = λ d is. omega (arith, found_shorter key whole d (found ∙ is), short) in (
          subst (λ o. May (λ e x. Is kind e x) o xs.0) (sym found) (may_again (λ x. data_of kind x) (λ e x. Is kind e x) (λ x. Fits kind x) xs.0 (λ x one brief. again kind x both.0 one brief) fit.0 brief),
          fields_again fields xs.1 (put_if key o ms) apart.1 both.1 (absent_put_if key o ms (keys fields) other absent.1) fit.1 short,
        )
    fields_again (kind.never key fields) xs ms different sound absent fit short =
        let apart = and_parts (not (is_member (keys fields) key)) _ different in
        let other : is_member (keys fields) key ≡ true → ⊥ = not_true _ apart.0 in
        (kept key fields xs ms other ∙ absent.0, fields_again fields xs ms apart.1 sound absent.1 fit short)
