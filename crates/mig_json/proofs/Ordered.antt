-- The members of each object that a text is read as stand in ascending order of their keys.
use Rattle.std.proofs.Common.{◌≡◌, ℕ, List, Bool, true, false, cond, Option, Some, None, option_map, option_and_then, Ordering, Less, Equal, Greater, nat_cmp, refl, ap, ◌∙◌}
use Rattle.std.proofs.lemmas.Cmp.{nat_list_cmp_total}
use Rattle.std.specs.Cmp.Lexicographic.{slice_cmp}
use Rattle.std.specs.Prelude.{IfSome}
use Rattle.std.specs.Ordering.{match_ordering, ordering_reverse}
use Rattle.std.specs.Str.{is_utf8}
use Rattle.json.specs.Json as text
use Rattle.json.specs.Lex.{tokens}
use Rattle.serde_json.specs.Data.{Data, null, boolean, number, string, array, object, Items, no_items, item, Members, no_members, member, put}
use Rattle.serde_json.specs.Find.{get, get_member}
use Rattle.serde_json.specs.Read.{of_json, of_items, of_members, number_of, max_depth, read}
use Rattle.mig_json.specs.Reading.{json_in}

-- the key comes before those of the members
abbrev pub IsBefore : List ℕ → Members → Type 0
IsBefore k no_members = Unit {0}
IsBefore k (member l e ms) = slice_cmp nat_cmp k l ≡ Less

abbrev mutual
  pub IsOrdered : Data → Type 0
  IsOrdered null = Unit {0}
  IsOrdered (boolean b) = Unit {0}
  IsOrdered (number n) = Unit {0}
  IsOrdered (string s) = Unit {0}
  IsOrdered (array ds) = AreOrdered ds
  IsOrdered (object ms) = InOrder ms

  pub AreOrdered : Items → Type 0
  AreOrdered no_items = Unit {0}
  AreOrdered (item d ds) = IsOrdered d × AreOrdered ds

  pub InOrder : Members → Type 0
  InOrder no_members = Unit {0}
  InOrder (member k d ms) = IsBefore k ms × (IsOrdered d × InOrder ms)

-- ---- a member more

pub less_of_greater : (k l : List ℕ) → slice_cmp nat_cmp k l ≡ Greater → slice_cmp nat_cmp l k ≡ Less
less_of_greater k l e = nat_list_cmp_total.antisymm l k ∙ ap ordering_reverse e

pub before_put : (l k : List ℕ) (d : Data) (ms : Members) → slice_cmp nat_cmp l k ≡ Less → IsBefore l ms → IsBefore l (put k d ms)
before_put l k d no_members low h = low
before_put l k d (member m e ms) low h = by_place (slice_cmp nat_cmp k m)
  where
    by_place : (o : Ordering) → IsBefore l (match_ordering o (member k d (member m e ms)) (member m d ms) (member m e (put k d ms)))
    by_place Less = low
    by_place Equal = h
    by_place Greater = h

pub put_in_order : (k : List ℕ) (d : Data) (ms : Members) → IsOrdered d → InOrder ms → InOrder (put k d ms)
put_in_order k d no_members one h = (tt, (one, tt))
put_in_order k d (member l e ms) one h = by_place (slice_cmp nat_cmp k l) (put_in_order k d ms one h.1.1) refl
  where
    by_place : (o : Ordering) → InOrder (put k d ms) → slice_cmp nat_cmp k l ≡ o → InOrder (match_ordering o (member k d (member l e ms)) (member l d ms) (member l e (put k d ms)))
    by_place Less more e = (e, (one, h))
    by_place Equal more e = (h.0, (one, h.1.1))
    by_place Greater more e = (before_put l k d ms (less_of_greater k l e) h.0, (h.1.0, more))

-- ---- what is read

on_map : {A B : Type 0} (P : A → Type 0) (Q : B → Type 0) (f : A → B) (o : Option A) → IfSome o P → ((a : A) → P a → Q (f a)) → IfSome (option_map f o) Q
on_map P Q f None h g = tt
on_map P Q f (Some a) h g = g a h

on_then : {A B : Type 0} (P : A → Type 0) (Q : B → Type 0) (f : A → Option B) (o : Option A) → IfSome o P → ((a : A) → P a → IfSome (f a) Q) → IfSome (option_and_then f o) Q
on_then P Q f None h g = tt
on_then P Q f (Some a) h g = g a h

anything : {A : Type 0} (o : Option A) → IfSome o (λ a. Unit {0})
anything None = tt
anything (Some a) = tt

mutual
  json_ordered : (j : text.Json) → IfSome (of_json j) IsOrdered
  json_ordered text.null = tt
  json_ordered (text.boolean b) = tt
  json_ordered (text.number s) = on_map (λ n. Unit {0}) IsOrdered number (number_of s) (anything (number_of s)) (λ n h. tt)
  json_ordered (text.string s) = tt
  json_ordered (text.array js) = on_map AreOrdered IsOrdered array (of_items js) (items_ordered js) (λ ds h. h)
  json_ordered (text.object ms) = on_map InOrder IsOrdered object (of_members ms no_members) (members_ordered ms no_members tt) (λ ds h. h)

  items_ordered : (js : text.Items) → IfSome (of_items js) AreOrdered
  items_ordered text.no_items = tt
  items_ordered (text.item j js) =
      on_then IsOrdered AreOrdered (λ d. option_map (item d) (of_items js)) (of_json j) (json_ordered j) (λ d h. on_map AreOrdered AreOrdered (item d) (of_items js) (items_ordered js) (λ ds hs. (h, hs)))

  members_ordered : (ms : text.Members) (found : Members) → InOrder found → IfSome (of_members ms found) InOrder
  members_ordered text.no_members found h = h
  members_ordered (text.member k j ms) found h =
      on_then IsOrdered InOrder (λ d. of_members ms (put k d found)) (of_json j) (json_ordered j) (λ d one. members_ordered ms (put k d found) (put_in_order k d found one h))

pub read_ordered : (bytes : List ℕ) → IfSome (json_in bytes) IsOrdered
unfolding json_in
read_ordered bytes = by_test (is_utf8 bytes)
  where
    whole : IfSome (read bytes) IsOrdered
    whole = let found = option_and_then (λ p. text.if_last p.0 p.1) (text.value max_depth (tokens bytes)) in on_then (λ j. Unit {0}) IsOrdered of_json found (anything found) (λ j h. json_ordered j)

    by_test : (b : Bool) → IfSome (cond b (read bytes) None) IsOrdered
    by_test true = whole
    by_test false = tt

-- ---- what is found

member_ordered : (key : List ℕ) (ms : Members) → InOrder ms → IfSome (get_member key ms) IsOrdered
member_ordered key no_members h = tt
member_ordered key (member l e ms) h = by_place (slice_cmp nat_cmp key l) (member_ordered key ms h.1.1)
  where
    by_place : (o : Ordering) → IfSome (get_member key ms) IsOrdered → IfSome (match_ordering o (get_member key ms) (Some e) (get_member key ms)) IsOrdered
    by_place Less more = more
    by_place Equal more = h.1.0
    by_place Greater more = more

pub found_ordered : (key : List ℕ) (d : Data) → IsOrdered d → IfSome (get key d) IsOrdered
found_ordered key null h = tt
found_ordered key (boolean b) h = tt
found_ordered key (number n) h = tt
found_ordered key (string s) h = tt
found_ordered key (array ds) h = tt
found_ordered key (object ms) h = member_ordered key ms h
