-- Rows after changes, looked at as those that the changes put beside the older ones of other keys.
use Rattle.std.proofs.Common.{◌≡◌, ◌∙◌, ℤ, List, [], ◌∷◌, Bool, true, false, cond, not, ◌&&◌, ◌||◌, Option, Some, None, filter, is_some, map, ap, refl, sym, subst, arith, int_cmp, int_eq, Ordering, Less, Equal, Greater, option_map, if◌then◌else◌}
use Rattle.std.specs.List.{AllByRecursion as Each, cons_option, list_any}
use Rattle.std.specs.Map.{lookup}
use Rattle.std.specs.Option.{option_map_or, option_or}
use Rattle.std.specs.Ordering.{is_eq, match_ordering, ordering_reverse}
use Rattle.std.proofs.lemmas.Bool.Decides.{Decides-int_eq}
use Rattle.std.proofs.lemmas.Cmp.{int_cmp_total}
use Rattle.sql_eval.specs.Row.{all_alike, least, least_clash, values_of}
use Rattle.row_rules.specs.Accept.{clashes, clashes_on, has_clash, other_alike, present, table_there, unique_cause}
use Rattle.row_rules.specs.Causes.{constraint_cause}
use Rattle.row_rules.specs.Changes.{after_change, after_changes, key_changed, keys_changed, put_row}
use Rattle.row_rules.specs.Inner.{all_beside, clashes_beside, on_beside, other_has, unique_beside}
use Rattle.row_rules.specs.Outcome.{first_some}
use Rattle.row_rules.specs.Rows.{Ascends}
use Rattle.row_rules.specs.Site.{Site, half, other, shape_of}
use Rattle.row_rules.specs.Words.{C23505, Change, Kept, Put, Remove, Side, Table, Unique, Value}
use Rattle.row_rules.proofs.Ascending.{Above, above_less, ascends_above, ascends_rest, change_ascends, cmp_flips, cmp_same}
use Rattle.row_rules.proofs.Clashing.{another_clashes}

-- ---- tests

or_none : (a : Bool) → (a || false) ≡ a
or_none true = refl
or_none false = refl

or_swaps : (a b c : Bool) → (a || (b || c)) ≡ (b || (a || c))
or_swaps true true c = refl
or_swaps true false c = refl
or_swaps false b c = refl

or_joins : (a b c : Bool) → (a || (b || c)) ≡ ((a || b) || c)
or_joins true b c = refl
or_joins false b c = refl

neither : (a b c : Bool) → (not a && (not b && c)) ≡ (not (a || b) && c)
neither true b c = refl
neither false b c = refl

nothing_else : (a b c : Bool) → a ≡ true → (not a && b) ≡ (not a && c)
nothing_else true b c h = refl
nothing_else false b c h = cc

any_same : (p q : Kept → Bool) → ((row : Kept) → p row ≡ q row) → (rows : List Kept) → list_any p rows ≡ list_any q rows
any_same p q h [] = refl
any_same p q h (row ∷ rows) = ap (λ b. b || list_any p rows) (h row) ∙ ap (λ b. q row || b) (any_same p q h rows)

looked_same : (f g : List Value → Bool) → ((values : List Value) → f values ≡ g values) → (o : Option (List Value)) →
    option_map_or f o false ≡ option_map_or g o false
looked_same f g h None = refl
looked_same f g h (Some values) = h values

-- ---- keys that differ

equal_self : (x : ℤ) → int_eq x x ≡ true
equal_self x = grind (arith, Decides-int_eq x x)

same_key : (x y : ℤ) → int_eq x y ≡ true → x ≡ y
same_key x y h = grind (arith, Decides-int_eq x y, h)

eq_turns : (x y : ℤ) → int_eq x y ≡ int_eq y x
eq_turns x y = ap is_eq (int_cmp_total.antisymm x y) ∙ turned (int_cmp y x)
  where
    turned : (o : Ordering) → is_eq (ordering_reverse o) ≡ is_eq o
    turned Less = refl
    turned Equal = refl
    turned Greater = refl

-- None of these rows has the key.
abbrev Differ : ℤ → List Kept → Type 0
Differ key rows = Each (λ row. int_eq row.key key ≡ false) rows

all_differ : (key : ℤ) (rows : List Kept) → Above key rows → Ascends rows → Differ key rows
all_differ key [] a h = tt
all_differ key (row ∷ rows) a h =
    let rest = all_differ key rows (above_less key row.key rows a (ascends_above row rows h)) (ascends_rest row rows h) in
    (eq_turns row.key key ∙ ap is_eq a, rest)

-- ---- whether one of the rows passes

-- Whether a row of another key does.
abbrev others : (Kept → Bool) → ℤ → List Kept → Bool
others g key rows = list_any (λ row. not (int_eq row.key key) && g row) rows

others_all : (g : Kept → Bool) (key : ℤ) (rows : List Kept) → Differ key rows → others g key rows ≡ list_any g rows
others_all g key [] h = refl
others_all g key (row ∷ rows) h =
    ap (λ b. (not b && g row) || others g key rows) h.0 ∙ ap (λ b. g row || b) (others_all g key rows h.1)

put_any : (g : Kept → Bool) (row : Kept) (rows : List Kept) → Ascends rows →
    list_any g (put_row row rows)
    ≡ (g row || others g row.key rows)
put_any g row [] h = refl
put_any g row (first ∷ rows) h = by_order (int_cmp row.key first.key) refl (put_any g row rows (ascends_rest first rows h))
  where
    by_order : (o : Ordering) → int_cmp row.key first.key ≡ o →
        list_any g (put_row row rows)
        ≡ (g row || others g row.key rows) →
        list_any g (match_ordering o (row ∷ first ∷ rows) (row ∷ rows) (first ∷ put_row row rows))
        ≡ (g row || others g row.key (first ∷ rows))
    by_order Less e there = ap (λ b. g row || b) (sym (others_all g row.key (first ∷ rows) (all_differ row.key (first ∷ rows) e h)))
    by_order Equal e there =
        let same : first.key ≡ row.key = sym (cmp_same row.key first.key e) in
        let is : int_eq first.key row.key ≡ true =
        subst (λ key. int_eq first.key key ≡ true) same (equal_self first.key) in
        let differ = subst (λ key. Differ key rows) same (all_differ first.key rows (ascends_above first rows h) (ascends_rest first rows h)) in
        ap (λ b. g row || b)
        (sym (ap (λ b. (not b && g first) || others g row.key rows) is ∙ others_all g row.key rows differ))
    by_order Greater e there =
        let no : int_eq first.key row.key ≡ false = ap is_eq (cmp_flips row.key first.key e) in
        ap (λ b. g first || b) there ∙ or_swaps (g first) (g row) (others g row.key rows)
        ∙ ap (λ b. g row || ((not b && g first) || others g row.key rows)) (sym no)

remove_any : (g : Kept → Bool) (key : ℤ) (rows : List Kept) →
    list_any g (filter (λ row. not (int_eq row.key key)) rows) ≡ others g key rows
remove_any g key [] = refl
remove_any g key (row ∷ rows) = by_test (not (int_eq row.key key)) (remove_any g key rows)
  where
    kept : List Kept
    kept = filter (λ (row : Kept). not (int_eq row.key key)) rows

    by_test : (b : Bool) → list_any g kept ≡ others g key rows →
        list_any g (cond b (row ∷ kept) kept)
        ≡ ((b && g row) || others g key rows)
    by_test true there = ap (λ b. g row || b) there
    by_test false there = there

one_any : (g : Kept → Bool) (change : Change) (rows : List Kept) → Ascends rows →
    list_any g (after_change change rows) ≡ (list_any g (after_change change []) || others g (key_changed change) rows)
one_any g (Put row) rows h = put_any g row rows h ∙ ap (λ b. b || others g row.key rows) (sym (or_none (g row)))
one_any g (Remove key) rows h = remove_any g key rows

-- The row has none of the changed keys, and passes.
abbrev later : (Kept → Bool) → List Change → Kept → Bool
later g changes row = not (list_any (int_eq row.key) (keys_changed changes)) && g row

after_any : (g : Kept → Bool) (changes : List Change) (rows : List Kept) → Ascends rows →
    list_any g (after_changes changes rows) ≡ (list_any g (after_changes changes []) || list_any (later g changes) rows)
after_any g [] rows h = refl
after_any g (change ∷ changes) rows h =
    let key = key_changed change in
    let first = list_any g (after_changes changes []) in
    let put = list_any (later g changes) (after_change change []) in
    let rest = others (later g changes) key rows in
    after_any g changes (after_change change rows) (change_ascends change rows h)
    ∙ ap (λ b. first || b) (one_any (later g changes) change rows h)
    ∙ or_joins first put rest
    ∙ ap (λ b. b || rest) (sym (after_any g changes (after_change change []) (change_ascends change [] tt)))
    ∙ ap (λ b. list_any g (after_changes (change ∷ changes) []) || b)
    (any_same (λ row. not (int_eq row.key key) && later g changes row) (later g (change ∷ changes))
    (λ row. neither (int_eq row.key key) (list_any (int_eq row.key) (keys_changed changes)) (g row)) rows)

-- ---- the half that is found by a key

abbrev found : Side → ℤ → List Kept → Option (List Value)
found side key rows = lookup (int_eq key) (present side rows)

-- What is found where a row of this key and this half stands first.
abbrev first_found : ℤ → ℤ → Option (List Value) → Option (List Value) → Option (List Value)
first_found key of None rest = rest
first_found key of (Some values) rest = cond (int_eq key of) (Some values) rest

found_first : (side : Side) (key : ℤ) (row : Kept) (rows : List Kept) →
    found side key (row ∷ rows)
    ≡ first_found key row.key (half side row.halves) (found side key rows)
found_first side key row rows = by_half (half side row.halves)
  where
    by_half : (o : Option (List Value)) →
        lookup (int_eq key) (cons_option (option_map (λ values. (row.key, values)) o) (present side rows))
        ≡ first_found key row.key o (found side key rows)
    by_half None = refl
    by_half (Some values) = refl

first_other : (key of : ℤ) (o rest : Option (List Value)) → int_eq key of ≡ false → first_found key of o rest ≡ rest
first_other key of None rest h = refl
first_other key of (Some values) rest h = ap (λ b. cond b (Some values) rest) h

passed_by : (side : Side) (key : ℤ) (row : Kept) (rows : List Kept) → int_eq key row.key ≡ false →
    found side key (row ∷ rows) ≡ found side key rows
passed_by side key row rows h = found_first side key row rows
    ∙ first_other key row.key (half side row.halves) (found side key rows) h

fresh : (side : Side) (key : ℤ) (rows : List Kept) → Differ key rows → found side key rows ≡ None
fresh side key [] h = refl
fresh side key (row ∷ rows) h = passed_by side key row rows (eq_turns key row.key ∙ h.0) ∙ fresh side key rows h.1

in_front : (side : Side) (key : ℤ) (row : Kept) (rows : List Kept) → Differ row.key rows →
    found side key (row ∷ rows) ≡ (if int_eq key row.key then found side key (row ∷ []) else found side key rows)
in_front side key row rows differ = by_test (int_eq key row.key) refl
  where
    by_test : (b : Bool) → int_eq key row.key ≡ b →
        found side key (row ∷ rows)
        ≡ (if b then found side key (row ∷ []) else found side key rows)
    by_test true e =
        let none = fresh side key rows (subst (λ k. Differ k rows) (sym (same_key key row.key e)) differ) in
        found_first side key row rows ∙ ap (first_found key row.key (half side row.halves)) none
        ∙ sym (found_first side key row [])
    by_test false e = passed_by side key row rows e

put_found : (side : Side) (key : ℤ) (row : Kept) (rows : List Kept) → Ascends rows →
    found side key (put_row row rows) ≡ (if int_eq key row.key then found side key (row ∷ []) else found side key rows)
put_found side key row [] h = in_front side key row [] tt
put_found side key row (first ∷ rows) h = by_order (int_cmp row.key first.key) refl (put_found side key row rows (ascends_rest first rows h))
  where
    alone : Option (List Value)
    alone = found side key (row ∷ [])

    by_order : (o : Ordering) → int_cmp row.key first.key ≡ o →
        found side key (put_row row rows)
        ≡ (if int_eq key row.key then alone else found side key rows) →
        found side key (match_ordering o (row ∷ first ∷ rows) (row ∷ rows) (first ∷ put_row row rows))
        ≡ (if int_eq key row.key then alone else found side key (first ∷ rows))
    by_order Less e there = in_front side key row (first ∷ rows) (all_differ row.key (first ∷ rows) e h)
    by_order Equal e there = in_front side key row rows differ ∙ by_test (int_eq key row.key) refl
      where
        same : first.key ≡ row.key
        same = sym (cmp_same row.key first.key e)

        differ : Differ row.key rows
        differ = subst (λ key. Differ key rows) same (all_differ first.key rows (ascends_above first rows h) (ascends_rest first rows h))

        by_test : (b : Bool) → int_eq key row.key ≡ b →
            (if b then alone else found side key rows)
            ≡ (if b then alone else found side key (first ∷ rows))
        by_test true e = refl
        by_test false e = sym (passed_by side key first rows (subst (λ of. int_eq key of ≡ false) (sym same) e))
    by_order Greater e there =
        found_first side key first (put_row row rows) ∙ ap (first_found key first.key (half side first.halves)) there
        ∙ by_test (int_eq key row.key) refl
      where
        by_test : (b : Bool) → int_eq key row.key ≡ b →
            first_found key first.key (half side first.halves) (if b then alone else found side key rows)
            ≡ (if b then alone else found side key (first ∷ rows))
        by_test true is =
            let no : int_eq key first.key ≡ false =
            subst (λ k. int_eq k first.key ≡ false) (sym (same_key key row.key is)) (ap is_eq e) in
            first_other key first.key (half side first.halves) alone no
        by_test false is = sym (found_first side key first rows)

remove_found : (side : Side) (key gone : ℤ) (rows : List Kept) →
    found side key (filter (λ row. not (int_eq row.key gone)) rows)
    ≡ (if int_eq key gone then None else found side key rows)
remove_found side key gone [] = by_test (int_eq key gone)
  where
    by_test : (b : Bool) → ◌≡◌ {A = Option (List Value)} None (if b then None else None)
    by_test true = refl
    by_test false = refl
remove_found side key gone (row ∷ rows) = by_row (int_eq row.key gone) refl (remove_found side key gone rows)
  where
    kept : List Kept
    kept = filter (λ (row : Kept). not (int_eq row.key gone)) rows

    by_row : (a : Bool) → int_eq row.key gone ≡ a →
        found side key kept
        ≡ (if int_eq key gone then None else found side key rows) →
        found side key (cond (not a) (row ∷ kept) kept)
        ≡ (if int_eq key gone then None else found side key (row ∷ rows))
    by_row true e there = there ∙ by_test (int_eq key gone) refl
      where
        by_test : (b : Bool) → int_eq key gone ≡ b →
            (if b then None else found side key rows)
            ≡ (if b then None else found side key (row ∷ rows))
        by_test true is = refl
        by_test false is = sym (passed_by side key row rows (subst (λ of. int_eq key of ≡ false) (sym (same_key row.key gone e)) is))
    by_row false e there =
        found_first side key row kept ∙ ap (first_found key row.key (half side row.halves)) there
        ∙ by_test (int_eq key gone) refl
      where
        by_test : (b : Bool) → int_eq key gone ≡ b →
            first_found key row.key (half side row.halves) (if b then None else found side key rows)
            ≡ (if b then None else found side key (row ∷ rows))
        by_test true is =
            let no : int_eq key row.key ≡ false =
            subst (λ k. int_eq k row.key ≡ false) (sym (same_key key gone is)) (eq_turns gone row.key ∙ e) in
            first_other key row.key (half side row.halves) None no
        by_test false is = sym (found_first side key row rows)

one_found : (side : Side) (key : ℤ) (change : Change) (rows : List Kept) → Ascends rows →
    found side key (after_change change rows)
    ≡ (if int_eq key (key_changed change) then found side key (after_change change []) else found side key rows)
one_found side key (Put row) rows h = put_found side key row rows h
one_found side key (Remove gone) rows h = remove_found side key gone rows

after_found : (side : Side) (key : ℤ) (changes : List Change) (rows : List Kept) → Ascends rows →
    found side key (after_changes changes rows)
    ≡ (if list_any (int_eq key) (keys_changed changes) then found side key (after_changes changes []) else found side key rows)
after_found side key [] rows h = refl
after_found side key (change ∷ changes) rows h =
    let a = int_eq key (key_changed change) in
    let m = list_any (int_eq key) (keys_changed changes) in
    let last = found side key (after_changes changes []) in
    let one = found side key (after_change change []) in
    after_found side key changes (after_change change rows) (change_ascends change rows h)
    ∙ ap (λ o. if m then last else o) (one_found side key change rows h)
    ∙ chosen a m last one (found side key rows)
    ∙ ap (λ o. if a || m then o else found side key rows) (sym (after_found side key changes (after_change change []) (change_ascends change [] tt)))
  where
    chosen : (a m : Bool) (x y z : Option (List Value)) →
        (if m then x else (if a then y else z))
        ≡ (if a || m then (if m then x else y) else z)
    chosen true true x y z = refl
    chosen true false x y z = refl
    chosen false true x y z = refl
    chosen false false x y z = refl

-- ---- one key

clash_looked : (unique : Unique) (side : Side) (rows : List Kept) (key : ℤ) →
    has_clash unique (present side rows) key
    ≡ option_map_or (λ values. list_any (other_has unique side key values) rows) (found side key rows) false
clash_looked unique side rows key = by_found (found side key rows)
  where
    by_found : (o : Option (List Value)) → is_some {T = ℤ} (elim o [
      | None ↦ None
      | Some row ↦ least_clash (values_of unique row) (map (λ (r : ℤ × List Value). (r.0, values_of unique r.1)) (present side rows)) key
    ]) ≡ option_map_or (λ values. list_any (other_has unique side key values) rows) o false
    by_found None = refl
    by_found (Some values) = sym (another_clashes unique side key values rows)

alone_clashes : (unique : Unique) (side : Side) (rows : List Kept) (keys : List ℤ) (key : ℤ) →
    clashes_beside unique side rows [] keys key ≡ has_clash unique (present side rows) key
alone_clashes unique side rows keys key =
    looked_same (λ values. list_any (other_has unique side key values) rows || false) (λ values. list_any (other_has unique side key values) rows)
    (λ values. or_none (list_any (other_has unique side key values) rows)) (found side key rows)
    ∙ sym (clash_looked unique side rows key)

-- A row of none of these keys isn't that of one of them.
outside : (unique : Unique) (side : Side) (values : List Value) (keys : List ℤ) (key : ℤ) (row : Kept) →
    list_any (int_eq key) keys ≡ true →
    (not (list_any (int_eq row.key) keys) && other_has unique side key values row)
    ≡ other_alike unique side values keys row
outside unique side values keys key row among = by_half (half side row.halves)
  where
    m : Bool
    m = list_any (int_eq row.key) keys

    alike : List Value → Bool
    alike others = all_alike (values_of unique values) (values_of unique others)

    nothing : (b : Bool) → (not b && false) ≡ false
    nothing true = refl
    nothing false = refl

    by_key : (others : List Value) (b : Bool) → int_eq row.key key ≡ b →
        (not m && (not b && alike others))
        ≡ (not m && alike others)
    by_key others true e = nothing_else m false (alike others) (subst (λ k. list_any (int_eq k) keys ≡ true) (sym (same_key row.key key e)) among)
    by_key others false e = refl

    by_half : (o : Option (List Value)) →
        (not m && option_map_or (λ others. not (int_eq row.key key) && alike others) o false)
        ≡ option_map_or (λ others. not m && alike others) o false
    by_half None = nothing m
    by_half (Some others) = by_key others (int_eq row.key key) refl

changed_clashes : (unique : Unique) (side : Side) (changes : List Change) (older : List Kept) (key : ℤ) →
    Ascends older → list_any (int_eq key) (keys_changed changes) ≡ true →
    clashes_beside unique side (after_changes changes []) older (keys_changed changes) key
    ≡ has_clash unique (present side (after_changes changes older)) key
changed_clashes unique side changes older key h among =
    let keys = keys_changed changes in
    let written = after_changes changes [] in
    let rows = after_changes changes older in
    let same : found side key rows ≡ found side key written =
    after_found side key changes older h ∙ ap (λ b. if b then found side key written else found side key older) among in
    looked_same (λ values. list_any (other_has unique side key values) written || list_any (other_alike unique side values keys) older)
    (λ values. list_any (other_has unique side key values) rows)
    (λ values. sym
    (after_any (other_has unique side key values) changes older h
    ∙ ap (λ b. list_any (other_has unique side key values) written || b)
    (any_same (later (other_has unique side key values) changes) (other_alike unique side values keys) (λ row. outside unique side values keys key row among) older)))
    (found side key written)
    ∙ ap (λ o. option_map_or (λ values. list_any (other_has unique side key values) rows) o false) (sym same)
    ∙ sym (clash_looked unique side rows key)

-- ---- all keys and constraints

-- Rows of these keys clash among the written and the older ones just as among all.
abbrev Same : List Kept → List Kept → List Kept → List ℤ → Type 0
Same written older rows keys =
    (unique : Unique) (side : Side) →
    Each (λ key. clashes_beside unique side written older keys key ≡ has_clash unique (present side rows) key) keys

filter_same : (p q : ℤ → Bool) (keys : List ℤ) → Each (λ key. p key ≡ q key) keys → filter p keys ≡ filter q keys
filter_same p q [] h = refl
filter_same p q (key ∷ keys) h =
    ap (λ b. cond b (key ∷ filter p keys) (filter p keys)) h.0
    ∙ ap (λ more. cond (q key) (key ∷ more) more) (filter_same p q keys h.1)

first_same : {A B : Type 0} (f g : A → Option B) → ((x : A) → f x ≡ g x) → (xs : List A) →
    first_some f xs
    ≡ first_some g xs
first_same f g h [] = refl
first_same f g h (x ∷ xs) = ap (λ o. option_or o (first_some f xs)) (h x) ∙ ap (option_or (g x)) (first_same f g h xs)

module _ (written older rows : List Kept) (keys : List ℤ) (same : Same written older rows keys) where
  unique_same : (side : Side) (unique : Unique) →
      unique_beside side written older keys unique
      ≡ unique_cause (present side rows) keys unique
  unique_same side unique =
      ap (λ kept. option_map (constraint_cause C23505 unique.name) (least kept))
      (filter_same (clashes_beside unique side written older keys) (has_clash unique (present side rows)) keys (same unique side))

  on_same : (table : Option Table) (side : Side) →
      on_beside table side written older keys
      ≡ clashes_on table side rows keys
  on_same None side = refl
  on_same (Some table) side =
      first_same (unique_beside side written older keys) (unique_cause (present side rows) keys) (unique_same side) (shape_of table).uniques

  site_same : (site : Site) → all_beside site written older keys ≡ clashes site rows keys
  site_same site =
      ap (λ o. option_or o (on_beside (table_there site) (other site.side) written older keys)) (on_same (Some site.here) site.side)
      ∙ ap (option_or (clashes_on (Some site.here) site.side rows keys)) (on_same (table_there site) (other site.side))

each : (P : ℤ → Type 0) → ((key : ℤ) → P key) → (keys : List ℤ) → Each P keys
each P h [] = tt
each P h (key ∷ keys) = (h key, each P h keys)

among_each : (P : ℤ → Type 0) (keys : List ℤ) → ((key : ℤ) → list_any (int_eq key) keys ≡ true → P key) → Each P keys
among_each P [] h = tt
among_each P (key ∷ keys) h =
    (h key (ap (λ b. b || list_any (int_eq key) keys) (equal_self key)), among_each P keys (λ other there. h other (ap (λ b. int_eq other key || b) there ∙ or_true (int_eq other key))))
  where
    or_true : (b : Bool) → (b || true) ≡ true
    or_true true = refl
    or_true false = refl

alone : (rows : List Kept) (keys : List ℤ) → Same rows [] rows keys
alone rows keys unique side = each (λ key. clashes_beside unique side rows [] keys key ≡ has_clash unique (present side rows) key) (alone_clashes unique side rows keys) keys

-- Rows that are all written.
pub all_alone : (site : Site) (rows : List Kept) (keys : List ℤ) → all_beside site rows [] keys ≡ clashes site rows keys
all_alone site rows keys = site_same rows [] rows keys (alone rows keys) site

-- Those that changes put beside the older ones.
pub all_changed : (site : Site) (changes : List Change) (older : List Kept) → Ascends older →
    all_beside site (after_changes changes []) older (keys_changed changes)
    ≡ clashes site (after_changes changes older) (keys_changed changes)
all_changed site changes older h =
    let keys = keys_changed changes in
    site_same (after_changes changes []) older (after_changes changes older) keys
    (λ unique side. among_each (λ key. clashes_beside unique side (after_changes changes []) older keys key ≡ has_clash unique (present side (after_changes changes older)) key) keys
    (λ key among. changed_clashes unique side changes older key h among)) site
