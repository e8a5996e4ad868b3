-- Rows whose values clash, row by row; and rows that are put in their places without a clash.
use Rattle.std.proofs.Common.{◌≡◌, ◌∙◌, ◌⊎◌, inl, inr, ⊎_elim, ℤ, List, [], ◌∷◌, Bool, true, false, not, ◌||◌, ◌&&◌, Option, Some, None, map, filter, is_some, ap, refl, sym, subst, cond, int_cmp, int_eq, nat_cmp, Ordering, Less, Equal, Greater, option_map}
use Rattle.std.specs.List.{AllByRecursion as Each, cons_option, list_any}
use Rattle.std.specs.Map.{lookup}
use Rattle.std.specs.Option.{option_map_or, option_or}
use Rattle.std.specs.Ordering.{is_eq, ordering_reverse}
use Rattle.std.specs.Cmp.Lexicographic.{slice_cmp}
use Rattle.std.proofs.lemmas.Cmp.{int_cmp_total, nat_list_cmp_total}
use Rattle.sql_base.specs.declared.codes.Code.TheVariants.{C23505}
use Rattle.sql_base.specs.declared.shapes.Unique.{Unique}
use Rattle.sql_base.specs.declared.values.Value.{Value}
use Rattle.sql_base.specs.declared.values.Value.TheVariants as value
use Rattle.sql_eval.specs.Row.{all_alike, clash, least, least_clash, values_of}
use Rattle.sql_eval.specs.Value.{accepts, alike, is_truth}
use Rattle.mig_lens.specs.declared.columns.Side.{Side}
use Rattle.mig_lens.specs.Plan.{Table}
use Rattle.sql_base.specs.Laws.{either_none}
use Rattle.machine.proofs.Choosing.{eq_self, eq_turns}
use Rattle.machine.proofs.Moving.{each_both, each_so, map_each}
use Rattle.machine.proofs.Placing.{Above, above_fresh, above_less, ascends_above, ascends_rest, changed_each, neither}
use Rattle.row_rules.specs.declared.kinds.Kept.{Kept}
use Rattle.row_rules.specs.declared.kinds.Cause.{Cause}
use Rattle.row_rules.specs.declared.kinds.Change.{Change}
use Rattle.row_rules.specs.declared.kinds.Change.TheVariants.{Put, Remove}
use Rattle.row_rules.specs.Accept.{clashes_on, has_key, present, unique_cause, keys_of}
use Rattle.row_rules.specs.Causes.{constraint_cause}
use Rattle.row_rules.specs.Changes.{after_changes, keys_changed, rows_put}
use Rattle.row_rules.specs.Outcome.{first_some}
use Rattle.row_rules.specs.Site.{half, shape_of}
use Rattle.machine.specs.Sites.{OfPut}
use Rattle.machine.specs.Standing.{Ascends}

-- ---- likeness goes both ways

alike_turns : (x y : Value) → alike x y ≡ alike y x
alike_turns (value.Int m) (value.Int n) = ap (λ o. is_truth true (accepts false true false (Some o))) (int_cmp_total.antisymm m n) ∙ turned (int_cmp n m)
  where
    turned : (o : Ordering) → is_truth true (accepts false true false (Some (ordering_reverse o))) ≡ is_truth true (accepts false true false (Some o))
    turned Less = refl
    turned Equal = refl
    turned Greater = refl
alike_turns (value.Text s) (value.Text t) = ap (λ o. is_truth true (accepts false true false (Some o))) (nat_list_cmp_total.antisymm s t) ∙ turned (slice_cmp nat_cmp t s)
  where
    turned : (o : Ordering) → is_truth true (accepts false true false (Some (ordering_reverse o))) ≡ is_truth true (accepts false true false (Some o))
    turned Less = refl
    turned Equal = refl
    turned Greater = refl
alike_turns (value.Bool true) (value.Bool true) = refl
alike_turns (value.Bool true) (value.Bool false) = refl
alike_turns (value.Bool false) (value.Bool true) = refl
alike_turns (value.Bool false) (value.Bool false) = refl
alike_turns value.Null value.Null = refl
alike_turns value.Null (value.Int n) = refl
alike_turns value.Null (value.Text t) = refl
alike_turns value.Null (value.Bool b) = refl
alike_turns (value.Int m) value.Null = refl
alike_turns (value.Int m) (value.Text t) = refl
alike_turns (value.Int m) (value.Bool b) = refl
alike_turns (value.Text s) value.Null = refl
alike_turns (value.Text s) (value.Int n) = refl
alike_turns (value.Text s) (value.Bool b) = refl
alike_turns (value.Bool a) value.Null = refl
alike_turns (value.Bool a) (value.Int n) = refl
alike_turns (value.Bool a) (value.Text t) = refl

all_alike_turns : (xs ys : List Value) → all_alike xs ys ≡ all_alike ys xs
all_alike_turns [] [] = refl
all_alike_turns [] (y ∷ ys) = refl
all_alike_turns (x ∷ xs) [] = refl
all_alike_turns (x ∷ xs) (y ∷ ys) = rw (alike_turns x y, all_alike_turns xs ys) refl

-- ---- two rows

-- Two rows of different keys have halves with like values in the constraint's columns.
abbrev collides : Unique → Side → Kept → Kept → Bool
collides unique side row other = option_map_or (λ these. option_map_or (λ those. not (int_eq other.key row.key) && all_alike (values_of unique these) (values_of unique those)) (half side other.halves) false) (half side row.halves) false

collides_turns : (unique : Unique) (side : Side) (row other : Kept) → collides unique side row other ≡ collides unique side other row
collides_turns unique side row other = by_halves (half side row.halves) (half side other.halves)
  where
    by_halves : (a b : Option (List Value)) → option_map_or (λ these. option_map_or (λ those. not (int_eq other.key row.key) && all_alike (values_of unique these) (values_of unique those)) b false) a false ≡ option_map_or (λ those. option_map_or (λ these. not (int_eq row.key other.key) && all_alike (values_of unique those) (values_of unique these)) a false) b false
    by_halves None None = refl
    by_halves None (Some b) = refl
    by_halves (Some a) None = refl
    by_halves (Some a) (Some b) = rw (eq_turns other.key row.key, all_alike_turns (values_of unique a) (values_of unique b)) refl

-- ---- a clash is a collision

least_there : (p : ℤ × List Value → Bool) (f : ℤ × List Value → ℤ × List Value) (entries : List (ℤ × List Value)) → is_some (least (map (λ (e : ℤ × List Value). e.0) (filter p (map f entries)))) ≡ list_any (λ e. p (f e)) entries
least_there p f [] = refl
least_there p f (e ∷ entries) = by_test (p (f e)) (least_there p f entries)
  where
    by_test : (b : Bool) → is_some (least (map (λ (e : ℤ × List Value). e.0) (filter p (map f entries)))) ≡ list_any (λ e. p (f e)) entries → is_some (least (map (λ (e : ℤ × List Value). e.0) (cond b (f e ∷ filter p (map f entries)) (filter p (map f entries))))) ≡ (b || list_any (λ e. p (f e)) entries)
    by_test true there = refl
    by_test false there = there

any_present : (unique : Unique) (side : Side) (these : List Value) (key : ℤ) (rows : List Kept) → list_any (λ (e : ℤ × List Value). not (int_eq e.0 key) && all_alike (values_of unique these) (values_of unique e.1)) (present side rows) ≡ list_any (λ other. option_map_or (λ those. not (int_eq other.key key) && all_alike (values_of unique these) (values_of unique those)) (half side other.halves) false) rows
any_present unique side these key [] = refl
any_present unique side these key (other ∷ rows) = by_half (half side other.halves) (any_present unique side these key rows)
  where
    p : ℤ × List Value → Bool
    p e = not (int_eq e.0 key) && all_alike (values_of unique these) (values_of unique e.1)

    rest : Bool
    rest = list_any (λ (other : Kept). option_map_or (λ those. not (int_eq other.key key) && all_alike (values_of unique these) (values_of unique those)) (half side other.halves) false) rows

    by_half : (h : Option (List Value)) → list_any p (present side rows) ≡ rest → list_any p (cons_option (option_map (λ values. (other.key, values)) h) (present side rows)) ≡ (option_map_or (λ those. not (int_eq other.key key) && all_alike (values_of unique these) (values_of unique those)) h false || rest)
    by_half None there = there
    by_half (Some those) there = ap (λ b. p (other.key, those) || b) there

none_any : (rows : List Kept) → list_any (λ (other : Kept). false) rows ≡ false
none_any [] = refl
none_any (row ∷ rows) = none_any rows

-- ---- a row is found by its key

pub fresh_lookup : (side : Side) (key : ℤ) (rows : List Kept) → has_key key rows ≡ false → lookup (int_eq key) (present side rows) ≡ None
fresh_lookup side key [] h = refl
fresh_lookup side key (row ∷ rows) h =
    let parts = neither (int_eq key row.key) (has_key key rows) h in
    by_half (half side row.halves) parts.0 (fresh_lookup side key rows parts.1)
  where
    by_half : (o : Option (List Value)) → int_eq key row.key ≡ false → lookup (int_eq key) (present side rows) ≡ None → lookup (int_eq key) (cons_option (option_map (λ values. (row.key, values)) o) (present side rows)) ≡ None
    by_half None differ there = there
    by_half (Some values) differ there = ap (λ b. cond b (Some values) (lookup (int_eq key) (present side rows))) differ ∙ there

pub above_each : (key : ℤ) (rows : List Kept) → Above key rows → Ascends rows → Each (λ row. int_eq row.key key ≡ false) rows
above_each key [] a h = tt
above_each key (row ∷ rows) a h = (eq_turns row.key key ∙ ap is_eq a, above_each key rows (above_less key row.key rows a (ascends_above row rows h)) (ascends_rest row rows h))

found_halves : (side : Side) (rows : List Kept) → Ascends rows → Each (λ row. lookup (int_eq row.key) (present side rows) ≡ half side row.halves) rows
found_halves side [] h = tt
found_halves side (row ∷ rows) h =
    (first (half side row.halves), each_both (λ other. int_eq other.key row.key ≡ false) (λ other. lookup (int_eq other.key) (present side rows) ≡ half side other.halves) (λ other. lookup (int_eq other.key) (present side (row ∷ rows)) ≡ half side other.halves) (λ other. later other (half side row.halves)) rows (above_each row.key rows (ascends_above row rows h) (ascends_rest row rows h)) (found_halves side rows (ascends_rest row rows h)))
  where
    first : (o : Option (List Value)) → lookup (int_eq row.key) (cons_option (option_map (λ values. (row.key, values)) o) (present side rows)) ≡ o
    first None = fresh_lookup side row.key rows (above_fresh row.key rows (ascends_above row rows h) (ascends_rest row rows h))
    first (Some values) = ap (λ b. cond b (Some values) (lookup (int_eq row.key) (present side rows))) (eq_self row.key)

    later : (other : Kept) (o : Option (List Value)) → int_eq other.key row.key ≡ false → lookup (int_eq other.key) (present side rows) ≡ half side other.halves → lookup (int_eq other.key) (cons_option (option_map (λ values. (row.key, values)) o) (present side rows)) ≡ half side other.halves
    later other None differ there = there
    later other (Some values) differ there = ap (λ b. cond b (Some values) (lookup (int_eq other.key) (present side rows))) differ ∙ there

-- Of a row whose half is found by its key: it clashes exactly where it collides with one of the rows.
clash_collides : (unique : Unique) (side : Side) (rows : List Kept) (row : Kept) → lookup (int_eq row.key) (present side rows) ≡ half side row.halves → is_some (clash unique (present side rows) row.key) ≡ list_any (collides unique side row) rows
clash_collides unique side rows row found = ap (λ o. is_some (elim o [
  | None ↦ None
  | Some values ↦ least_clash (values_of unique values) (map (λ r. (r.0, values_of unique r.1)) (present side rows)) row.key
])) found ∙ by_half (half side row.halves)
  where
    by_half : (o : Option (List Value)) → is_some {T = ℤ} (elim o [
      | None ↦ None
      | Some values ↦ least_clash (values_of unique values) (map (λ (r : ℤ × List Value). (r.0, values_of unique r.1)) (present side rows)) row.key
    ]) ≡ list_any (λ other. option_map_or (λ these. option_map_or (λ those. not (int_eq other.key row.key) && all_alike (values_of unique these) (values_of unique those)) (half side other.halves) false) o false) rows
    by_half None = sym (none_any rows)
    by_half (Some these) = least_there (λ e. not (int_eq e.0 row.key) && all_alike (values_of unique these) e.1) (λ r. (r.0, values_of unique r.1)) (present side rows) ∙ any_present unique side these row.key rows

-- ---- constraints that are met

-- No row of these keys clashes with another row.
abbrev pub Quiet : Unique → List (ℤ × List Value) → List ℤ → Type 0
Quiet unique entries keys = Each (λ key. is_some (clash unique entries key) ≡ false) keys

least_none : (cause : ℤ → Cause) (p : ℤ → Bool) (keys : List ℤ) → option_map cause (least (filter p keys)) ≡ None → Each (λ key. p key ≡ false) keys
least_none cause p [] h = tt
least_none cause p (key ∷ keys) h = by_test (least_none cause p keys) (p key) refl h
  where
    by_test : (option_map cause (least (filter p keys)) ≡ None → Each (λ key. p key ≡ false) keys) → (b : Bool) → p key ≡ b → option_map cause (least (cond b (key ∷ filter p keys) (filter p keys))) ≡ None → (p key ≡ false) × Each (λ key. p key ≡ false) keys
    by_test rest true e h = cc
    by_test rest false e h = (e, rest h)

none_left : (cause : ℤ → Cause) (p : ℤ → Bool) (keys : List ℤ) → Each (λ key. p key ≡ false) keys → option_map cause (least (filter p keys)) ≡ None
none_left cause p [] h = refl
none_left cause p (key ∷ keys) h = ap (λ b. option_map cause (least (cond b (key ∷ filter p keys) (filter p keys)))) h.0 ∙ none_left cause p keys h.1

pub all_quiet : (entries : List (ℤ × List Value)) (keys : List ℤ) (uniques : List Unique) → first_some (unique_cause entries keys) uniques ≡ None → Each (λ unique. Quiet unique entries keys) uniques
all_quiet entries keys [] h = tt
all_quiet entries keys (unique ∷ uniques) h =
    let parts = either_none (unique_cause entries keys unique) (first_some (unique_cause entries keys) uniques) h in
    (least_none (λ key. constraint_cause C23505 unique.name key) (λ key. is_some (clash unique entries key)) keys parts.0, all_quiet entries keys uniques parts.1)

pub no_cause : (entries : List (ℤ × List Value)) (keys : List ℤ) (uniques : List Unique) → Each (λ unique. Quiet unique entries keys) uniques → first_some (unique_cause entries keys) uniques ≡ None
no_cause entries keys [] h = refl
no_cause entries keys (unique ∷ uniques) h =
    let here : unique_cause entries keys unique ≡ None = none_left (λ key. constraint_cause C23505 unique.name key) (λ key. is_some (clash unique entries key)) keys h.0 in
    ap (λ o. option_or o (first_some (unique_cause entries keys) uniques)) here ∙ no_cause entries keys uniques h.1

-- ---- rows among others

abbrev pub IsAmong : List Kept → Kept → Type 0
IsAmong [] row = ⊥
IsAmong (first ∷ rows) row = (row ≡ first) ⊎ IsAmong rows row

pub each_at : (P : Kept → Type 0) (rows : List Kept) (row : Kept) → Each P rows → IsAmong rows row → P row
each_at P [] row h a = absurd a
each_at P (first ∷ rows) row h (inl is) = subst P (sym is) h.0
each_at P (first ∷ rows) row h (inr there) = each_at P rows row h.1 there

each_is_among : (rows : List Kept) → Each (IsAmong rows) rows
each_is_among [] = tt
each_is_among (row ∷ rows) = (inl refl, each_so (IsAmong rows) (IsAmong (row ∷ rows)) (λ other there. inr there) rows (each_is_among rows))

each_from : (P : Kept → Type 0) (rows : List Kept) → ((row : Kept) → IsAmong rows row → P row) → Each P rows
each_from P rows h = each_so (IsAmong rows) P h rows (each_is_among rows)

pub none_each : {X : Type 0} (p : X → Bool) (xs : List X) → list_any p xs ≡ false → Each (λ x. p x ≡ false) xs
none_each p [] h = tt
none_each p (x ∷ xs) h = let parts = neither (p x) (list_any p xs) h in (parts.0, none_each p xs parts.1)

any_at : (p : Kept → Bool) (rows : List Kept) (row : Kept) → list_any p rows ≡ false → IsAmong rows row → p row ≡ false
any_at p rows row h = each_at (λ row. p row ≡ false) rows row (none_each p rows h)

any_from : (p : Kept → Bool) (rows : List Kept) → Each (λ row. p row ≡ false) rows → list_any p rows ≡ false
any_from p [] h = refl
any_from p (row ∷ rows) h = ap (λ b. b || list_any p rows) h.0 ∙ any_from p rows h.1

-- ---- rows that were put in their places

-- The row is a new one, or was there before.
abbrev Comes : List Kept → List Kept → Kept → Type 0
Comes new older row = IsAmong new row ⊎ IsAmong older row

quiet_rows : (unique : Unique) (side : Side) (rows : List Kept) → Ascends rows → Quiet unique (present side rows) (keys_of rows) → Each (λ row. list_any (collides unique side row) rows ≡ false) rows
quiet_rows unique side rows a q =
    each_both (λ row. is_some (clash unique (present side rows) row.key) ≡ false) (λ row. lookup (int_eq row.key) (present side rows) ≡ half side row.halves) (λ row. list_any (collides unique side row) rows ≡ false) (λ row q f. sym (clash_collides unique side rows row f) ∙ q) rows (each_unmap rows q) (found_halves side rows a)
  where
    each_unmap : (some : List Kept) → Quiet unique (present side rows) (keys_of some) → Each (λ row. is_some (clash unique (present side rows) row.key) ≡ false) some
    each_unmap [] h = tt
    each_unmap (row ∷ some) h = (h.0, each_unmap some h.1)

rows_quiet : (unique : Unique) (side : Side) (rows : List Kept) → Ascends rows → Each (λ row. list_any (collides unique side row) rows ≡ false) rows → Quiet unique (present side rows) (keys_of rows)
rows_quiet unique side rows a h =
    map_each (λ row. row.key) (λ key. is_some (clash unique (present side rows) key) ≡ false) rows
    (each_both (λ row. list_any (collides unique side row) rows ≡ false) (λ row. lookup (int_eq row.key) (present side rows) ≡ half side row.halves) (λ row. is_some (clash unique (present side rows) row.key) ≡ false) (λ row q f. clash_collides unique side rows row f ∙ q) rows h (found_halves side rows a))

-- Each row afterwards was put, or was there before.
each_comes : (all : List Change) (older : List Kept) → Each (Comes (rows_put all) older) (after_changes all older)
each_comes all older = changed_each (Comes (rows_put all) older) all older (puts_come all (rows_put all) (λ row a. a)) (each_from (Comes (rows_put all) older) older (λ row a. inr a))
  where
    puts_come : (some : List Change) (new : List Kept) → ((row : Kept) → IsAmong (rows_put some) row → IsAmong new row) → Each (OfPut (Comes new older)) some
    puts_come [] new h = tt
    puts_come (Put row ∷ some) new h = (inl (h row (inl refl)), puts_come some new (λ other a. h other (inr a)))
    puts_come (Remove key ∷ some) new h = (tt, puts_come some new h)

-- No row that was put clashes, where no changed key does.
put_quiet : (unique : Unique) (entries : List (ℤ × List Value)) (all : List Change) → Quiet unique entries (keys_changed all) → Each (λ row. is_some (clash unique entries row.key) ≡ false) (rows_put all)
put_quiet unique entries [] h = tt
put_quiet unique entries (Put row ∷ all) h = (h.0, put_quiet unique entries all h.1)
put_quiet unique entries (Remove key ∷ all) h = put_quiet unique entries all h.1

-- Where the older rows don't collide, and no row that was put does with any, no row does.
changed_quiet : (unique : Unique) (side : Side) (all : List Change) (older : List Kept) → Ascends older →
    Ascends (after_changes all older) → Quiet unique (present side older) (keys_of older) →
    Quiet unique (present side (after_changes all older)) (keys_changed all) →
    Quiet unique (present side (after_changes all older)) (keys_of (after_changes all older))
changed_quiet unique side all older a ascend before looked =
    rows_quiet unique side rows ascend (each_from (λ row. list_any (collides unique side row) rows ≡ false) rows (λ row here. any_from (collides unique side row) rows (each_from (λ other. collides unique side row other ≡ false) rows (λ other there. apart row here other there))))
  where
    rows : List Kept
    rows = after_changes all older

    new_apart : (row : Kept) → IsAmong rows row → IsAmong (rows_put all) row → (other : Kept) → IsAmong rows other → collides unique side row other ≡ false
    new_apart row here is_new other there =
        let found = each_at (λ row. lookup (int_eq row.key) (present side rows) ≡ half side row.halves) rows row (found_halves side rows ascend) here in
        let quiet = each_at (λ row. is_some (clash unique (present side rows) row.key) ≡ false) (rows_put all) row (put_quiet unique (present side rows) all looked) is_new in
        any_at (collides unique side row) rows other (sym (clash_collides unique side rows row found) ∙ quiet) there

    older_apart : (row : Kept) → IsAmong older row → (other : Kept) → IsAmong older other → collides unique side row other ≡ false
    older_apart row here other there = any_at (collides unique side row) older other (each_at (λ row. list_any (collides unique side row) older ≡ false) older row (quiet_rows unique side older a before) here) there

    apart : (row : Kept) → IsAmong rows row → (other : Kept) → IsAmong rows other → collides unique side row other ≡ false
    apart row here other there =
        ⊎_elim (λ is_new. new_apart row here is_new other there)
        (λ was. ⊎_elim (λ other_new. collides_turns unique side row other ∙ new_apart other there other_new row here) (λ other_was. older_apart row was other other_was) (each_at (Comes (rows_put all) older) rows other (each_comes all older) there))
        (each_at (Comes (rows_put all) older) rows row (each_comes all older) here)

pub changed_without_clash : (table : Option Table) (side : Side) (all : List Change) (older : List Kept) →
    Ascends older → Ascends (after_changes all older) → clashes_on table side older (keys_of older) ≡ None →
    clashes_on table side (after_changes all older) (keys_changed all) ≡ None →
    clashes_on table side (after_changes all older) (keys_of (after_changes all older)) ≡ None
changed_without_clash None side all older a ascend before looked = refl
changed_without_clash (Some table) side all older a ascend before looked =
    let uniques = (shape_of table).uniques in
    let rows = after_changes all older in
    no_cause (present side rows) (keys_of rows) uniques
    (each_both (λ unique. Quiet unique (present side older) (keys_of older)) (λ unique. Quiet unique (present side rows) (keys_changed all)) (λ unique. Quiet unique (present side rows) (keys_of rows)) (λ unique. changed_quiet unique side all older a ascend) uniques (all_quiet (present side older) (keys_of older) uniques before) (all_quiet (present side rows) (keys_changed all) uniques looked))
