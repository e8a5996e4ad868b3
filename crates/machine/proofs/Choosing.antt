-- The plain step is one of the machine's steps: the least missing keys are a choice of missing keys.
use Rattle.std.proofs.Common.{◌≡◌, inl, ℕ, zero, suc, ◌≤◌, ℤ, List, [], ◌∷◌, Bool, true, false, ◌||◌, Option, Some, None, refl, ◌∙◌, sym, ap, subst, if◌then◌else◌, length, map, take, filter, nat_lt, arith, int_cmp, int_eq, Ordering, Less, Equal, Greater}
use Rattle.std.specs.List.{list_any}
use Rattle.std.specs.Option.{option_map_or}
use Rattle.std.specs.Ordering.{is_eq, ordering_reverse}
use Rattle.std.proofs.lemmas.Cmp.{int_cmp_total, tied_itself}
use Rattle.mig_lens.specs.declared.faults.Refusal.{Refusal}
use Rattle.sql_base.specs.Laws.{either_none}
use Rattle.machine.proofs.Placing.{Above, above_less, ascends_above, ascends_rest, neither}
use Rattle.machine.proofs.Replacing.{rows_stand}
use Rattle.row_rules.specs.Site.{is_missing}
use Rattle.machine.specs.declared.events.Event.{Event}
use Rattle.machine.specs.declared.events.Event.TheVariants.{Said, Start, Fill, Complete, Rollback}
use Rattle.machine.specs.declared.events.Reply.{Reply}
use Rattle.row_rules.specs.declared.kinds.Kept.{Kept}
use Rattle.machine.specs.declared.states.State.{State}
use Rattle.machine.specs.State.{Shared, missing_keys, rows_of, shared}
use Rattle.row_rules.specs.Outcome.{guarded}
use Rattle.machine.specs.Laws.{PlainStepsAreSteps}
use Rattle.machine.specs.Migrate.{bad_batch, fill_keys, first_of, has_missing, least_batch, may_not_fill, phase_of, unfilled_tables}
use Rattle.phase_steps.specs.Phases.{may_fill}
use Rattle.machine.specs.Standing.{Ascends, IsState}
use Rattle.machine.specs.Step.{Comes, ComesTo, FillStep, FillsSome, outcome_of}
use Rattle.machine.specs.Done.{Wrote, as_outcome, wrote_by}

-- ---- keys that differ

-- Each of these keys differs from those behind it.
abbrev Apart : List ℤ → Type 0
Apart [] = Unit {0}
Apart (key ∷ keys) = (list_any (int_eq key) keys ≡ false) × Apart keys

above_left : (p : Kept → Bool) (key : ℤ) (rows : List Kept) → Above key rows → Ascends rows → list_any (int_eq key) (map (λ row. row.key) (filter p rows)) ≡ false
above_left p key [] a h = refl
above_left p key (row ∷ rows) a h = by_test (p row) (ap is_eq a) (above_left p key rows (above_less key row.key rows a (ascends_above row rows h)) (ascends_rest row rows h))
  where
    by_test : (b : Bool) → int_eq key row.key ≡ false → list_any (int_eq key) (map (λ row. row.key) (filter p rows)) ≡ false → list_any (int_eq key) (map (λ row. row.key) (if b then row ∷ filter p rows else filter p rows)) ≡ false
    by_test true differ there = ap (λ b. b || list_any (int_eq key) (map (λ row. row.key) (filter p rows))) differ ∙ there
    by_test false differ there = there

apart_left : (p : Kept → Bool) (rows : List Kept) → Ascends rows → Apart (map (λ row. row.key) (filter p rows))
apart_left p [] h = tt
apart_left p (row ∷ rows) h = by_test (p row) (above_left p row.key rows (ascends_above row rows h) (ascends_rest row rows h)) (apart_left p rows (ascends_rest row rows h))
  where
    by_test : (b : Bool) → list_any (int_eq row.key) (map (λ row. row.key) (filter p rows)) ≡ false → Apart (map (λ row. row.key) (filter p rows)) → Apart (map (λ row. row.key) (if b then row ∷ filter p rows else filter p rows))
    by_test true here there = (here, there)
    by_test false here there = there

missing_apart : (s : State) (number : ℕ) → IsState s → Apart (missing_keys s number)
missing_apart s number stands = by_pair (shared s number)
  where
    by_pair : (pair : Option Shared) → Apart (option_map_or (λ (pair : Shared). map (λ row. row.key) (filter is_missing (rows_of s number))) pair [])
    by_pair None = tt
    by_pair (Some pair) = apart_left is_missing (rows_of s number) (rows_stand s number stands).0

-- ---- the first keys are a choice

pub eq_turns : (x y : ℤ) → int_eq x y ≡ int_eq y x
eq_turns x y = ap is_eq (int_cmp_total.antisymm x y) ∙ turned (int_cmp y x)
  where
    turned : (o : Ordering) → is_eq (ordering_reverse o) ≡ is_eq o
    turned Less = refl
    turned Equal = refl
    turned Greater = refl

pub eq_self : (x : ℤ) → int_eq x x ≡ true
eq_self x = ap is_eq (tied_itself int_cmp_total x)

none_chosen : (keys : List ℤ) → filter (λ key. false) keys ≡ []
none_chosen [] = refl
none_chosen (key ∷ keys) = none_chosen keys

-- a key that is none of these chooses none of them
skipped : (p : ℤ → Bool) (key : ℤ) (keys : List ℤ) → list_any (int_eq key) keys ≡ false → filter (λ x. int_eq x key || p x) keys ≡ filter p keys
skipped p key [] h = refl
skipped p key (x ∷ keys) h =
    let parts = neither (int_eq key x) (list_any (int_eq key) keys) h in
    by_test (int_eq x key) (p x) (eq_turns x key ∙ parts.0) (skipped p key keys parts.1)
  where
    by_test : (a b : Bool) → a ≡ false → filter (λ x. int_eq x key || p x) keys ≡ filter p keys → (if a || b then x ∷ filter (λ x. int_eq x key || p x) keys else filter (λ x. int_eq x key || p x) keys) ≡ (if b then x ∷ filter p keys else filter p keys)
    by_test true b e there = cc
    by_test false true e there = ap (λ xs. x ∷ xs) there
    by_test false false e there = there

first_chosen : (n : ℕ) (keys : List ℤ) → Apart keys → filter (λ key. list_any (int_eq key) (take n keys)) keys ≡ take n keys
first_chosen zero [] a = refl
first_chosen (suc n) [] a = refl
first_chosen zero (key ∷ keys) a = none_chosen (key ∷ keys)
first_chosen (suc n) (key ∷ keys) a =
    by_test (int_eq key key) (eq_self key) (list_any (int_eq key) (take n keys)) ∙ ap (λ xs. key ∷ xs) (skipped (λ x. list_any (int_eq x) (take n keys)) key keys a.0 ∙ first_chosen n keys a.1)
  where
    by_test : (b : Bool) → b ≡ true → (c : Bool) → (if b || c then key ∷ filter (λ x. int_eq x key || list_any (int_eq x) (take n keys)) keys else filter (λ x. int_eq x key || list_any (int_eq x) (take n keys)) keys) ≡ key ∷ filter (λ x. int_eq x key || list_any (int_eq x) (take n keys)) keys
    by_test true e c = refl
    by_test false e c = cc

-- ---- the plain batch

at_least : (n : ℕ) → bad_batch n ≡ None → 1 ≤ n
at_least zero h = cc
at_least (suc n) h = omega arith

first_passes : (p : ℕ → Bool) (xs : List ℕ) (y : ℕ) (ys : List ℕ) → filter p xs ≡ y ∷ ys → p y ≡ true
first_passes p [] y ys h = cc
first_passes p (x ∷ xs) y ys h = by_test (first_passes p xs y ys) (p x) refl h
  where
    by_test : (filter p xs ≡ y ∷ ys → p y ≡ true) → (b : Bool) → p x ≡ b → (if b then x ∷ filter p xs else filter p xs) ≡ y ∷ ys → p y ≡ true
    by_test there true e h = let is : x ≡ y = cc in subst (λ z. p z ≡ true) is e
    by_test there false e h = there h

taken_few : (n : ℕ) (keys : List ℤ) → length (take n keys) ≤ n
taken_few zero keys = omega arith
taken_few (suc n) [] = omega arith
taken_few (suc n) (key ∷ keys) = let there = taken_few n keys in omega arith

taken_some : (n : ℕ) (keys : List ℤ) → 1 ≤ n → nat_lt 0 (length keys) ≡ true → 1 ≤ length (take n keys)
taken_some zero keys h k = absurd (omega arith)
taken_some (suc n) [] h k = cc
taken_some (suc n) (key ∷ keys) h k = omega arith

fills : (s : State) (n : ℕ) (numbers : List ℕ) (reply : Reply) (wrote : Wrote) (t : State) → IsState s → 1 ≤ n → unfilled_tables s ≡ numbers → ComesTo s (as_outcome (least_batch s n (first_of numbers))) reply wrote t → FillsSome numbers s n reply wrote t
fills s n [] reply wrote t stands least e h = h
fills s n (number ∷ numbers) reply wrote t stands least e h =
    let keys = missing_keys s number in
    let chosen : ℤ → Bool = λ key. list_any (int_eq key) (take n keys) in
    let is : filter chosen keys ≡ take n keys = first_chosen n keys (missing_apart s number stands) in
    let some = taken_some n keys least (first_passes (has_missing s) (map (λ table. table.0) s.tables) number numbers e) in (
      record {
        number = number;
        chosen = chosen;
        some = subst (λ ks. 1 ≤ length ks) (sym is) some;
        few = subst (λ ks. length ks ≤ n) (sym is) (taken_few n keys);
      },
      subst (λ ks. ComesTo s (as_outcome (fill_keys s number ks)) reply wrote t) (sym is) h,
    )

fill_step : (s : State) (n : ℕ) (refusal : Option Refusal) (reply : Reply) (wrote : Wrote) (t : State) → IsState s → may_not_fill s n ≡ refusal → ComesTo s (as_outcome (guarded refusal (least_batch s n (first_of (unfilled_tables s))))) reply wrote t → FillStep refusal s n reply wrote t
fill_step s n None reply wrote t stands e h = fills s n (unfilled_tables s) reply wrote t stands (at_least n (either_none (bad_batch n) (may_fill (phase_of s)) e).0) refl h
fill_step s n (Some refusal) reply wrote t stands e h = h

-- What an event comes to where a batch takes the least missing keys is what it may come to.
pub lane_comes : (s : State) (what : Event) (reply : Reply) (wrote : Wrote) (t : State) → IsState s → ComesTo s (outcome_of s what) reply wrote t → Comes s what reply wrote t
lane_comes s (Said path reading) reply wrote t stands c = c
lane_comes s (Start asked) reply wrote t stands c = c
lane_comes s (Fill n) reply wrote t stands c = fill_step s n (may_not_fill s n) reply wrote t stands refl c
lane_comes s Complete reply wrote t stands c = c
lane_comes s Rollback reply wrote t stands c = c

pub plain_steps_are_steps : PlainStepsAreSteps
plain_steps_are_steps s what r stands h = (wrote_by (outcome_of s what), inl (lane_comes s what r.1 (wrote_by (outcome_of s what)) r.0 stands (h.0, refl, h.1)))
