-- A latch that begins, seats that are cut and joined, and what stands at the end.
use Rattle.std.proofs.Common.{◌≡◌, ◌≢◌, ℕ, zero, suc, ◌+◌, ◌<◌, ◌≤◌, ◌⊎◌, inl, inr, ⊎_elim, List, [], ◌∷◌, ◌++◌, length, get_or, set, sym, refl, ap, ◌∙◌, subst, arith, length-append, append-nil, length-set, get_or-set_same, get_or-set_other}
use mathlib.Core.Option.{none, some, some-injective, some-ne-none}
use lib.ListN.{get_elem?}
use Rattle.std.specs.Prelude.{Option, Some}
use Rattle.atomic_table.specs.Table.{State, Me, step, keeps, opening, Allows, Splits, Joins, Seen, Final}
use Rattle.atomic_table.proofs.Lists.{at_set, at_snoc, at_longer, set_else}
use Rattle.latch.specs.declared.view.View.{View}
use Rattle.latch.specs.declared.view.Stage.{Stage}
use Rattle.latch.specs.declared.view.Stage.TheVariants.{Idle, Turn}
use Rattle.latch.specs.Lists.{times, upward, first_of, others_of, Begins, BeginsAll}
use Rattle.latch.specs.Views.{one_if_numbered, one_if_live, numbered, breadth, of_place, fresh, cut, one_place, merged, ended, settled}
use Rattle.latch.specs.Rule.{InStage, Fits, AtHome, InTurn}
use Rattle.latch.specs.Told.{recalled}
use Rattle.latch.proofs.Lists.{total_set, total_snoc, total_two, same_at, foreign_less, foreign_nowhere, times_append, longer_begins, times_cut, length_cut, length_upward}
use Rattle.latch.proofs.Rule.{knows, moved}
use Rattle.latch.proofs.Steps.{home_stays}

idle_no_turn : (st : Stage) → st ≡ Idle → st ≡ Turn → ⊥
idle_no_turn st p q = cc

module _ {T B I : Type 0} (listed : T → List I) (based : T → B) (actor : I → Option ℕ) (seats : ℕ) where
  abbrev Rule : State (Option T) (View B I) → Type 0
  Rule s = InTurn listed based actor seats s

  abbrev St : Type 0
  St = State (Option T) (View B I)

  abbrev M : Type 0
  M = Me (Option T) (View B I)

  only : (v u : View B I) (j : ℕ) → get_elem? (v ∷ []) j ≡ some u → (j ≡ 0) × (v ≡ u)
  only v u zero e = (refl, some-injective v u e)
  only v u (suc j) e = absurd (some-ne-none u (sym e))

  pub opens : (x : T) (n : ℕ) → n ≡ length (listed x) → 0 < seats → seats < 18446744073709551616 → Rule (opening (0 ∷ 0 ∷ n ∷ []) (Some x ∷ []) (fresh (listed x) (based x) (upward 0 seats)))
  opens x n is some_seat roomy =
      let v : View B I = fresh (listed x) (based x) (upward 0 seats) in let long : length (upward 0 seats) ≡ seats = length_upward 0 seats in record {
        ticket = 0;
        serving = 0;
        owner = 0;
        log = listed x;
        base = based x;
        wide = refl;
        ticket_is = refl;
        serving_is = refl;
        count_is = is;
        numbers = refl;
        few = omega arith;
        shared = λ p. omega arith;
        whole = omega arith;
        each_seat = λ j u e. subst (λ (y : View B I). Fits actor 0 0 0 (listed x) (based x) j y) (only v u j e).1
            record { begins = ([], sym (append-nil (listed x)), tt); placed = omega arith; joined = tt; stage = refl };
        apart = λ i j a b ea eb na nb same. (only v a i ea).0 ∙ sym (only v b j eb).0;
        home = (x, refl, refl, refl);
      }

  -- a new seat takes no slot
  home_longer : (s : St) (vs : List (View B I)) (w : View B I) (log : List I) (base : B) (o : ℕ) → AtHome listed based actor log base record { words = s.words; homes = s.homes; views = vs } o
      → AtHome listed based actor log base record { words = s.words; homes = s.homes; views = vs ++ w ∷ [] } o
  home_longer s vs w log base zero h = h
  home_longer s vs w log base (suc k) h = (h.0, at_longer vs (w ∷ []) k h.0 h.1, h.2)

  -- one that waits for nothing
  idle_fits : (s : St) (r : Rule s) (id j : ℕ) (v w : View B I) → get_elem? s.views id ≡ some v → v.stage ≡ Idle → w.stage ≡ Idle → w.base ≡ v.base → 1 ≤ length w.places
      → Begins actor w.places r.log w.seen → BeginsAll actor w.seen w.parts → Fits actor r.ticket r.serving r.owner r.log r.base j w
  idle_fits s r id j v w at st st' base live begins joined = record {
    begins = begins;
    placed = subst (λ (z : Stage). one_if_live z ≤ length w.places) (sym st') live;
    joined = joined;
    stage = subst (InStage actor r.ticket r.serving r.owner r.log r.base j w) (sym st') (base ∙ knows listed based actor seats s r id v Idle at st);
  }

  pub cuts : (id : ℕ) (v : View B I) → v.stage ≡ Idle → 2 ≤ length v.places → v.parts ≡ [] → Splits Rule id v (cut v) (one_place v)
  cuts id v st two none_joined s r at =
      let f = r.each_seat id v at in let b = f.begins in let ps : List ℕ = v.places in let lc = length_cut ps (omega arith) in
      let left : View B I = cut v in let right : View B I = one_place v in let views' : List (View B I) = set s.views id left in
      let less : (p : ℕ) → times p ps ≡ 0 → times p (others_of ps) ≡ 0 = λ p z. let t = times_cut p ps in omega arith in
      let less' : (p : ℕ) → times p ps ≡ 0 → times p (first_of ps) ≡ 0 = λ p z. let t = times_cut p ps in omega arith in
      let a : Fits actor r.ticket r.serving r.owner r.log r.base id left = idle_fits s r id id v left at st st refl (omega arith) (b.0, b.1, foreign_less actor ps (others_of ps) b.0 less b.2) f.joined in
      let c : (j : ℕ) → Fits actor r.ticket r.serving r.owner r.log r.base j right = λ j. idle_fits s r id j v right at st st refl (omega arith) (b.0, b.1, foreign_less actor ps (first_of ps) b.0 less' b.2) f.joined in
      let none_here : numbered v ≡ 0 = ap one_if_numbered st in
      let old : (j : ℕ) (u : View B I) → get_elem? views' j ≡ some u → ((j ≡ id) × (left ≡ u)) ⊎ ((j ≢ id) × (get_elem? s.views j ≡ some u)) = λ j u e. at_set s.views id j left u e in
      let named : (j : ℕ) (u : View B I) → get_elem? (views' ++ right ∷ []) j ≡ some u → numbered u ≡ 1 → get_elem? s.views j ≡ some u = λ j u e one.
      ⊎_elim (λ (x : get_elem? views' j ≡ some u). ⊎_elim (λ (y : (j ≡ id) × (left ≡ u)). absurd (let g = ap numbered y.1 in omega arith)) (λ (y : (j ≢ id) × (get_elem? s.views j ≡ some u)). y.1) (old j u x))
      (λ (x : right ≡ u). absurd (let g = ap numbered x in omega arith)) (at_snoc views' right u j e) in
      record {
        ticket = r.ticket;
        serving = r.serving;
        owner = r.owner;
        log = r.log;
        base = r.base;
        wide = r.wide;
        ticket_is = r.ticket_is;
        serving_is = r.serving_is;
        count_is = r.count_is;
        numbers = let t = total_set numbered s.views id v left at in let q = total_snoc numbered views' right in let n = r.numbers in omega arith;
        few = let t = total_set breadth s.views id v left at in let q = total_snoc breadth views' right in let n = r.few in omega arith;
        shared = λ p. let t = total_set (of_place p) s.views id v left at in let q = total_snoc (of_place p) views' right in let n = r.shared p in let z = times_cut p ps in omega arith;
        whole = let t = total_set breadth s.views id v left at in let q = total_snoc breadth views' right in let n = r.whole in omega arith;
        each_seat = λ j u e. ⊎_elim
            (λ (x : get_elem? views' j ≡ some u). ⊎_elim (λ (y : (j ≡ id) × (left ≡ u)). subst (λ (z : ℕ × View B I). Fits actor r.ticket r.serving r.owner r.log r.base z.0 z.1) (λ i. (sym y.0 i, y.1 i)) a)
            (λ (y : (j ≢ id) × (get_elem? s.views j ≡ some u)). r.each_seat j u y.1) (old j u x))
            (λ (x : right ≡ u). subst (λ (z : View B I). Fits actor r.ticket r.serving r.owner r.log r.base j z) x (c j)) (at_snoc views' right u j e);
        apart = λ i j x y ex ey nx ny same. r.apart i j x y (named i x ex nx) (named j y ey ny) nx ny same;
        home = home_longer s views' right r.log r.base r.owner (home_stays listed based actor seats s id v left at (idle_no_turn v.stage st) s.words r.log r.base r.owner r.home);
      }

  pub joins : (id : ℕ) (v : View B I) (other : ℕ) (w : View B I) → v.stage ≡ Idle → w.stage ≡ Idle → Joins Rule id v other w (merged v w) ended
  joins id v other w st st' s r at apart there =
      let both : View B I = merged v w in let views1 : List (View B I) = set s.views id both in let s1 : St = record { words = s.words; homes = s.homes; views = views1 } in
      let at' : get_elem? s.views other ≡ some w = sym (set_else s.views id other both apart) ∙ there in
      let f = r.each_seat id v at in let h = r.each_seat other w at' in let m = longer_begins actor v.places w.places r.log v.seen w.seen f.begins h.begins in
      let live : 1 ≤ length v.places = subst (λ (z : Stage). one_if_live z ≤ length v.places) st f.placed in
      let long : length (v.places ++ w.places) ≡ length v.places + length w.places = length-append v.places w.places in
      let a : Fits actor r.ticket r.serving r.owner r.log r.base id both = idle_fits s r id id v both at st st refl (omega arith) m.0 (m.1, (m.2, tt)) in
      let none_here : numbered v ≡ 0 = ap one_if_numbered st in let none_there : numbered w ≡ 0 = ap one_if_numbered st' in
      let old : (j : ℕ) (u : View B I) → get_elem? (set views1 other ended) j ≡ some u → ((j ≡ other) × (ended {B = B} {I = I} ≡ u)) ⊎ (((j ≡ id) × (both ≡ u)) ⊎ (get_elem? s.views j ≡ some u)) = λ j u e.
      ⊎_elim (λ (x : (j ≡ other) × (ended ≡ u)). inl x)
      (λ (x : (j ≢ other) × (get_elem? views1 j ≡ some u)). ⊎_elim (λ (y : (j ≡ id) × (both ≡ u)). inr (inl y)) (λ (y : (j ≢ id) × (get_elem? s.views j ≡ some u)). inr (inr y.1)) (at_set s.views id j both u x.1))
      (at_set views1 other j ended u e) in
      let named : (j : ℕ) (u : View B I) → get_elem? (set views1 other ended) j ≡ some u → numbered u ≡ 1 → get_elem? s.views j ≡ some u = λ j u e one.
      ⊎_elim (λ (x : (j ≡ other) × (ended {B = B} {I = I} ≡ u)). absurd (let g = ap numbered x.1 in omega arith))
      (λ (x : ((j ≡ id) × (both ≡ u)) ⊎ (get_elem? s.views j ≡ some u)). ⊎_elim (λ (y : (j ≡ id) × (both ≡ u)). absurd (let g = ap numbered y.1 in omega arith)) (λ (y : get_elem? s.views j ≡ some u). y) x) (old j u e) in
      record {
        ticket = r.ticket;
        serving = r.serving;
        owner = r.owner;
        log = r.log;
        base = r.base;
        wide = r.wide;
        ticket_is = r.ticket_is;
        serving_is = r.serving_is;
        count_is = r.count_is;
        numbers = let t = total_set numbered s.views id v both at in let q = total_set numbered views1 other w ended there in let n = r.numbers in omega arith;
        few = let t = total_set breadth s.views id v both at in let q = total_set breadth views1 other w ended there in let n = r.few in omega arith;
        shared = λ p. let t = total_set (of_place p) s.views id v both at in let q = total_set (of_place p) views1 other w ended there in let n = r.shared p in let z = times_append p v.places w.places in omega arith;
        whole = let t = total_set breadth s.views id v both at in let q = total_set breadth views1 other w ended there in let n = r.whole in omega arith;
        each_seat = λ j u e. ⊎_elim
            (λ (x : (j ≡ other) × (ended ≡ u)). subst (λ (z : View B I). Fits actor r.ticket r.serving r.owner r.log r.base j z) x.1 record { begins = (r.log, refl, foreign_nowhere actor r.log); placed = omega arith; joined = tt; stage = refl })
            (λ (x : ((j ≡ id) × (both ≡ u)) ⊎ (get_elem? s.views j ≡ some u)). ⊎_elim
            (λ (y : (j ≡ id) × (both ≡ u)). subst (λ (z : ℕ × View B I). Fits actor r.ticket r.serving r.owner r.log r.base z.0 z.1) (λ i. (sym y.0 i, y.1 i)) a)
            (λ (y : get_elem? s.views j ≡ some u). r.each_seat j u y) x)
            (old j u e);
        apart = λ i j x y ex ey nx ny same. r.apart i j x y (named i x ex nx) (named j y ey ny) nx ny same;
        home = home_stays listed based actor seats s1 other w ended there (idle_no_turn w.stage st') s.words r.log r.base r.owner
            (home_stays listed based actor seats s id v both at (idle_no_turn v.stage st) s.words r.log r.base r.owner r.home);
      }

  pub recalls : (n id : ℕ) (me : M) → me.0.stage ≡ Idle → Allows Rule n id me 0 (λ y. y) (recalled actor (step n 0 0 0 none) me)
  recalls n id me st s r wide at _ =
      let v = me.0 in let f = r.each_seat id v at in let w : View B I = settled v in let y : ℕ = get_or s.words 0 0 in let none_here : numbered v ≡ 0 = ap one_if_numbered st in (
        w,
        keeps,
        tt,
        moved listed based actor seats s r id v w (set s.words 0 y) s.homes r.ticket r.serving r.owner r.log at refl
            (length-set s.words 0 y ∙ r.wide)
            (get_or-set_same s.words 0 y 0 (let g = r.wide in omega arith) ∙ r.ticket_is)
            (get_or-set_other s.words 0 1 y 0 (λ e. omega arith) ∙ r.serving_is)
            (get_or-set_other s.words 0 2 y 0 (λ e. omega arith) ∙ r.count_is)
            (omega arith)
            record { begins = f.begins; placed = f.placed; joined = tt; stage = f.stage }
            (λ j u other e. r.each_seat j u e)
            (λ j u other e one _ _. (omega arith))
            (home_stays listed based actor seats s id v w at (idle_no_turn v.stage st) (set s.words 0 y) r.log r.base r.owner r.home),
        (f.joined, refl),
      )

  at_home_only : (s : St) (log : List I) (base : B) (o : ℕ) → AtHome listed based actor log base s o → ((k : ℕ) (u : View B I) → o ≡ suc k → get_elem? s.views k ≡ some u → u.stage ≡ Turn → ⊥)
      → (x : T) × (get_elem? s.homes 0 ≡ some (some (Some x))) × (listed x ≡ log) × (based x ≡ base)
  at_home_only s log base zero h never = h
  at_home_only s log base (suc k) h never = absurd (never k h.0 refl h.1 h.2)

  -- where one seat stands for every place, the value is at home
  pub closes : (s : St) (id : ℕ) (v : View B I) → Seen Rule id v s → v.stage ≡ Idle → length v.places ≡ seats
      → (x : T) × (get_elem? s.homes 0 ≡ some (some (Some x))) × (v.base ≡ Some (based x)) × Begins actor v.places (listed x) v.seen
  closes s id v seen st all =
      let r = seen.0 in let at = seen.1 in let f = r.each_seat id v at in
      let home = at_home_only s r.log r.base r.owner r.home (λ k u o there up.
      let other : k ≢ id = λ same. idle_no_turn v.stage st (ap (λ (z : View B I). z.stage) (same_at s.views id v u at (subst (λ (i : ℕ). get_elem? s.views i ≡ some u) same there)) ∙ up) in
      let t = total_two breadth s.views k id u v there at other in let w = r.whole in
      let live : 1 ≤ length u.places = subst (λ (z : Stage). one_if_live z ≤ length u.places) up (r.each_seat k u there).placed in omega arith) in
      (home.0, home.1, knows listed based actor seats s r id v Idle at st ∙ ap Some (sym home.3), subst (λ (l : List I). Begins actor v.places l v.seen) (sym home.2) f.begins)

  some_same : (a b : T) → Some a ≡ Some b → a ≡ b
  some_same a b e = cc

  pub ends : (id : ℕ) (v : View B I) (ws : List ℕ) (xs : List (Option T)) (y : Option T) → Final (Seen Rule id v) ws xs → v.stage ≡ Idle → length v.places ≡ seats → get_elem? xs 0 ≡ some y
      → (x : T) × (y ≡ Some x) × (v.base ≡ Some (based x)) × Begins actor v.places (listed x) v.seen
  ends id v ws xs y last st all taken =
      let end = closes last.0 id v last.1 st all in (end.0, some-injective y (Some end.0) (sym taken ∙ last.4 0 (Some end.0) end.1), end.2, end.3)

  pub ends_with : (id : ℕ) (v : View B I) (ws : List ℕ) (xs : List (Option T)) (y : Option T) (x : T) → Final (Seen Rule id v) ws xs → v.stage ≡ Idle → length v.places ≡ seats → get_elem? xs 0 ≡ some y → y ≡ Some x
      → (v.base ≡ Some (based x)) × Begins actor v.places (listed x) v.seen
  ends_with id v ws xs y x last st all taken is =
      let end = ends id v ws xs y last st all taken in
      subst (λ (z : T). (v.base ≡ Some (based z)) × Begins actor v.places (listed z) v.seen) (some_same end.0 x (sym end.1 ∙ is)) (end.2, end.3)
