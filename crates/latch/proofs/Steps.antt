-- The steps of `enter` and `leave` keep the rule, and what each tells.
use Rattle.std.proofs.Common.{◌≡◌, ◌≢◌, ℕ, zero, suc, ◌+◌, ◌%◌, ◌<◌, ◌≤◌, List, [], ◌∷◌, ◌++◌, length, get_or, set, sym, refl, ap, ◌∙◌, subst, arith, length-set, get_or-set_other, get_or-set_same, append_assoc, append-nil}
use Rattle.std.proofs.lemmas.List.{set-get_or}
use Rattle.std.proofs.Math.Nat.{mod-add-mod, mod-eq_of_lt}
use mathlib.Core.Option.{none, some}
use mathlib.Core.Option as maybe
use mathlib.Core.Logic.{dite}
use native.Mathlib.Decide.{ℕ_discrete}
use lib.ListN.{get_elem?}
use Rattle.std.specs.Prelude.{Option, Some}
use Rattle.atomic_table.specs.Table.{State, Me, step, keeps, takes, gives, rest, Allows}
use Rattle.atomic_table.proofs.Lists.{set_here, set_else, set_again, one_turn}
use Rattle.latch.specs.declared.view.View.{View}
use Rattle.latch.specs.declared.view.Stage.{Stage}
use Rattle.latch.specs.declared.view.Stage.TheVariants.{Idle, Waiting, Turn}
use Rattle.latch.specs.Lists.{times, Foreign, Own, Begins, Adds}
use Rattle.latch.specs.Views.{one_if_numbered, one_if_live, numbered, of_place, drawn, turning, counting, idle}
use Rattle.latch.specs.Rule.{InStage, Fits, AtHome, InTurn}
use Rattle.latch.specs.Told.{drew, looked, tallied, counted, passed}
use Rattle.latch.proofs.Lists.{alone, total_two, set_there, same_at, foreign_append, own_foreign}
use Rattle.latch.proofs.Rule.{restage, knows, between, close_by, moved}

idle_no_turn : (st : Stage) → st ≡ Idle → st ≡ Turn → ⊥
idle_no_turn st p q = cc

waiting_no_turn : (st : Stage) → st ≡ Waiting → st ≡ Turn → ⊥
waiting_no_turn st p q = cc

some_same : {A : Type 0} (a b : A) → Some a ≡ Some b → a ≡ b
some_same a b e = cc

module _ {T B I : Type 0} (listed : T → List I) (based : T → B) (actor : I → Option ℕ) (seats : ℕ) where
  abbrev Rule : State (Option T) (View B I) → Type 0
  Rule s = InTurn listed based actor seats s

  abbrev St : Type 0
  St = State (Option T) (View B I)

  abbrev M : Type 0
  M = Me (Option T) (View B I)

  -- a seat of others, in the same numbers
  kept_fit : (s : St) (r : Rule s) (ticket' serving' owner' : ℕ) (j : ℕ) (u : View B I) → get_elem? s.views j ≡ some u
      → (u.stage ≡ Waiting → r.serving ≤ u.number → u.number < r.ticket → (serving' ≤ u.number) × (u.number < ticket'))
      → (u.stage ≡ Turn → u.number ≡ r.serving → r.owner ≡ suc j → u.kept ≡ r.log → (u.number ≡ serving') × (owner' ≡ suc j) × (u.kept ≡ r.log))
      → Fits actor ticket' serving' owner' r.log r.base j u
  kept_fit s r ticket' serving' owner' j u e a b = let f = r.each_seat j u e in record {
    begins = f.begins;
    placed = f.placed;
    joined = f.joined;
    stage = restage actor r.ticket r.serving r.owner ticket' serving' owner' r.log r.log r.base j u u.stage refl a b f.stage;
  }

  -- the slot stays where it is
  pub home_stays : (s : St) (id : ℕ) (v w : View B I) → get_elem? s.views id ≡ some v → (v.stage ≡ Turn → ⊥) → (words' : List ℕ) (log : List I) (base : B) (o : ℕ)
      → AtHome listed based actor log base s o → AtHome listed based actor log base record { words = words'; homes = s.homes; views = set s.views id w } o
  home_stays s id v w at never words' log base zero h = h
  home_stays s id v w at never words' log base (suc k) h =
      let u : View B I = h.0 in let there : get_elem? s.views k ≡ some u = h.1 in let turn : u.stage ≡ Turn = h.2 in
      let other : k ≢ id = λ e. never (ap (λ (x : View B I). x.stage) (same_at s.views id v u at (subst (λ (i : ℕ). get_elem? s.views i ≡ some u) e there)) ∙ turn) in
      (u, set_else s.views id k w other ∙ there, turn)

  pub draws : (n id : ℕ) (me : M) → me.0.stage ≡ Idle → Allows Rule n id me 0 (λ y. (y + 1) % 18446744073709551616) (drew (step n 0 1 0 none) me)
  draws n id me st s r wide at _ =
      let v = me.0 in let t : ℕ = r.ticket in let w : View B I = drawn v t in let f = r.each_seat id v at in
      let live : 1 ≤ length v.places = subst (λ (z : Stage). one_if_live z ≤ length v.places) st f.placed in
      let y : ℕ = get_or s.words 0 0 in let z : ℕ = (y + 1) % 18446744073709551616 in let long : length s.words ≡ 3 = r.wide in
      let idle_one : one_if_numbered v.stage ≡ 0 = ap one_if_numbered st in
      let near : r.serving ≤ t = (let e = r.numbers in omega arith) in (
        w,
        keeps,
        tt,
        moved listed based actor seats s r id v w (set s.words 0 z) s.homes (t + 1) r.serving r.owner r.log at refl
            (length-set s.words 0 z ∙ long)
            (get_or-set_same s.words 0 z 0 (omega arith) ∙ (ap (λ (k : ℕ). (k + 1) % 18446744073709551616) r.ticket_is ∙ mod-add-mod t 18446744073709551616 1))
            (get_or-set_other s.words 0 1 z 0 (λ e. omega arith) ∙ r.serving_is)
            (get_or-set_other s.words 0 2 z 0 (λ e. omega arith) ∙ r.count_is)
            (omega arith)
            record { begins = f.begins; placed = live; joined = f.joined; stage = (near, (let g : t < t + 1 = omega arith in g), knows listed based actor seats s r id v Idle at st) }
            (λ j u other e. kept_fit s r (t + 1) r.serving r.owner j u e (λ _ a b. (a, (let g : u.number < t + 1 = omega arith in g))) (λ _ a b c. (a, b, c)))
            (λ j u other e _ one same. let b = (between listed based actor seats s r j u e u.stage refl one).1 in let same' : t ≡ u.number = same in absurd (omega arith))
            (home_stays s id v w at (idle_no_turn v.stage st) (set s.words 0 z) r.log r.base r.owner r.home),
        (t, r.ticket_is, refl),
      )

  -- a load that changes no view
  pub stays : (s : St) (r : Rule s) (i id : ℕ) (v : View B I) → get_elem? s.views id ≡ some v → Rule record { words = set s.words i (get_or s.words i 0); homes = s.homes; views = set s.views id v }
  stays s r i id v at = subst (λ (z : List ℕ × List (View B I)). Rule record { words = z.0; homes = s.homes; views = z.1 }) (λ k. (sym (set-get_or s.words i 0) k, sym (set_again s.views id v at) k)) r

  pub tallies : (n id : ℕ) (me : M) → me.0.stage ≡ Turn → Allows Rule n id me 2 (λ y. y) (tallied (step n 2 0 0 none) me)
  tallies n id me st s r wide at _ = let k = knows listed based actor seats s r id me.0 Turn at st in
      (me.0, keeps, tt, stays s r 2 id me.0 at, (refl, r.count_is ∙ ap length (sym k.2)))

  -- the value at home, if no seat has its turn
  at_home : (s : St) (log : List I) (base : B) (o : ℕ) → AtHome listed based actor log base s o → ((k : ℕ) (v : View B I) → o ≡ suc k → get_elem? s.views k ≡ some v → v.stage ≡ Turn → ⊥)
      → (o ≡ 0) × ((x : T) × (get_elem? s.homes 0 ≡ some (some (Some x))) × (listed x ≡ log) × (based x ≡ base))
  at_home s log base zero h never = (refl, h)
  at_home s log base (suc k) h never = absurd (never k h.0 refl h.1 h.2)

  pub looks : (n id : ℕ) (me : M) → me.0.stage ≡ Waiting → n ≡ 1 → Allows Rule n id me 1 (λ y. y) (looked listed based actor (step n 1 0 0 none) me)
  looks n id me st one s r wide at _ =
      let v = me.0 in let y : ℕ = get_or s.words 1 0 in let f = r.each_seat id v at in let k = knows listed based actor seats s r id v Waiting at st in
      dite (ℕ_discrete y (v.number % 18446744073709551616))
      (λ hit.
      let low : r.serving ≤ v.number = k.0 in let high : v.number < r.ticket = k.1 in let near = close_by listed based actor seats s r in
      let turn : r.serving ≡ v.number = one_turn r.serving v.number 18446744073709551616 low (omega arith) (sym r.serving_is ∙ hit) in
      let mine : numbered v ≡ 1 = ap one_if_numbered st in
      let home = at_home s r.log r.base r.owner r.home (λ i u o there up.
      let number = (knows listed based actor seats s r i u Turn there up).0 in
      let same : id ≡ i = r.apart id i v u at there mine (ap one_if_numbered up) (sym turn ∙ sym number) in
      waiting_no_turn v.stage st (ap (λ (x : View B I). x.stage) (same_at s.views i v u (subst (λ (z : ℕ). get_elem? s.views z ≡ some v) same at) there) ∙ up)) in
      let x : T = home.1.0 in let w : View B I = turning v v.number (listed x) in
      let live : 1 ≤ length v.places = subst (λ (z : Stage). one_if_live z ≤ length v.places) st f.placed in
      let out : List (maybe.Option (Option T)) = set s.homes 0 none in (
        w,
        takes 0 (Some x),
        home.1.1,
        moved listed based actor seats s r id v w (set s.words 1 y) out r.ticket r.serving (suc id) r.log at refl
            (length-set s.words 1 y ∙ r.wide)
            (get_or-set_other s.words 1 0 y 0 (λ e. omega arith) ∙ r.ticket_is)
            (get_or-set_same s.words 1 y 0 (let g = r.wide in omega arith) ∙ r.serving_is)
            (get_or-set_other s.words 1 2 y 0 (λ e. omega arith) ∙ r.count_is)
            (omega arith)
            record { begins = f.begins; placed = live; joined = f.joined; stage = (sym turn, refl, home.1.2, k.2) }
            (λ j u other e. kept_fit s r r.ticket r.serving (suc id) j u e (λ _ a b. (a, b)) (λ _ a b c. absurd (let o = home.0 in omega arith)))
            (λ j u other e _ up same. other (sym (r.apart id j v u at e mine up same)))
            (w, set_there s.views id v w at, refl),
        ((λ _. (x, refl, (k.2 ∙ ap Some (sym home.1.3)), subst (λ (l : List I). Begins actor v.places l v.seen) (sym home.1.2) f.begins)), (λ miss. absurd (miss hit))),
      ))
      (λ miss. (v, keeps, tt, stays s r 1 id v at, ((λ hit. absurd (miss hit)), (λ _. refl))))

  -- a seat of others, while the history grows by entries of this seat's places
  grown_fit : (s : St) (r : Rule s) (id : ℕ) (v : View B I) (new : List I) (j : ℕ) (u : View B I) → get_elem? s.views id ≡ some v → v.stage ≡ Turn → Own actor v.places new → j ≢ id → get_elem? s.views j ≡ some u
      → Fits actor r.ticket r.serving r.owner (r.log ++ new) r.base j u
  grown_fit s r id v new j u at st own other e =
      let f = r.each_seat j u e in let b = f.begins in
      let apart : (p : ℕ) → 0 < times p v.places → times p u.places ≡ 0 = λ p some_there. let t = total_two (of_place p) s.views id j v u at e (λ same. other (sym same)) in let a = alone p seats in let h = r.shared p in omega arith in record {
        begins = (b.0 ++ new, ap (λ (l : List I). l ++ new) b.1 ∙ append_assoc u.seen b.0 new, foreign_append actor u.places b.0 new b.2 (own_foreign actor v.places u.places new apart own));
        placed = f.placed;
        joined = f.joined;
        stage = restage actor r.ticket r.serving r.owner r.ticket r.serving r.owner r.log (r.log ++ new) r.base j u u.stage refl (λ _ a c. (a, c))
            (λ _ a c _. absurd (let mine = (knows listed based actor seats s r id v Turn at st).1 in other (let g : j ≡ id = omega arith in g))) f.stage;
      }

  foreign_none : (places : List ℕ) → Foreign actor places []
  foreign_none places = tt

  pub counts : (n id : ℕ) (me : M) (k : ℕ) (x : T) → me.0.stage ≡ Turn → me.1 ≡ (0, Some x) ∷ [] → Adds actor me.0.places (listed x) me.0.kept → length me.0.kept + k ≡ length (listed x) → length (listed x) < 18446744073709551616
      → Allows Rule n id me 2 (λ y. (y + k) % 18446744073709551616) (counted listed (step n 2 k 0 none) me)
  counts n id me k x st slot adds more small s r wide at _ =
      let v = me.0 in let y : ℕ = get_or s.words 2 0 in let z : ℕ = (y + k) % 18446744073709551616 in let f = r.each_seat id v at in let kn = knows listed based actor seats s r id v Turn at st in
      let w : View B I = counting v (listed x) in let new : List I = adds.0 in
      let is : listed x ≡ r.log ++ new = adds.1 ∙ ap (λ (l : List I). l ++ new) kn.2 in
      let many : y + k ≡ length (listed x) = (let c : y ≡ length r.log = r.count_is in let l : length v.kept ≡ length r.log = ap length kn.2 in omega arith) in
      let live : 1 ≤ length v.places = subst (λ (q : Stage). one_if_live q ≤ length v.places) st f.placed in
      let count : z ≡ length (listed x) = ap (λ (q : ℕ). q % 18446744073709551616) many ∙ mod-eq_of_lt small in (
        w,
        keeps,
        tt,
        moved listed based actor seats s r id v w (set s.words 2 z) s.homes r.ticket r.serving r.owner (listed x) at refl
            (length-set s.words 2 z ∙ r.wide)
            (get_or-set_other s.words 2 0 z 0 (λ e. omega arith) ∙ r.ticket_is)
            (get_or-set_other s.words 2 1 z 0 (λ e. omega arith) ∙ r.serving_is)
            (get_or-set_same s.words 2 z 0 (let g = r.wide in omega arith) ∙ count)
            (omega arith)
            record {
              begins = ([], sym (append-nil (listed x)), tt);
              placed = f.placed;
              joined = tt;
              stage = subst (InStage actor r.ticket r.serving r.owner (listed x) r.base id w) (sym st) (kn.0, kn.1, refl, kn.3);
            }
            (λ j u other e. subst (λ (l : List I). Fits actor r.ticket r.serving r.owner l r.base j u) (sym is) (grown_fit s r id v new j u at st adds.2 other e))
            (λ j u other e one up same. other (sym (r.apart id j v u at e one up same)))
            (subst (λ (o : ℕ). AtHome listed based actor (listed x) r.base record { words = set s.words 2 z; homes = s.homes; views = set s.views id w } o) (sym kn.1) (w, set_there s.views id v w at, st)),
        (x, slot ∙ ap (λ (q : List (ℕ × Option T)). (0, Some x) ∷ rest q) (sym slot), refl),
      )

  passes_with : (n id : ℕ) (v : View B I) (x : T) → v.stage ≡ Turn → n ≡ 1 → v.kept ≡ listed x → v.base ≡ Some (based x)
      → Allows Rule n id (v, (0, Some x) ∷ []) 1 (λ y. (y + 1) % 18446744073709551616) (passed (step n 1 1 0 none) (v, (0, Some x) ∷ []))
  passes_with n id v x st one kept founded s r wide at _ =
      let y : ℕ = get_or s.words 1 0 in let z : ℕ = (y + 1) % 18446744073709551616 in let f = r.each_seat id v at in let kn = knows listed based actor seats s r id v Turn at st in
      let w : View B I = idle v in let t : ℕ = r.serving in let homes' : List (maybe.Option (Option T)) = set s.homes 0 (some (Some x)) in
      let mine : numbered v ≡ 1 = ap one_if_numbered st in
      let live : 1 ≤ length v.places = subst (λ (q : Stage). one_if_live q ≤ length v.places) st f.placed in (
        w,
        gives,
        tt,
        moved listed based actor seats s r id v w (set s.words 1 z) homes' r.ticket (t + 1) 0 r.log at refl
            (length-set s.words 1 z ∙ r.wide)
            (get_or-set_other s.words 1 0 z 0 (λ e. omega arith) ∙ r.ticket_is)
            (get_or-set_same s.words 1 z 0 (let g = r.wide in omega arith) ∙ (ap (λ (q : ℕ). (q + 1) % 18446744073709551616) r.serving_is ∙ mod-add-mod t 18446744073709551616 1))
            (get_or-set_other s.words 1 2 z 0 (λ e. omega arith) ∙ r.count_is)
            (omega arith)
            record { begins = f.begins; placed = live; joined = f.joined; stage = kn.3 }
            (λ j u other e. kept_fit s r r.ticket (t + 1) 0 j u e
            (λ waits a b. let apart : t ≢ u.number = λ same. other (sym (r.apart id j v u at e mine (ap one_if_numbered waits) (kn.0 ∙ same))) in ((let g : t + 1 ≤ u.number = omega arith in g), b))
            (λ _ _ o _. absurd (other (let m = kn.1 in let g : j ≡ id = omega arith in g))))
            (λ j u other e none_here _ _. (let g : 0 ≡ 1 = none_here in let h : 1 ≡ 0 = sym g in omega arith))
            (x, set_here s.homes 0 (some (Some x)) (omega arith), sym kept ∙ kn.2, some_same (based x) r.base (sym founded ∙ kn.3)),
        refl,
      )

  pub passes : (n id : ℕ) (me : M) (x : T) → me.0.stage ≡ Turn → n ≡ 1 → me.1 ≡ (0, Some x) ∷ [] → me.0.kept ≡ listed x → me.0.base ≡ Some (based x)
      → Allows Rule n id me 1 (λ y. (y + 1) % 18446744073709551616) (passed (step n 1 1 0 none) me)
  passes n id me x st one slot kept founded =
      subst (λ (q : List (ℕ × Option T)). Allows Rule n id (me.0, q) 1 (λ y. (y + 1) % 18446744073709551616) (passed (step n 1 1 0 none) (me.0, q))) (sym slot) (passes_with n id me.0 x st one kept founded)
