-- What stays of the latch's rule when one seat moves.
use Rattle.std.proofs.Common.{◌≡◌, ◌≢◌, ℕ, suc, ◌+◌, ◌%◌, ◌<◌, ◌≤◌, ⊎_elim, List, length, get_or, set, sym, ap, ◌∙◌, subst, arith}
use mathlib.Core.Option.{some}
use mathlib.Core.Option as maybe
use lib.ListN.{get_elem?}
use Rattle.std.specs.Prelude.{Option}
use Rattle.atomic_table.specs.Table.{State}
use Rattle.atomic_table.proofs.Lists.{at_set}
use Rattle.latch.specs.declared.view.View.{View}
use Rattle.latch.specs.declared.view.Stage.{Stage}
use Rattle.latch.specs.declared.view.Stage.TheVariants.{Idle, Waiting, Turn, Ended}
use Rattle.latch.specs.Lists.{total, times}
use Rattle.latch.specs.Views.{one_if_numbered, one_if_live, numbered, breadth, of_place}
use Rattle.latch.specs.Rule.{InStage, Fits, AtHome, InTurn}
use Rattle.latch.proofs.Lists.{total_set, total_same, total_at, total_le}

pub numbered_live : (st : Stage) → one_if_numbered st ≤ one_if_live st
numbered_live Idle = omega arith
numbered_live Waiting = omega arith
numbered_live Turn = omega arith
numbered_live Ended = omega arith

module _ {B I : Type 0} (actor : I → Option ℕ) (ticket serving owner ticket' serving' owner' : ℕ) (log log' : List I) (base : B) (j : ℕ) (v : View B I) where
  -- a seat that a step does not touch
  pub restage : (st : Stage) → v.stage ≡ st → (v.stage ≡ Waiting → serving ≤ v.number → v.number < ticket → (serving' ≤ v.number) × (v.number < ticket'))
      → (v.stage ≡ Turn → v.number ≡ serving → owner ≡ suc j → v.kept ≡ log → (v.number ≡ serving') × (owner' ≡ suc j) × (v.kept ≡ log'))
      → InStage actor ticket serving owner log base j v st → InStage actor ticket' serving' owner' log' base j v st
  restage Idle is a b k = k
  restage Waiting is a b k = let c = a is k.0 k.1 in (c.0, c.1, k.2)
  restage Turn is a b k = let c = b is k.0 k.1 k.2 in (c.0, c.1, c.2, k.3)
  restage Ended is a b k = k

module _ {T B I : Type 0} (listed : T → List I) (based : T → B) (actor : I → Option ℕ) (seats : ℕ) where
  abbrev Rule : State (Option T) (View B I) → Type 0
  Rule s = InTurn listed based actor seats s

  abbrev St : Type 0
  St = State (Option T) (View B I)

  pub knows : (s : St) (r : Rule s) (id : ℕ) (v : View B I) (st : Stage) → get_elem? s.views id ≡ some v → v.stage ≡ st → InStage actor r.ticket r.serving r.owner r.log r.base id v st
  knows s r id v st at is = subst (InStage actor r.ticket r.serving r.owner r.log r.base id v) is (r.each_seat id v at).stage

  -- a number that a seat has is one that waits
  pub between : (s : St) (r : Rule s) (id : ℕ) (v : View B I) → get_elem? s.views id ≡ some v → (st : Stage) → v.stage ≡ st → one_if_numbered st ≡ 1 → (r.serving ≤ v.number) × (v.number < r.ticket)
  between s r id v at Idle is one = absurd (omega arith)
  between s r id v at Waiting is one = let k = knows s r id v Waiting at is in (k.0, k.1)
  between s r id v at Turn is one = let k = (knows s r id v Turn at is).0 in let t = total_at numbered s.views id v at in let n : one_if_numbered v.stage ≡ 1 = ap one_if_numbered is in let e = r.numbers in (omega arith, omega arith)
  between s r id v at Ended is one = absurd (omega arith)

  -- fewer than 2 ^ 64 numbers wait
  pub close_by : (s : St) (r : Rule s) → r.ticket < r.serving + 18446744073709551616
  close_by s r = let t : total numbered s.views ≤ total breadth s.views = total_le numbered breadth s.views (λ j v at. let a = numbered_live v.stage in let b = (r.each_seat j v at).placed in omega arith) in
      let e = r.numbers in let f = r.few in omega arith

  -- the seat id goes from v to w
  pub moved : (s : St) (r : Rule s) (id : ℕ) (v w : View B I) (words' : List ℕ) (homes' : List (maybe.Option (Option T))) (ticket' serving' owner' : ℕ) (log' : List I)
      → get_elem? s.views id ≡ some v → w.places ≡ v.places
      → length words' ≡ 3 → get_or words' 0 0 ≡ ticket' % 18446744073709551616 → get_or words' 1 0 ≡ serving' % 18446744073709551616 → get_or words' 2 0 ≡ length log'
      → ticket' + r.serving + numbered v ≡ serving' + r.ticket + numbered w
      → Fits actor ticket' serving' owner' log' r.base id w
      → ((j : ℕ) (u : View B I) → j ≢ id → get_elem? s.views j ≡ some u → Fits actor ticket' serving' owner' log' r.base j u)
      → ((j : ℕ) (u : View B I) → j ≢ id → get_elem? s.views j ≡ some u → numbered w ≡ 1 → numbered u ≡ 1 → w.number ≢ u.number)
      → AtHome listed based actor log' r.base record { words = words'; homes = homes'; views = set s.views id w } owner'
      → Rule record { words = words'; homes = homes'; views = set s.views id w }
  moved s r id v w words' homes' ticket' serving' owner' log' at places long e₀ e₁ e₂ count mine others other_number home =
      record {
        ticket = ticket';
        serving = serving';
        owner = owner';
        log = log';
        base = r.base;
        wide = long;
        ticket_is = e₀;
        serving_is = e₁;
        count_is = e₂;
        numbers = let t = total_set numbered s.views id v w at in let n = r.numbers in omega arith;
        few = subst (λ (n : ℕ). n < 18446744073709551616) (sym (total_same breadth s.views id v w at (ap length places))) r.few;
        shared = λ p. total_same (of_place p) s.views id v w at (ap (times p) places) ∙ r.shared p;
        whole = total_same breadth s.views id v w at (ap length places) ∙ r.whole;
        each_seat = λ j u e. ⊎_elim (λ (x : (j ≡ id) × (w ≡ u)). subst (λ (y : ℕ × View B I). Fits actor ticket' serving' owner' log' r.base y.0 y.1) (λ i. (sym x.0 i, x.1 i)) mine)
            (λ (x : (j ≢ id) × (get_elem? s.views j ≡ some u)). others j u x.0 x.1) (at_set s.views id j w u e);
        apart = λ i j a b ea eb na nb same.
            ⊎_elim (λ (x : (i ≡ id) × (w ≡ a)). ⊎_elim (λ (y : (j ≡ id) × (w ≡ b)). x.0 ∙ sym y.0)
            (λ (y : (j ≢ id) × (get_elem? s.views j ≡ some b)). absurd (other_number j b y.0 y.1 (ap numbered x.1 ∙ na) nb (ap (λ (u : View B I). u.number) x.1 ∙ same))) (at_set s.views id j w b eb))
            (λ (x : (i ≢ id) × (get_elem? s.views i ≡ some a)). ⊎_elim (λ (y : (j ≡ id) × (w ≡ b)). absurd (other_number i a x.0 x.1 (ap numbered y.1 ∙ nb) na (ap (λ (u : View B I). u.number) y.1 ∙ sym same)))
            (λ (y : (j ≢ id) × (get_elem? s.views j ≡ some b)). r.apart i j a b x.1 y.1 na nb same) (at_set s.views id j w b eb)) (at_set s.views id i w a ea);
        home = home;
      }
