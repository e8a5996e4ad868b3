-- Seats that are joined one after another.
use Rattle.std.proofs.Common.{◌≡◌, ℕ, zero, suc, ◌+◌, ◌<◌, ◌≤◌, List, [], ◌∷◌, ◌++◌, length, Option, sym, refl, ap, ◌∙◌, subst, arith, length-append, append_assoc, append-nil}
use mathlib.Core.Option.{some, some-ne-none}
use mathlib.Core.Logic.{dite}
use native.Mathlib.Decide.{ℕ_discrete}
use lib.ListN.{get_elem?}
use Rattle.atomic_table.specs.declared.shared.Seat.{Seat}
use Rattle.atomic_table.proofs.Lists.{at_longer, at_last}
use Rattle.latch.specs.declared.view.View.{View}
use Rattle.latch.specs.Lists.{total, times, Begins}
use Rattle.latch.specs.Origin.{Origin}
use Rattle.latch.specs.Seats.{IsSeatOf, IsFree, AreFree, BeginsEach, places, seen, width}
use Rattle.latch.proofs.Lists.{same_at, foreign_append, foreign_less, times_append, total_snoc}

-- each of these places is one of those
abbrev pub Within : List ℕ → List ℕ → Type 0
Within ps qs = (p : ℕ) → times p qs ≡ 0 → times p ps ≡ 0

at_within : {A : Type 0} (l : List A) (k : ℕ) (a : A) → get_elem? l k ≡ some a → k < length l
at_within [] k a e = absurd (some-ne-none a (sym e))
at_within (x ∷ xs) zero a e = omega arith
at_within (x ∷ xs) (suc k) a e = let h = at_within xs k a e in omega arith

module _ {I : Type 0} (actor : I → Option ℕ) where
  pub begins_on : (ps qs : List ℕ) (log middle seen : List I) → Within ps qs → Begins actor qs log middle → Begins actor ps middle seen → Begins actor ps log seen
  begins_on ps qs log middle seen within a b =
      (b.0 ++ a.0, a.1 ∙ (ap (λ (l : List I). l ++ a.0) b.1 ∙ append_assoc seen b.0 a.0), foreign_append actor ps b.0 a.0 b.2 (foreign_less actor qs ps a.0 within a.2))

module _ {T B I : Type 0} (based : T → B) (actor : I → Option ℕ) (latch : Origin T) (all : List (Seat (Option T) (View B I))) where
  abbrev S : Type 0
  S = Seat (Option T) (View B I)

  -- all seats past those that are left are in the one that is kept
  pub record Gathers (rest : List S) (kept : S) : Type 0 where
    pub own : IsSeatOf based latch kept
    pub free : IsFree kept
    pub wide : width kept + total width rest ≡ total width all
    pub first : (k : ℕ) (s : S) → get_elem? rest k ≡ some s → get_elem? all k ≡ some s
    pub done : (k : ℕ) (s : S) → get_elem? all k ≡ some s → length rest ≤ k → Begins actor (places s) (seen kept) (seen s) × Within (places s) (places kept)

  pub gathers_last : (left : List S) (kept : S) → all ≡ left ++ kept ∷ [] → AreFree based latch all → Gathers left kept
  gathers_last left kept is free =
      let there : get_elem? all (length left) ≡ some kept = ap (λ (l : List S). get_elem? l (length left)) is ∙ at_last left kept (length left) refl in
      let long : length all ≡ length left + 1 = ap length is ∙ length-append left (kept ∷ []) in record {
        own = (free (length left) kept there).0;
        free = (free (length left) kept there).1;
        wide = (let t = total_snoc width left kept in let u = ap (total width) is in omega arith);
        first = λ k s e. subst (λ (l : List S). get_elem? l k ≡ some s) (sym is) (at_longer left (kept ∷ []) k s e);
        done = λ k s e past.
            let near : k < length all = at_within all k s e in let here : k ≡ length left = omega arith in
            let same : kept ≡ s = same_at all k kept s (ap (get_elem? all) here ∙ there) e in
            subst (λ (q : S). Begins actor (places q) (seen kept) (seen q) × Within (places q) (places kept)) same (([], sym (append-nil (seen kept)), tt), (λ p h. h));
      }

  pub gathers_more : (before left : List S) (kept kept' seat : S) → Gathers before kept → before ≡ left ++ seat ∷ [] → IsSeatOf based latch kept' → IsFree kept' → places kept' ≡ places kept ++ places seat
      → Begins actor (places kept) (seen kept') (seen kept) → Begins actor (places seat) (seen kept') (seen seat) → Gathers left kept'
  gathers_more before left kept kept' seat g is own free both a b =
      let at : get_elem? before (length left) ≡ some seat = ap (λ (l : List S). get_elem? l (length left)) is ∙ at_last left seat (length left) refl in
      let there : get_elem? all (length left) ≡ some seat = g.first (length left) seat at in
      let long : length before ≡ length left + 1 = ap length is ∙ length-append left (seat ∷ []) in record {
        own = own;
        free = free;
        wide = (let t = total_snoc width left seat in let u = ap (total width) is in let w = g.wide in let n = ap length both ∙ length-append (places kept) (places seat) in omega arith);
        first = λ k s e. g.first k s (subst (λ (l : List S). get_elem? l k ≡ some s) (sym is) (at_longer left (seat ∷ []) k s e));
        done = λ k s e past. dite (ℕ_discrete k (length left))
            (λ here. subst (λ (q : S). Begins actor (places q) (seen kept') (seen q) × Within (places q) (places kept')) (same_at all k seat s (ap (get_elem? all) here ∙ there) e)
            (b, (λ p h. let t = times_append p (places kept) (places seat) in let u = ap (times p) both in omega arith)))
            (λ past'. let old = g.done k s e (omega arith) in (
              begins_on actor (places s) (places kept) (seen kept') (seen kept) (seen s) old.1 a old.0,
              (λ p h. old.1 p (let t = times_append p (places kept) (places seat) in let u = ap (times p) both in omega arith)),
            ));
      }

  -- once none is left
  pub gathers_all : (rest : List S) (kept : S) (log : List I) → Gathers rest kept → length rest ≡ 0 → Begins actor (places kept) log (seen kept) → BeginsEach actor all log
  gathers_all rest kept log g none b k s e = let d = g.done k s e (omega arith) in begins_on actor (places s) (places kept) log (seen kept) (seen s) d.1 b d.0

  pub gathers_next : (before left : List S) (kept seat : S) → Gathers before kept → before ≡ left ++ seat ∷ [] → AreFree based latch all → IsSeatOf based latch seat × IsFree seat
  gathers_next before left kept seat g is free = free (length left) seat (g.first (length left) seat (ap (λ (l : List S). get_elem? l (length left)) is ∙ at_last left seat (length left) refl))
