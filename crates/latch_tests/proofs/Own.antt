-- What entries of others leave of a seat's own entries.
use Rattle.std.proofs.Common.{◌≡◌, ℕ, ◌<◌, ◌≤◌, Bool, true, false, List, [], ◌∷◌, ◌++◌, length, take, Option, Some, None, if◌then◌else◌, sym, refl, ap, ◌∙◌, subst, arith, append-nil, append_assoc}
use Rattle.std.proofs.lemmas.Bool.Decides.{nat_tests}
use Rattle.latch.specs.Lists.{times, Foreign, Begins}
use Rattle.latch_tests.specs.declared.callers.Told.{Told}
use Rattle.latch_tests.specs.declared.desk.Entry.{Entry}
use Rattle.latch_tests.specs.Own.{actor_of, carries, own, entries, IsTold, IsWhole}

others : (p : ℕ) (places : List ℕ) (o : Option ℕ) → 0 < times p places → ((q : ℕ) → o ≡ Some q → times q places ≡ 0) → carries p o ≡ false
others p places None there h = refl
others p places (Some q) there h = let t = h q refl in let e : q ≡ p → times q places ≡ times p places = λ same. ap (λ (k : ℕ). times k places) same in grind (arith, nat_tests)

foreign_own : (p : ℕ) (places : List ℕ) (es : List Entry) → 0 < times p places → Foreign actor_of places es → own p es ≡ []
foreign_own p places [] t a = refl
foreign_own p places (e ∷ es) t a = ap (λ (b : Bool). if b then e ∷ own p es else own p es) (others p places e.actor t a.0) ∙ foreign_own p places es t a.1

once_there : (p : ℕ) → 0 < times p (p ∷ [])
once_there p = grind (arith, nat_tests)

split_one : (b : Bool) (x : Entry) (ms ns : List Entry) → (if b then x ∷ (ms ++ ns) else (ms ++ ns)) ≡ (if b then x ∷ ms else ms) ++ ns
split_one true x ms ns = refl
split_one false x ms ns = refl

own_append : (p : ℕ) (xs ys : List Entry) → own p (xs ++ ys) ≡ own p xs ++ own p ys
own_append p [] ys = refl
own_append p (x ∷ xs) ys = ap (λ (m : List Entry). if carries p x.actor then x ∷ m else m) (own_append p xs ys) ∙ split_one (carries p x.actor) x (own p xs) (own p ys)

self_carries : (p : ℕ) → carries p (Some p) ≡ true
self_carries p = grind (arith, nat_tests)

own_entries : (p : ℕ) (ns : List ℕ) → own p (entries p ns) ≡ entries p ns
own_entries p [] = refl
own_entries p (n ∷ ns) =
    let e : Entry = record { actor = Some p; amount = n } in ap (λ (b : Bool). if b then e ∷ own p (entries p ns) else own p (entries p ns)) (self_carries p) ∙ ap (λ (m : List Entry). e ∷ m) (own_entries p ns)

-- what was seen has all entries of the seat
begun : (p : ℕ) (places : List ℕ) (log seen : List Entry) → 0 < times p places → Begins actor_of places log seen → own p log ≡ own p seen
begun p places log seen t b = ap (own p) b.1 ∙ (own_append p seen b.0 ∙ (ap (λ (m : List Entry). own p seen ++ m) (foreign_own p places b.0 t b.2) ∙ append-nil (own p seen)))

-- what a turn tells
pub told_one : (p : ℕ) (amounts : List ℕ) (given log seen : List Entry) (told : Told) → told.added ≤ length amounts → Begins actor_of (p ∷ []) given seen → log ≡ given ++ entries p (take told.added amounts) → length log ≡ told.seen
    → IsTold p amounts seen log told
told_one p amounts given log seen told few b is long = let new : List Entry = entries p (take told.added amounts) in record {
  few = few;
  long = long;
  order = (b.0 ++ new, is ∙ (ap (λ (l : List Entry). l ++ new) b.1 ∙ append_assoc seen b.0 new));
  more = ap (own p) is ∙ (own_append p given new ∙ (ap (λ (l : List Entry). l ++ own p new) (begun p (p ∷ []) given seen (once_there p) b) ∙ ap (λ (l : List Entry). own p seen ++ l) (own_entries p (take told.added amounts))));
}

-- what a seat was told, in the last history
pub finish : (p : ℕ) (amounts places all : List ℕ) (before now joined log : List Entry) (told : Told) → before ≡ [] → places ≡ p ∷ [] → 0 < times p all → IsTold p amounts before now told → Begins actor_of places joined now
    → Begins actor_of all log joined → IsWhole p amounts told log
finish p amounts places all before now joined log told none one there i b c =
    let same : own p log ≡ own p now = begun p all log joined there c ∙ begun p places joined now (subst (λ (ps : List ℕ). 0 < times p ps) (sym one) (once_there p)) b in record {
      mine = same ∙ (i.more ∙ ap (λ (l : List Entry). own p l ++ entries p (take told.added amounts)) none);
      begins = (now, b.0 ++ c.0, c.1 ∙ (ap (λ (l : List Entry). l ++ c.0) b.1 ∙ append_assoc now b.0 c.0), i.long, sym same);
    }
