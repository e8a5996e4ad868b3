-- Each table has its fate, and each fate its tables.
use Rattle.std.proofs.Common.{◌≡◌, ◌∙◌, ℕ, List, [], ◌∷◌, Bool, true, false, ◌||◌, Option, Some, None, if◌then◌else◌, map, ap, refl, sym, subst, arith}
use Rattle.std.specs.Prelude.{◌==◌, find, is_some}
use Rattle.std.specs.List.{cons_option, filter_map, list_any}
use Rattle.std.specs.Option.{option_and_then, option_map}
use Rattle.std.proofs.lemmas.Bool.Decides.{nat_tests}
use Rattle.sql_base.specs.declared.shapes.Schema.{Schema}
use Rattle.sql_base.specs.declared.shapes.Shape.{Shape}
use Rattle.sql_base.specs.Laws.{some_same}
use Rattle.mig_plan.specs.declared.drafts.DraftColumn.{DraftColumn}
use Rattle.mig_plan.specs.declared.drafts.DraftTable.{DraftTable}
use Rattle.mig_lens.specs.declared.plans.Fate.{Fate}
use Rattle.mig_lens.specs.declared.plans.Fate.TheVariants.{Created, Dropped, Kept}
use Rattle.mig_lens.specs.declared.plans.Plan.{Plan}
use Rattle.mig_plan.specs.Finish.{fate, fate_of, finished, new_table, shape_of}
use Rattle.mig_plan.specs.Laws.{PlannedFatesStand, TablesHaveFates}
use Rattle.mig_lens.specs.Plan.{fate_numbered, lens_in}
use Rattle.mig_plan.specs.Versions.{Table, table_numbered}
use Rattle.mig_plan.proofs.Each.{Each, Pairwise}
use Rattle.mig_plan.proofs.Planned.{comes, planned_lenses_join}
use Rattle.mig_plan.proofs.Sound.{TableSound}
use Rattle.mig_plan.proofs.Whole.{Apart, NewOne}

-- ---- the table of a fate

titled_one : (t : DraftTable) (number : ℕ) (name : Option (List ℕ)) (rest : List Table) → (t.number == number) ≡ true → find (λ u. u.1 == number) rest ≡ None → is_some (find (λ u. u.1 == number) (cons_option (option_map (λ n. (n, t.number, shape_of t)) name) rest)) ≡ is_some name
titled_one t number None rest g h = ap is_some h
titled_one t number (Some n) rest g h = rw g

other_one : (t : DraftTable) (number : ℕ) (name : Option (List ℕ)) (rest : List Table) → (t.number == number) ≡ false → find (λ u. u.1 == number) (cons_option (option_map (λ n. (n, t.number, shape_of t)) name) rest) ≡ find (λ u. u.1 == number) rest
other_one t number None rest g = refl
other_one t number (Some n) rest g = rw g

no_later : (t : DraftTable) (number : ℕ) (ts : List DraftTable) → (t.number == number) ≡ true → Each (Apart t) ts → find (λ u. u.1 == number) (filter_map new_table ts) ≡ None
no_later t number [] g h = refl
no_later t number (u ∷ ts) g h =
    let differ = h.0.1 in
    let apart : (u.number == number) ≡ false = grind (arith, nat_tests) in
    other_one u number u.name (filter_map new_table ts) apart ∙ no_later t number ts g h.1

record Owner (old : Schema) (ts : List DraftTable) (number : ℕ) (f : Fate) : Type 0 where
  t : DraftTable
  sound : TableSound old t
  new_one : NewOne old t
  is_number : t.number ≡ number
  is_fate : fate t.stood t.name t.columns ≡ f
  in_new : is_some (find (λ u. u.1 == number) (filter_map new_table ts)) ≡ is_some t.name

owner_of : (old : Schema) (ts : List DraftTable) (number owner : ℕ) (f : Fate) → Each (TableSound old) ts → Each (NewOne old) ts → Pairwise Apart ts → find (λ g. g.0 == number) (map fate_of ts) ≡ Some (owner, f) → Owner old ts number f
owner_of old [] number owner f s n a h = cc
owner_of old (t ∷ ts) number owner f s n a h = by_test (owner_of old ts number owner f s.1 n.1 a.1) (t.number == number) refl h
  where
    by_test : (find (λ g. g.0 == number) (map fate_of ts) ≡ Some (owner, f) → Owner old ts number f) → (b : Bool) → (t.number == number) ≡ b → (if b then Some (fate_of t) else find (λ g. g.0 == number) (map fate_of ts)) ≡ Some (owner, f) → Owner old (t ∷ ts) number f
    by_test more true g k = record { t = t; sound = s.0; new_one = n.0; is_number = grind (arith, nat_tests); is_fate = ap (λ (p : ℕ × Fate). p.1) (some_same {T = ℕ × Fate} (fate_of t) (owner, f) k); in_new = titled_one t number t.name (filter_map new_table ts) g (no_later t number ts g a.0) }
    by_test more false g k =
        let r = more k in
        record { t = r.t; sound = r.sound; new_one = r.new_one; is_number = r.is_number; is_fate = r.is_fate; in_new = ap is_some (other_one t number t.name (filter_map new_table ts) g) ∙ r.in_new }

is_created : (stood : Bool) (name : Option (List ℕ)) (cs : List DraftColumn) → fate stood name cs ≡ Created → stood ≡ false
is_created false name cs h = refl
is_created true None cs h = cc
is_created true (Some n) cs h = cc

is_dropped : (stood : Bool) (name : Option (List ℕ)) (cs : List DraftColumn) → fate stood name cs ≡ Dropped → (stood ≡ true) × (is_some name ≡ false)
is_dropped false name cs h = cc
is_dropped true None cs h = (refl, refl)
is_dropped true (Some n) cs h = cc

none_there : {X : Type 0} (o : Option X) → is_some o ≡ false → o ≡ None
none_there None h = refl
none_there (Some x) h = cc

shape_there : (o : Option Table) (shape : Shape) → option_map (λ u. u.2) o ≡ Some shape → is_some o ≡ true
shape_there None shape h = cc
shape_there (Some u) shape h = refl

pub planned_fates_stand : PlannedFatesStand
planned_fates_stand old next_table m plan is below h number owner (Kept lens) k = planned_lenses_join old next_table m plan is below h number lens (ap (option_and_then (λ (f : ℕ × Fate). lens_in f.1)) k)
planned_fates_stand old next_table m plan is below h number owner Created k =
    let c = comes old next_table m plan is below h in
    let o = owner_of old c.draft.tables number owner Created c.sound.tables c.sound.new_ones c.sound.apart (subst (λ (p : Plan). fate_numbered p number ≡ Some (owner, Created)) (sym c.is) k) in
    let new = o.new_one (is_created o.t.stood o.t.name o.t.columns o.is_fate) in
    (subst (λ n. table_numbered old n ≡ None) o.is_number new.1, subst (λ (p : Plan). is_some (table_numbered p.schema number) ≡ true) c.is (o.in_new ∙ new.0))
planned_fates_stand old next_table m plan is below h number owner Dropped k =
    let c = comes old next_table m plan is below h in
    let o = owner_of old c.draft.tables number owner Dropped c.sound.tables c.sound.new_ones c.sound.apart (subst (λ (p : Plan). fate_numbered p number ≡ Some (owner, Dropped)) (sym c.is) k) in
    let gone = is_dropped o.t.stood o.t.name o.t.columns o.is_fate in
    let before = o.sound.stood gone.0 in
    let there = shape_there (table_numbered old o.t.number) before.shape before.in_old in
    (subst (λ n. is_some (table_numbered old n) ≡ true) o.is_number there, subst (λ (p : Plan). table_numbered p.schema number ≡ None) c.is (none_there (table_numbered (finished c.draft).schema number) (o.in_new ∙ gone.1)))

-- ---- the fate of a table

fate_there : (ts : List DraftTable) (number : ℕ) → list_any (λ n. n == number) (map (λ t. t.number) ts) ≡ true → is_some (find (λ f. f.0 == number) (map fate_of ts)) ≡ true
fate_there [] number h = cc
fate_there (t ∷ ts) number h = by_test (fate_there ts number) (t.number == number) h
  where
    by_test : (list_any (λ n. n == number) (map (λ t. t.number) ts) ≡ true → is_some (find (λ f. f.0 == number) (map fate_of ts)) ≡ true) → (b : Bool) → (b || list_any (λ n. n == number) (map (λ t. t.number) ts)) ≡ true → is_some (if b then Some (fate_of t) else find (λ f. f.0 == number) (map fate_of ts)) ≡ true
    by_test more true k = refl
    by_test more false k = more k

old_fate : (ns : List ℕ) (os : List Table) (number : ℕ) → Each {X = Table} (λ o. list_any (λ n. n == o.1) ns ≡ true) os → is_some (find (λ o. o.1 == number) os) ≡ true → list_any (λ n. n == number) ns ≡ true
old_fate ns [] number e h = cc
old_fate ns (o ∷ os) number e h = by_test (old_fate ns os number e.1) (o.1 == number) refl h
  where
    by_test : (is_some (find (λ o. o.1 == number) os) ≡ true → list_any (λ n. n == number) ns ≡ true) → (b : Bool) → (o.1 == number) ≡ b → is_some (if b then Some o else find (λ o. o.1 == number) os) ≡ true → list_any (λ n. n == number) ns ≡ true
    by_test more true g k =
        let same : o.1 ≡ number = grind (arith, nat_tests) in
        subst (λ m. list_any (λ n. n == m) ns ≡ true) same e.0
    by_test more false g k = more k

new_fate : (ts : List DraftTable) (number : ℕ) → is_some (find (λ u. u.1 == number) (filter_map new_table ts)) ≡ true → list_any (λ n. n == number) (map (λ t. t.number) ts) ≡ true
new_fate [] number h = cc
new_fate (t ∷ ts) number h = by_test (new_fate ts number) (t.number == number) refl
  where
    by_test : (is_some (find (λ u. u.1 == number) (filter_map new_table ts)) ≡ true → list_any (λ n. n == number) (map (λ t. t.number) ts) ≡ true) → (b : Bool) → (t.number == number) ≡ b → (b || list_any (λ n. n == number) (map (λ t. t.number) ts)) ≡ true
    by_test more true g = refl
    by_test more false g = more (sym (ap is_some (other_one t number t.name (filter_map new_table ts) g)) ∙ h)

either_one : (a b : Bool) (P : Type 0) → (a || b) ≡ true → (a ≡ true → P) → (b ≡ true → P) → P
either_one true b P h f g = f refl
either_one false b P h f g = g h

pub tables_have_fates : TablesHaveFates
tables_have_fates old next_table m plan is below h number k =
    let c = comes old next_table m plan is below h in
    let ts = c.draft.tables in
    let there : list_any (λ n. n == number) (map (λ (t : DraftTable). t.number) ts) ≡ true = either_one (is_some (table_numbered old number)) (is_some (table_numbered plan.schema number)) (list_any (λ n. n == number) (map (λ (t : DraftTable). t.number) ts) ≡ true) k (old_fate (map (λ (t : DraftTable). t.number) ts) old.tables number c.sound.has_olds) (λ new. new_fate ts number (subst (λ (p : Plan). is_some (table_numbered p.schema number) ≡ true) (sym c.is) new)) in
    subst (λ (p : Plan). is_some (fate_numbered p number) ≡ true) c.is (fate_there ts number there)
