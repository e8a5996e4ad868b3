-- The tables of two versions that stand, by their fates.
use Rattle.std.proofs.Common.{◌≡◌, ◌∙◌, ℕ, ℤ, List, true, Option, Some, None, is_some, ap, refl, subst}
use Rattle.std.specs.Option.{option_and_then, option_map}
use Rattle.sql_base.specs.Laws.{some_same}
use Rattle.sql_base.specs.declared.shapes.Schema.{Schema}
use Rattle.sql_base.specs.declared.shapes.Shape.{Shape}
use Rattle.sql_base.specs.declared.values.Value.{Value}
use Rattle.mig_lens.specs.declared.columns.Lens.{Lens}
use Rattle.mig_lens.specs.declared.columns.Side.TheVariants.{Old, New}
use Rattle.mig_lens.specs.declared.plans.Fate.{Fate}
use Rattle.mig_lens.specs.declared.plans.Fate.TheVariants as fate
use Rattle.mig_lens.specs.Laws.{Joins}
use Rattle.mig_lens.specs.Lens.{IsWellFormed, fits}
use Rattle.mig_lens.specs.Plan.{Table, lens_in, table_numbered}
use Rattle.machine.specs.declared.states.Mode.TheVariants.{Both}
use Rattle.machine.specs.declared.states.State.{State}
use Rattle.machine.specs.Sites.{PairStands}
use Rattle.machine.specs.Standing.{FateAt, HalfStands, NewStands, may_miss}
use Rattle.machine.specs.State.{Shared, lens_among, lens_between, newer_schema, shared, table_on}
use Rattle.row_rules.specs.Site.{shape_of}

-- ---- fates

abbrev pub lens_at : Option (ℕ × Fate) → Option Lens
lens_at found = option_and_then (λ fate. lens_in fate.1) found

-- A lens is that of a table which both versions have.
pub lens_joins : (old new : Schema) (number : ℕ) (found : Option (ℕ × Fate)) (lens : Lens) →
    FateAt old new number found → lens_at found ≡ Some lens → Joins lens number old new
lens_joins old new number None lens h e = cc
lens_joins old new number (Some (owner, fate.Kept kept)) lens h e = subst (λ lens. Joins lens number old new) (some_same kept lens e) h
lens_joins old new number (Some (owner, fate.Created)) lens h e = cc
lens_joins old new number (Some (owner, fate.Dropped)) lens h e = cc

-- A table that both versions have has a lens.
pub both_have_lens : (old new : Schema) (number : ℕ) (found : Option (ℕ × Fate)) (before after : Table) →
    FateAt old new number found → is_some found ≡ true → table_numbered old number ≡ Some before →
    table_numbered new number ≡ Some after → (lens : Lens) × (lens_at found ≡ Some lens)
both_have_lens old new number None before after h has o n = cc
both_have_lens old new number (Some (owner, fate.Kept lens)) before after h has o n = (lens, refl)
both_have_lens old new number (Some (owner, fate.Created)) before after h has o n = let lacks : table_numbered old number ≡ None = h.0 in cc
both_have_lens old new number (Some (owner, fate.Dropped)) before after h has o n = let lacks : table_numbered new number ≡ None = h.1 in cc

-- ---- tables that both versions have

-- What both have of a table, by what each has.
abbrev pub pair_of : Option Lens → Option Table → Option Table → Option Shared
pair_of lens old new = option_and_then (λ old. option_and_then (λ new. option_map (λ lens. record { old = old; new = new; lens = lens }) lens) new) old

shape_found : (found : Option Table) (shape : Shape) → option_map (λ table. table.2) found ≡ Some shape → (table : Table) × (found ≡ Some table) × (shape ≡ table.2)
shape_found None shape h = cc
shape_found (Some table) shape h = (table, refl, cc)

both_have : (s : State) (number : ℕ) (old new : Table) (lens : Lens) → table_on s Old number ≡ Some old → table_on s New number ≡ Some new → lens_between s.mode number ≡ Some lens → shared s number ≡ Some (record { old = old; new = new; lens = lens })
both_have s number old new lens a b c = rw (a, b, c)

-- The new version's tables, while a migration is active.
pub on_new : (s : State) (name : List ℕ) (schema : Schema) (fates : List (ℕ × Fate)) → s.mode ≡ Both name schema fates → (number : ℕ) → table_on s New number ≡ table_numbered schema number
on_new s name schema fates is number = ap (λ m. option_and_then (λ schema. table_numbered schema number) (newer_schema m)) is

-- A table that both versions have, with the lens that joins the two.
pub record Pair (s : State) (number : ℕ) (lens : Lens) : Type 0 where
  pub old : Table
  pub new : Table
  pub is_shared : shared s number ≡ Some (record { old = old; new = new; lens = lens })
  pub stands : PairStands s number (record { old = old; new = new; lens = lens })

pub paired : (s : State) (name : List ℕ) (schema : Schema) (fates : List (ℕ × Fate)) → s.mode ≡ Both name schema fates → (number : ℕ) (lens : Lens) → lens_among fates number ≡ Some lens → Joins lens number s.schema schema → Pair s number lens
paired s name schema fates is number lens has joined =
    let old = shape_found (table_numbered s.schema number) joined.before joined.in_old in
    let new = shape_found (table_numbered schema number) joined.after joined.in_new in
    let on = on_new s name schema fates is number ∙ new.1 in
    record {
      old = old.0;
      new = new.0;
      is_shared = both_have s number old.0 new.0 lens old.1 on (ap (λ m. lens_between m number) is ∙ has);
      stands = record {
        old = old.1;
        new = on;
        fitting = subst (λ shape. fits lens shape (shape_of new.0) ≡ true) old.2 (subst (λ shape. fits lens joined.before shape ≡ true) new.2 joined.fitting);
        well_formed = subst (λ shape. IsWellFormed lens shape (shape_of new.0)) old.2 (subst (λ shape. IsWellFormed lens joined.before shape) new.2 joined.well_formed);
      };
    }

-- ---- tables that the new version hasn't

-- Of such a table no new half stands, and none may be missing.
pub lacks_new : (lens : Option Lens) (old new : Option Table) (key : ℤ) (half : Option (List Value)) →
    new ≡ None → NewStands (may_miss (pair_of lens old new)) new key half → HalfStands None key half
lacks_new lens None None key half is h = h
lacks_new lens (Some old) None key half is h = h
lacks_new lens None (Some new) key half is h = cc
lacks_new lens (Some old) (Some new) key half is h = cc

pub without_new : (lens : Option Lens) (old new : Option Table) (key : ℤ) (half : Option (List Value)) →
    new ≡ None → HalfStands None key half → NewStands (may_miss (pair_of lens old new)) new key half
without_new lens None None key half is h = h
without_new lens (Some old) None key half is h = h
without_new lens None (Some new) key half is h = cc
without_new lens (Some old) (Some new) key half is h = cc
