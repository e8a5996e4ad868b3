-- Tables of a state that stands, as commands go through them.
use Rattle.std.proofs.Common.{◌≡◌, ◌∙◌, [], true, Option, Some, None, is_some, option_map, ap, refl, subst}
use Rattle.std.specs.Option.{option_map_or}
use Rattle.mig_lens.specs.declared.columns.Lens.{Lens}
use Rattle.machine.specs.Below.{Below}
use Rattle.machine.specs.Laws.{BothAreShared, FilledRowsHaveHalves, SharedByLenses, StartsStand, TablesAreKnown, TablesHaveTheirRows}
use Rattle.machine.specs.Standing.{ModeStands, NewerStands, is_known}
use Rattle.machine.specs.State.{Shared, fate_among, lens_among, lens_between, rows_of, shared, table_on}
use Rattle.machine.specs.Words.{New, Old, Table}
use Rattle.machine.proofs.Completing.{whole_tables}
use Rattle.machine.proofs.Joining.{lens_joins, pair_of, paired}
use Rattle.machine.proofs.Moving.{IsFound, Rows, each_found, each_number, each_so}
use Rattle.machine.proofs.Pairs.{not_both}
use Rattle.machine.proofs.Starting.{planned_stands, there_is}

pub tables_have_their_rows : TablesHaveTheirRows
tables_have_their_rows s stands = each_so (IsFound s.tables) (λ table. rows_of s table.0 ≡ table.1) (λ table found. ap (λ f. option_map_or (λ (table : Rows). table.1) f []) found) s.tables (each_found s.tables stands.numbers)

pub tables_are_known : TablesAreKnown
tables_are_known s stands = each_number (is_known s) s.tables stands.known

pub both_are_shared : BothAreShared
both_are_shared s number stands has_old has_new = by_pair (shared s number) refl
  where
    old : (table : Table) × (table_on s Old number ≡ Some table)
    old = there_is (table_on s Old number) has_old

    new : (table : Table) × (table_on s New number ≡ Some table)
    new = there_is (table_on s New number) has_new

    by_pair : (pair : Option Shared) → shared s number ≡ pair → is_some pair ≡ true
    by_pair None is = absurd (not_both s number old.0 new.0 stands is old.1 new.1)
    by_pair (Some pair) is = refl

no_pair : (old new : Option Table) → option_map (λ pair. pair.lens) (pair_of None old new) ≡ None
no_pair None new = refl
no_pair (Some old) None = refl
no_pair (Some old) (Some new) = refl

pub shared_by_lenses : SharedByLenses
shared_by_lenses s name schema fates number stands is = by_lens (lens_among fates number) refl
  where
    newer : NewerStands s name schema fates
    newer = subst (ModeStands s) is stands.mode

    by_lens : (lens : Option Lens) → lens_among fates number ≡ lens →
        option_map (λ pair. pair.lens) (shared s number) ≡ lens
    by_lens None e =
        let between : lens_between s.mode number ≡ None = ap (λ mode. lens_between mode number) is ∙ e in
        ap (λ lens. option_map (λ pair. pair.lens) (pair_of lens (table_on s Old number) (table_on s New number))) between ∙ no_pair (table_on s Old number) (table_on s New number)
    by_lens (Some lens) e =
        let pair = paired s name schema fates is number lens e (lens_joins s.schema schema number (fate_among fates number) lens (newer.fates_stand number) e) in
        ap (option_map (λ pair. pair.lens)) pair.is_shared

pub filled_rows_have_halves : FilledRowsHaveHalves
filled_rows_have_halves s stands none = whole_tables s stands none

pub starts_stand : Below → StartsStand
starts_stand below s m plan stands allowed is = planned_stands below s m plan stands allowed is
