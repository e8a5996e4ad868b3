-- The first step of completing and that of rolling back leave stored rows that mean what the machine leaves, by the side of the version that goes.
use Rattle.roll_core.proofs.Words.{ℤ, nat_eq, list_any, Each, Below, ◌||◌, ◌≤◌, arith, ◌≡◌, ◌∙◌, ℕ, List, [], ◌∷◌, Bool, true, false, ◌==◌, Option, Some, None, find, is_some, nat_lt, map, ap, refl, sym}
use Rattle.roll_core.proofs.Words.{subst, option_map, option_and_then, if◌then◌else◌, slice_get, AllByRecursion, cons_option, filter, filter_map, option_map_or, some_same, nat_tests, Schema, Shape, Table, Value}
use Rattle.roll_core.proofs.Words.{Lens, Kind, Fate, IsSchema, Joins, Kept, shape_of, other, Mode, Calm, Both, State, Ending, active_name, lost_columns_in, lost_in_table, staying_row, staying_table, standing_alone}
use Rattle.roll_core.proofs.Words.{HalfStands, IsState, ModeStands, NewStands, NewerStands, PairStands, RowsStand, Shared, is_known, lens_among, lens_between, newer_schema, shared, table_numbered, table_on, New}
use Rattle.roll_core.proofs.Words.{Old, Side, Pair, Own, Paired, Former, meant, numbers_in, AreKept, form_without, former_by, gone_side, goes, left_by, left_form, left_frame, left_table, lost_by, lost_columns}
use Rattle.roll_core.proofs.Words.{stays, IsAlone, IsStored, IsStoredRow, IsStoredTable, Stored, StoredRow, StoredTable, form_in, kept, lost_columns_by, newer_of, older_of, over_pair, pair_over, rows_meant}
use Rattle.roll_core.proofs.Words.{not, side_alone, table_meant}
use Rattle.roll_core.proofs.Words.kind
use Rattle.machine.specs.Standing.{may_miss}
use Rattle.roll_core.proofs.Outcomes.{left_of, not_is}
use Rattle.roll_core.proofs.Runs.{active_form, none_there, not_there, shared_in, shared_of, unshared}
use Rattle.roll_core.proofs.Tables.{all_at, ascend, each_all, each_mapped, each_passing, each_place, got_mapped, is_among, numbers_of-meant, on_meant, own_number, passing_among, passing_ascend, rows_of-read}

-- Two versions stand.
pub record Active (mode : Mode) : Type 0 where
  pub name : List ℕ
  pub schema : Schema
  pub fates : List (ℕ × Fate)
  pub is : mode ≡ Both name schema fates

pub is_active : (mode : Mode) → is_some (active_name mode) ≡ true → Active mode
is_active Calm h = cc
is_active (Both name schema fates) h = record { name = name; schema = schema; fates = fates; is = refl }

-- ---- lost columns

abbrev amount : Side → Option Lens → ℕ
amount gone lens = option_map_or (lost_columns_in gone) lens 0

abbrev found : List (ℕ × ℕ) → ℕ → ℕ
found lost number = option_map_or (λ lost. lost.1) (find (λ lost. lost.0 == number) lost) 0

abbrev entry : Side → ℕ → Option Lens → Option (ℕ × ℕ)
entry gone number lens = option_and_then (λ lens. if nat_lt 0 (lost_columns_in gone lens) then Some (number, lost_columns_in gone lens) else None) lens

here_found : (gone : Side) (number : ℕ) (lens : Option Lens) (rest : List (ℕ × ℕ)) (there : Bool) → found rest number ≡ (if there then amount gone lens else 0) → found (cons_option (entry gone number lens) rest) number ≡ amount gone lens
here_found gone number None rest true h = h
here_found gone number None rest false h = h
here_found gone number (Some lens) rest there h = by_test (nat_lt 0 (lost_columns_in gone lens)) refl there h
  where
    by_test : (b : Bool) → nat_lt 0 (lost_columns_in gone lens) ≡ b → (there : Bool) → found rest number ≡ (if there then lost_columns_in gone lens else 0) → found (cons_option (if b then Some (number, lost_columns_in gone lens) else None) rest) number ≡ lost_columns_in gone lens
    by_test true t there h = let same : (number == number) ≡ true = grind (arith, nat_tests) in rw same refl
    by_test false t true h = h
    by_test false t false h = let zero : lost_columns_in gone lens ≡ 0 = grind (arith, nat_tests) in h ∙ sym zero

other_found : (gone : Side) (own number : ℕ) (lens : Option Lens) (rest : List (ℕ × ℕ)) → (own == number) ≡ false → found (cons_option (entry gone own lens) rest) number ≡ found rest number
other_found gone own number None rest e = refl
other_found gone own number (Some lens) rest e =
    elim (nat_lt 0 (lost_columns_in gone lens)) as (λ b. found (cons_option (if b then Some (own, lost_columns_in gone lens) else None) rest) number ≡ found rest number)
    [ true ↦ ap (λ b. option_map_or {T = ℕ × ℕ} (λ lost. lost.1) (if b then Some (own, lost_columns_in gone lens) else find (λ lost. lost.0 == number) rest) 0) e | false ↦ refl ]

lost_found : (gone : Side) (fates : List (ℕ × Fate)) (number : ℕ) (tables : List StoredTable) → found (filter_map (lost_by gone fates) tables) number ≡ (if list_any (nat_eq number) (numbers_in tables) then amount gone (lens_among fates number) else 0)
lost_found gone fates number [] = refl
lost_found gone fates number (table ∷ tables) =
    let rest = filter_map (lost_by gone fates) tables in
    let there = list_any (nat_eq number) (numbers_in tables) in
    let more = lost_found gone fates number tables in
    elim (nat_eq number table.number) as (λ b. nat_eq number table.number ≡ b → found (cons_option (entry gone table.number (lens_among fates table.number)) rest) number ≡ (if b || there then amount gone (lens_among fates number) else 0)) [
      | true ↦ λ e.
          let same : number ≡ table.number = grind (arith, nat_tests) in
          subst (λ own. found (cons_option (entry gone own (lens_among fates own)) rest) number ≡ amount gone (lens_among fates number)) same (here_found gone number (lens_among fates number) rest there more)
      | false ↦ λ e. let differ : (table.number == number) ≡ false = grind (arith, nat_tests) in other_found gone table.number number (lens_among fates table.number) rest differ ∙ more
    ] refl

found_all : (gone : Side) (fates : List (ℕ × Fate)) (number : ℕ) (all : List StoredTable) → list_any (nat_eq number) (numbers_in all) ≡ true → found (filter_map (lost_by gone fates) all) number ≡ amount gone (lens_among fates number)
found_all gone fates number all among = lost_found gone fates number all ∙ ap (λ b. if b then amount gone (lens_among fates number) else 0) among

-- ---- what is left

abbrev staying_name : Side → State → List ℕ → List ℕ
staying_name Old frame name = name
staying_name New frame name = frame.version

abbrev staying_schema : Side → State → Schema → Schema
staying_schema Old frame schema = schema
staying_schema New frame schema = frame.schema

abbrev going_name : Side → State → List ℕ → List ℕ
going_name Old frame name = frame.version
going_name New frame name = name

abbrev going_schema : Side → State → Schema → Schema
going_schema Old frame schema = frame.schema
going_schema New frame schema = schema

abbrev steps_of : Side → ℕ
steps_of Old = 2
steps_of New = 1

abbrev kind_of : Side → Kind
kind_of Old = kind.Complete
kind_of New = kind.Rollback

abbrev ending : Side → Ending
ending gone = record { gone = gone; kind = kind_of gone; left = steps_of gone }

abbrev left_state : (gone : Side) (frame : State) → Active frame.mode → List StoredTable → State
left_state gone frame a all = record frame {
  version = staying_name gone frame a.name;
  schema = staying_schema gone frame a.schema;
  mode = Calm;
  left = steps_of gone;
  kind = kind_of gone;
  lost_columns = filter_map (lost_by gone a.fates) all;
}

abbrev left_former : (gone : Side) (frame : State) → Active frame.mode → List StoredTable → Former
left_former gone frame a all = record {
  version = going_name gone frame a.name;
  schema = going_schema gone frame a.schema;
  fates = a.fates;
  tables = filter (goes gone frame) all;
}

abbrev left_stored : (gone : Side) (frame : State) → Active frame.mode → List StoredTable → Stored
left_stored gone frame a all = record {
  frame = left_state gone frame a all;
  former = Some (left_former gone frame a all);
  tables = map (left_table gone) (filter (stays gone frame) all);
}

state_is : (gone : Side) (frame : State) (a : Active frame.mode) (all : List StoredTable) → left_by gone frame (lost_columns gone (Both a.name a.schema a.fates) all) (Both a.name a.schema a.fates) ≡ left_state gone frame a all
state_is Old frame a all = refl
state_is New frame a all = refl

former_is : (gone : Side) (frame : State) (a : Active frame.mode) (all : List StoredTable) → former_by gone frame (Both a.name a.schema a.fates) (filter (goes gone frame) all) ≡ Some (left_former gone frame a all)
former_is Old frame a all = refl
former_is New frame a all = refl

-- What the step leaves of a table that stays.
record Staying (gone : Side) (fates : List (ℕ × Fate)) (new : Stored) (table : StoredTable) : Type 0 where
  means : table_meant (left_table gone table) ≡ staying_table gone fates (table_meant table)
  is : IsStoredTable new (left_table gone table)

-- What holds of one that goes.
record Going (frame : State) (former : Former) (table : StoredTable) : Type 0 where
  no_lens : lens_among former.fates table.number ≡ None
  is : IsAlone frame former table

-- Of a table one of the two holds.
record Parted (gone : Side) (frame : State) (a : Active frame.mode) (all : List StoredTable) (table : StoredTable) : Type 0 where
  staying : stays gone frame table ≡ true → Staying gone a.fates (left_stored gone frame a all) table
  going : stays gone frame table ≡ false → Going (left_state gone frame a all) (left_former gone frame a all) table

-- ---- the versions' tables

new_on : (frame : State) (a : Active frame.mode) (number : ℕ) → table_on frame New number ≡ table_numbered a.schema number
new_on frame a number = ap (λ mode. option_and_then (λ schema. table_numbered schema number) (newer_schema mode)) a.is

staying_on : (gone : Side) (frame : State) (a : Active frame.mode) (number : ℕ) → table_on frame (other gone) number ≡ table_numbered (staying_schema gone frame a.schema) number
staying_on Old frame a number = new_on frame a number
staying_on New frame a number = refl

going_on : (gone : Side) (frame : State) (all : List StoredTable) (a : Active frame.mode) (number : ℕ) → table_on (meant frame all) gone number ≡ table_numbered (going_schema gone frame a.schema) number
going_on Old frame all a number = refl
going_on New frame all a number = new_on frame a number

shared_is : (frame : State) (a : Active frame.mode) (number : ℕ) → shared frame number ≡ shared_in frame.schema a.schema a.fates number
shared_is frame a number =
    ap (λ mode. shared_of (lens_between mode number) (option_and_then (λ schema. table_numbered schema number) (newer_schema mode)) (table_numbered frame.schema number)) a.is

abbrev lens_of : Option Shared → Option Lens
lens_of both = option_map (λ both. both.lens) both

-- The lenses join the two versions.
joined : Below → (s : State) (a : Active s.mode) → IsState s → (number : ℕ) (lens : Lens) → lens_among a.fates number ≡ Some lens → Joins lens number s.schema a.schema
joined law s a stands number lens h =
    elim (shared s number) as (λ both. shared s number ≡ both → lens_of both ≡ Some lens → Joins lens number s.schema a.schema) [
      | None ↦ λ e l. cc
      | Some both ↦ λ e l.
          let p = law.shared s number both stands e in
          let shape : Option Table → Option Shape = option_map (λ table. table.2) in
          subst (λ lens. Joins lens number s.schema a.schema) (some_same both.lens lens l) (record {
            before = shape_of both.old;
            after = shape_of both.new;
            in_old = ap shape p.old;
            in_new = ap shape (sym (new_on s a number) ∙ p.new);
            fitting = p.fitting;
            well_formed = p.well_formed;
          })
    ] refl (law.lenses s a.name a.schema a.fates number stands a.is ∙ h)

-- The form of a table from then on.
left_form_in : (gone : Side) (frame : State) (a : Active frame.mode) (all : List StoredTable) (number : ℕ)
    → form_in (Some (left_former gone frame a all)) (left_state gone frame a all) number ≡ over_pair (form_without gone) Old (shared_in frame.schema a.schema a.fates number)
left_form_in Old frame a all number = refl
left_form_in New frame a all number = refl

form_is : (gone : Side) (frame : State) (a : Active frame.mode) (all : List StoredTable) (number : ℕ) (both : Option Shared) → shared frame number ≡ both
    → form_in (Some (left_former gone frame a all)) (left_state gone frame a all) number ≡ over_pair (form_without gone) Old both
form_is gone frame a all number both e = left_form_in gone frame a all number ∙ ap (over_pair (form_without gone) Old) (sym (shared_is frame a number) ∙ e)

-- ---- a table that both versions have

-- Its rows mean what stays of what they meant, and are stored as its form wants then.
pub record RowsStay (gone : Side) (pair : Pair) (rows : List StoredRow) : Type 0 where
  pub means : map (kept (form_without gone pair)) rows ≡ map (staying_row gone (Some pair.lens)) (map (kept (Paired pair)) rows)
  pub stored : AllByRecursion (λ row. IsStoredRow (form_without gone pair) row.1) rows

both_there : (gone : Side) (frame : State) (all : List StoredTable) (number : ℕ) (both : Shared) → PairStands (meant frame all) number both → is_some (table_on frame (other gone) number) ≡ true
both_there Old frame all number both p = ap is_some p.new
both_there New frame all number both p = ap is_some p.old

lost_without : (gone : Side) (pair : Pair) → lost_columns_by (form_without gone pair) ≡ lost_columns_in gone pair.lens
lost_without Old pair = refl
lost_without New pair = refl

both_parted : Below → (gone : Side) (frame : State) (a : Active frame.mode) (all : List StoredTable) → IsState (meant frame all)
    → (table : StoredTable) (both : Shared) → shared frame table.number ≡ Some both → table.form ≡ Paired (pair_over both) → lens_among a.fates table.number ≡ Some both.lens
    → list_any (nat_eq table.number) (numbers_in all) ≡ true → RowsStay gone (pair_over both) table.rows → Parted gone frame a all table
both_parted law gone frame a all stands table both e form lens among stay =
    let number = table.number in
    let pair = pair_over both in
    let there : stays gone frame table ≡ true = both_there gone frame all number both (law.shared (meant frame all) number both stands e) in
    record {
      staying = λ _. record {
        means = ap (λ form. (number, map (kept (left_form gone form)) table.rows)) form
            ∙ ap (λ (rows : List Kept). (number, rows)) stay.means
            ∙ ap (λ lens. (number, map (staying_row gone lens) (map (kept (Paired pair)) table.rows))) (sym lens)
            ∙ ap (λ form. (number, map (staying_row gone (lens_among a.fates number)) (map (kept form) table.rows))) (sym form);
        is = record {
          form = ap (left_form gone) form ∙ sym (form_is gone frame a all number (Some both) e);
          lost = found_all gone a.fates number all among ∙ ap (amount gone) lens ∙ sym (ap (λ form. lost_columns_by (left_form gone form)) form ∙ lost_without gone pair);
          rows = subst (λ form. AllByRecursion (λ row. IsStoredRow (left_form gone form) row.1) table.rows) (sym form) stay.stored;
        };
      };
      going = λ none. let no : true ≡ false = sym there ∙ none in cc;
    }

-- ---- a table that one version has alone

-- The rows of the version that stays are the old side's from then on.
own_rows : (gone : Side) (rows : List StoredRow) → map (kept (Own Old)) rows ≡ map (staying_row gone None) (map (kept (Own (other gone))) rows)
own_rows Old [] = refl
own_rows Old (row ∷ rows) = ap (λ (rest : List Kept). kept (Own Old) row ∷ rest) (own_rows Old rows)
own_rows New [] = refl
own_rows New (row ∷ rows) = ap (λ (rest : List Kept). kept (Own Old) row ∷ rest) (own_rows New rows)

alone_stays : (gone : Side) (frame : State) (a : Active frame.mode) (all : List StoredTable)
    → (table : StoredTable) → shared frame table.number ≡ None → table.form ≡ Own (other gone) → lens_among a.fates table.number ≡ None
    → list_any (nat_eq table.number) (numbers_in all) ≡ true → Staying gone a.fates (left_stored gone frame a all) table
alone_stays gone frame a all table e form lens among =
    let number = table.number in
    record {
      means = ap (λ form. (number, map (kept (left_form gone form)) table.rows)) form
          ∙ ap (λ (rows : List Kept). (number, rows)) (own_rows gone table.rows)
          ∙ ap (λ lens. (number, map (staying_row gone lens) (map (kept (Own (other gone))) table.rows))) (sym lens)
          ∙ ap (λ form. (number, map (staying_row gone (lens_among a.fates number)) (map (kept form) table.rows))) (sym form);
      is = record {
        form = ap (left_form gone) form ∙ sym (form_is gone frame a all number None e);
        lost = found_all gone a.fates number all among ∙ ap (amount gone) lens ∙ sym (ap (λ form. lost_columns_by (left_form gone form)) form);
        rows = subst (λ form. AllByRecursion (λ row. IsStoredRow (left_form gone form) row.1) table.rows) (sym form) (each_all (λ row. tt) table.rows);
      };
    }

new_stands : (may : Bool) (table : Option Table) (key : ℤ) (values : List Value) → NewStands may table key (Some values) → HalfStands table key (Some values)
new_stands true table key values h = h
new_stands false table key values h = h

-- The rows of a table that goes are those of the version that goes.
gone_rows : (gone : Side) (s : State) (number : ℕ) (rows : List StoredRow) → RowsStand s number (map (kept (Own gone)) rows) → AllByRecursion (λ row. HalfStands (table_on s gone number) row.0 (Some row.1)) rows
gone_rows Old s number [] h = tt
gone_rows Old s number (row ∷ rows) h = (h.0.old, gone_rows Old s number rows h.1)
gone_rows New s number [] h = tt
gone_rows New s number (row ∷ rows) h = (new_stands (may_miss (shared s number)) (table_on s New number) row.0 row.1 h.0.new, gone_rows New s number rows h.1)

-- What isn't shared only one of them has.
unshared_on : Below → (frame : State) (all : List StoredTable) (number : ℕ) → IsState (meant frame all) → shared frame number ≡ None
    → (side : Side) → is_some (table_on frame side number) ≡ true → table_on frame (other side) number ≡ None
unshared_on law frame all number stands none Old has = unshared law frame all number stands none has
unshared_on law frame all number stands none New has = not_there (table_on frame Old number) (λ old.
    let gone = unshared law frame all number stands none old in
    let no : true ≡ false = sym has ∙ ap is_some gone in
    cc)

alone_on : (frame : State) (number : ℕ) (side : Side) → is_some (table_on frame side number) ≡ true → table_on frame (other side) number ≡ None → side_alone frame number ≡ side
alone_on frame number Old has none = ap (λ (has : Bool). if has then Old else New) has
alone_on frame number New has none = ap (λ (has : Bool). if has then Old else New) (ap is_some none)

right_of : (a b : Bool) → (a || b) ≡ true → a ≡ false → b ≡ true
right_of true b h e = cc
right_of false b h e = h

known_on : (frame : State) (number : ℕ) (gone : Side) → is_known frame number ≡ true → is_some (table_on frame (other gone) number) ≡ false → is_some (table_on frame gone number) ≡ true
known_on frame number Old known none = left_of (is_some (table_on frame Old number)) (is_some (table_on frame New number)) known none
known_on frame number New known none = right_of (is_some (table_on frame Old number)) (is_some (table_on frame New number)) known none

gone_is : (gone : Side) → gone_side (kind_of gone) ≡ gone
gone_is Old = refl
gone_is New = refl

alone_parted : Below → (gone : Side) (frame : State) (a : Active frame.mode) (all : List StoredTable) → IsState (meant frame all)
    → (table : StoredTable) → shared frame table.number ≡ None → table.form ≡ Own (side_alone frame table.number) → lens_among a.fates table.number ≡ None
    → list_any (nat_eq table.number) (numbers_in all) ≡ true → is_known frame table.number ≡ true → RowsStand (meant frame all) table.number (rows_meant table)
    → Parted gone frame a all table
alone_parted law gone frame a all stands table e form lens among known rows =
    let number = table.number in
    let s = meant frame all in
    record {
      staying = λ there.
          let side = alone_on frame number (other gone) there (unshared_on law frame all number stands e (other gone) there) in
          alone_stays gone frame a all table e (form ∙ ap Own side) lens among;
      going = λ there.
          let none = none_there (table_on frame (other gone) number) there in
          let own : table.form ≡ Own gone = form ∙ ap Own (alone_on frame number gone (known_on frame number gone known there) none) in
          let stand = gone_rows gone s number table.rows (subst (λ form. RowsStand s number (map (kept form) table.rows)) own rows) in
          record {
            no_lens = lens;
            is = record {
              form = own ∙ ap Own (sym (gone_is gone));
              known = ap is_some (sym (going_on gone frame all a number) ∙ on_meant frame all gone number) ∙ known_on frame number gone known there;
              gone = sym (staying_on gone frame a number) ∙ none;
              rows = subst (λ (version : Option Table). AllByRecursion (λ row. HalfStands version row.0 (Some row.1)) table.rows) (going_on gone frame all a number) stand;
            };
          };
    }

-- ---- any table

parted_at : Below → (gone : Side) (frame : State) (former : Option Former) (all : List StoredTable) (a : Active frame.mode) → IsState (meant frame all)
    → (at : ℕ) (table : StoredTable) → slice_get all at ≡ Some table → IsStoredTable (record { frame = frame; former = former; tables = all }) table
    → ((both : Shared) → shared frame table.number ≡ Some both → table.form ≡ Paired (pair_over both) → RowsStay gone (pair_over both) table.rows)
    → Parted gone frame a all table
parted_at law gone frame former all a stands at table e t stay =
    let s = meant frame all in
    let number = table.number in
    let known = all_at (λ (table : ℕ × List Kept). is_known s table.0 ≡ true) s.tables at (table_meant table) (law.known s stands) (got_mapped table_meant all at table e) in
    let read = rows_of-read law frame all at number table stands (record { here = e; numbered = refl }) in
    let rows = subst (RowsStand s number) read (law.rows s number stands).1 in
    let among = own_number all at table e in
    let form = t.form ∙ active_form former frame number a.name a.schema a.fates a.is in
    let lens = law.lenses s a.name a.schema a.fates number stands a.is in
    elim (shared frame number) as (λ both. shared frame number ≡ both → table.form ≡ over_pair Paired (side_alone frame number) both → lens_among a.fates number ≡ lens_of both → Parted gone frame a all table) [
      | None ↦ λ e form lens. alone_parted law gone frame a all stands table e form lens among known rows
      | Some both ↦ λ e form lens. both_parted law gone frame a all stands table both e form lens among (stay both e form)
    ] refl form (sym lens)

-- ---- all tables

tables_left : (gone : Side) (frame : State) (a : Active frame.mode) (all tables : List StoredTable) → Each (Parted gone frame a all) tables
    → map table_meant (map (left_table gone) (filter (stays gone frame) tables))
    ≡ map (staying_table gone a.fates) (filter (λ table. is_some (table_on frame (other gone) table.0)) (map table_meant tables))
tables_left gone frame a all [] h = refl
tables_left gone frame a all (table ∷ tables) h =
    let rest = filter (stays gone frame) tables in
    let left = filter (λ (table : ℕ × List Kept). is_some (table_on frame (other gone) table.0)) (map table_meant tables) in
    let more = tables_left gone frame a all tables h.1 in
    elim (stays gone frame table) as (λ b. stays gone frame table ≡ b → map table_meant (map (left_table gone) (if b then table ∷ rest else rest)) ≡ map (staying_table gone a.fates) (if b then table_meant table ∷ left else left)) [
      | true ↦ λ e. ap (λ (t : ℕ × List Kept). t ∷ map table_meant (map (left_table gone) rest)) (h.0.staying e).means ∙ ap (λ (ts : List (ℕ × List Kept)). staying_table gone a.fates (table_meant table) ∷ ts) more
      | false ↦ λ e. more
    ] refl

lost_left : (gone : Side) (frame : State) (a : Active frame.mode) (all tables : List StoredTable) → Each (Parted gone frame a all) tables
    → filter_map (lost_in_table gone a.fates) (map table_meant (map (left_table gone) (filter (stays gone frame) tables))) ≡ filter_map (lost_by gone a.fates) tables
lost_left gone frame a all [] h = refl
lost_left gone frame a all (table ∷ tables) h =
    let rest = filter (stays gone frame) tables in
    let more = lost_left gone frame a all tables h.1 in
    elim (stays gone frame table) as (λ b. stays gone frame table ≡ b → filter_map (lost_in_table gone a.fates) (map table_meant (map (left_table gone) (if b then table ∷ rest else rest)))
    ≡ cons_option (lost_by gone a.fates table) (filter_map (lost_by gone a.fates) tables)) [
      | true ↦ λ e. ap (cons_option (lost_by gone a.fates table)) more
      | false ↦ λ e. more ∙ sym (ap (λ lens. cons_option (entry gone table.number lens) (filter_map (lost_by gone a.fates) tables)) (h.0.going e).no_lens)
    ] refl

-- The tables that stay are those of the version that stays.
staying_are : (gone : Side) (frame : State) (a : Active frame.mode) (tables : List (ℕ × List Kept))
    → filter (λ table. is_some (table_on frame (other gone) table.0)) tables ≡ filter (λ table. is_some (table_numbered (staying_schema gone frame a.schema) table.0)) tables
staying_are Old frame a tables =
    ap (λ mode. filter (λ (table : ℕ × List Kept). is_some (option_and_then (λ schema. table_numbered schema table.0) (newer_schema mode))) tables) a.is
staying_are New frame a tables = refl

-- ---- the step

-- What it leaves.
pub record IsLeft (gone : Side) (frame : State) (tables : List StoredTable) (a : Active frame.mode) : Type 0 where
  pub means : meant (left_frame gone (lost_columns gone frame.mode tables) frame) (map (left_table gone) (filter (stays gone frame) tables))
      ≡ standing_alone (ending gone) (staying_name gone frame a.name) (staying_schema gone frame a.schema) a.fates (meant frame tables)
  pub kept : AreKept (record {
    frame = left_frame gone (lost_columns gone frame.mode tables) frame;
    former = former_by gone frame frame.mode (filter (goes gone frame) tables);
    tables = map (left_table gone) (filter (stays gone frame) tables);
  })

some_left : (gone : Side) → 1 ≤ steps_of gone
some_left Old = omega arith
some_left New = omega arith

none_taken : (gone : Side) → kind_of gone ≡ kind.Complete → steps_of gone ≡ 1 → ⊥
none_taken Old k e = omega (arith, e)
none_taken New k e = cc

going_stands : (gone : Side) (frame : State) (a : Active frame.mode) (all : List StoredTable) → IsState (meant frame all) → IsSchema (going_schema gone frame a.schema)
going_stands Old frame a all stands = stands.version.schema_stands
going_stands New frame a all stands =
    let newer : NewerStands (meant frame all) a.name a.schema a.fates = subst (ModeStands (meant frame all)) a.is stands.mode in
    newer.version.schema_stands

joins : (gone : Side) (frame : State) (schema : Schema) (number : ℕ) (lens : Lens) → Joins lens number frame.schema schema
    → Joins lens number (older_of (kind_of gone) (going_schema gone frame schema) (staying_schema gone frame schema)) (newer_of (kind_of gone) (going_schema gone frame schema) (staying_schema gone frame schema))
joins Old frame schema number lens h = h
joins New frame schema number lens h = h

-- Each table that the version that goes has alone is among those that go.
all_gone : (gone : Side) (frame : State) (a : Active frame.mode) (all : List StoredTable) → IsState (meant frame all) → (number : ℕ)
    → is_some (table_numbered (going_schema gone frame a.schema) number) ≡ true → table_numbered (staying_schema gone frame a.schema) number ≡ None
    → list_any (nat_eq number) (numbers_in (filter (goes gone frame) all)) ≡ true
all_gone gone frame a all stands number had none =
    let s = meant frame all in
    let lacks = staying_on gone frame a number ∙ none in
    let among = is_among s stands gone number (ap is_some (going_on gone frame all a number) ∙ had) in
    passing_among (goes gone frame) number (λ table is. ap (λ number. not (is_some (table_on frame (other gone) number))) is ∙ ap (λ found. not (is_some found)) lacks) all
    (subst (λ ns. list_any (nat_eq number) ns ≡ true) (numbers_of-meant frame all) among)

stored_left : Below → (gone : Side) (frame : State) (a : Active frame.mode) (all : List StoredTable) → IsState (meant frame all) → frame.tables ≡ [] → Each (Parted gone frame a all) all
    → AreKept (left_stored gone frame a all)
stored_left law gone frame a all stands once parts = record {
  once = once;
  former = (
    some_left gone,
    record {
      schema = going_stands gone frame a all stands;
      joined = λ number lens h. joins gone frame a.schema number lens (joined law (meant frame all) a stands number lens h);
      alone = each_passing (goes gone frame) (λ table (p : Parted gone frame a all table) go. (p.going (not_is (stays gone frame table) go)).is) all parts;
      ascend = passing_ascend (goes gone frame) all (ascend frame all stands);
      all = λ _. all_gone gone frame a all stands;
      taken = λ k e. absurd (none_taken gone k e);
    },
  );
  tables = each_mapped (left_table gone) (IsStoredTable (left_stored gone frame a all)) (λ table is. is) (filter (stays gone frame) all)
      (each_passing (stays gone frame) (λ table (p : Parted gone frame a all table) stay. (p.staying stay).is) all parts);
}

-- The step leaves what the machine's does, where the rows of tables that both versions have stay.
pub is_left : Below → (gone : Side) (frame : State) (former : Option Former) (tables : List StoredTable) (a : Active frame.mode) → IsStored (record { frame = frame; former = former; tables = tables })
    → ((at : ℕ) (table : StoredTable) → slice_get tables at ≡ Some table → (both : Shared) → shared frame table.number ≡ Some both → table.form ≡ Paired (pair_over both) → RowsStay gone (pair_over both) table.rows)
    → IsLeft gone frame tables a
is_left law gone frame former tables a stored stay =
    let parts : Stored = record { frame = frame; former = former; tables = tables } in
    let parted = each_place (Parted gone frame a tables) tables (λ at table e. parted_at law gone frame former tables a stored.stands at table e (all_at (IsStoredTable parts) tables at table stored.tables e) (stay at table e)) in
    let staying = filter (stays gone frame) tables in
    let whole : List (ℕ × List Kept) → List (ℕ × ℕ) → State = λ ts lost. record {
      version = staying_name gone frame a.name;
      schema = staying_schema gone frame a.schema;
      mode = Calm;
      left = steps_of gone;
      kind = kind_of gone;
      next_table = frame.next_table;
      tables = ts;
      lost_columns = lost;
    } in
    let is = ap (λ mode. left_by gone frame (lost_columns gone mode tables) mode) a.is ∙ state_is gone frame a tables in
    let was = ap (λ mode. former_by gone frame mode (filter (goes gone frame) tables)) a.is ∙ former_is gone frame a tables in
    record {
      means = ap (λ (frame : State). meant frame (map (left_table gone) staying)) is
          ∙ ap (whole (map table_meant (map (left_table gone) staying))) (sym (lost_left gone frame a tables tables parted))
          ∙ ap (λ (ts : List (ℕ × List Kept)). whole ts (filter_map (lost_in_table gone a.fates) ts))
          (tables_left gone frame a tables tables parted ∙ ap (map (staying_table gone a.fates)) (staying_are gone frame a (map table_meant tables)));
      kept = subst AreKept (λ i. record { frame = sym is i; former = sym was i; tables = map (left_table gone) staying }) (stored_left law gone frame a tables stored.stands stored.once parted);
    }
