-- The indexes of a table's halves, as its rows change and as it is left.
use Rattle.roll_core.proofs.Words.{◌≡◌, ◌∙◌, ◌≤◌, ℕ, ℤ, List, [], ◌∷◌, Bool, true, false, Option, Some, None, ap, refl, sym, subst, map, length, length-map, AllByRecursion, Value, list_any, some_same, if◌then◌else◌}
use Rattle.roll_core.proofs.Words.{Ascends, Form, Own, Paired, Left, Trimmed, Returned, New, Old, Side, Pair, Rows, Kept, StoredRow, RemovedIsLeftOut, StoredChange, is_marked, kept, new_view, old_view, put_all}
use Rattle.roll_core.proofs.Words.{NoneMissing, MayLeave, left_form, stays_new, meant_changes, arith}
use Rattle.roll_core.proofs.Words.finite
use Rattle.std.specs.List.{cons_option}
use Rattle.std.specs.Option.{option_map}
use Rattle.sql_base.specs.declared.shapes.Unique.{Unique}
use Rattle.uniq_index.specs.Indexed.{Entries, Indexed}
use Rattle.row_index.specs.Changes.{HaveRoom, prepared, put_each}
use Rattle.row_index.specs.Indexes.{AreIndexed, IsOver, SideIndexed, entries_for, entries_of, has_beside}
use Rattle.row_index.specs.Laws.{ChangesAreIndexed, OthersAreThoseOfRows, PreparedHaveRoom}
use Rattle.row_rules.specs.Accept.{other_alike, present}
use Rattle.row_rules.specs.Changes.{after_changes}
use Rattle.row_rules.specs.Site.{half}
use Rattle.roll_core.specs.Changing.{meant_change}
use Rattle.roll_core.specs.Own.{present_in}
use Rattle.roll_core.proofs.Reached.{keys_ascend}
use Rattle.roll_core.proofs.Rows.{changes_meant}

-- The rows that are stored ascend by key.
pub rows_ascend : (form : Form) (rows : Rows) → Ascends (map (kept form) (finite.entries rows))
rows_ascend form rows = keys_ascend form (finite.entries rows) (finite.entries_sorted rows)

-- The indexes are over the same rows where they have the same constraints and entries.
pub same_indexes : (rows : List (ℤ × List Value)) (old new : SideIndexed) → new.uniques ≡ old.uniques
    → entries_of new.indexes ≡ entries_of old.indexes → IsOver rows old → IsOver rows new
same_indexes rows old new uniques entries over =
    subst (λ (us : List Unique). AreIndexed us rows (entries_of new.indexes)) (sym uniques)
    (subst (AreIndexed old.uniques rows) (sym entries) over)

-- ---- changes

-- After changes that were prepared for it the index is that of the rows that are stored then.
pub index_after : RemovedIsLeftOut → ChangesAreIndexed → (side : Side) (form : Form) (changes : List StoredChange)
    (rows : Rows) (index new : SideIndexed) → IsOver (present_in side form rows) index → new.uniques ≡ index.uniques
    → entries_of new.indexes ≡ put_each (prepared index.uniques side (meant_changes form changes)) (entries_of index.indexes)
    → IsOver (present_in side form (put_all changes rows)) new
index_after removed indexed side form changes rows index new over uniques entries =
    subst (λ (all : List Kept). IsOver (present side all) new) (sym (changes_meant removed form changes rows))
    (subst (λ (us : List Unique). AreIndexed us (present side (after_changes (meant_changes form changes) (map (kept form) (finite.entries rows)))) (entries_of new.indexes)) (sym uniques)
    (subst (AreIndexed index.uniques (present side (after_changes (meant_changes form changes) (map (kept form) (finite.entries rows))))) (sym entries)
    (indexed index.uniques side (meant_changes form changes) (map (kept form) (finite.entries rows)) (entries_of index.indexes) (rows_ascend form rows) over)))

-- There is room in it for them.
pub index_room : PreparedHaveRoom → (side : Side) (form : Form) (changes : List StoredChange) (rows : Rows)
    (index new : SideIndexed) (n : ℕ) → IsOver (present_in side form rows) index → new.uniques ≡ index.uniques
    → entries_of new.indexes ≡ entries_of index.indexes → AllByRecursion (λ (one : Indexed). n ≤ one.spare) new.indexes
    → length changes ≤ n → HaveRoom (prepared index.uniques side (meant_changes form changes)) new.indexes
index_room room side form changes rows index new n over uniques entries spare few =
    let long = length-map changes (meant_change form) in
    room index.uniques side (meant_changes form changes) (present_in side form rows) new.indexes n
    (subst (AreIndexed index.uniques (present_in side form rows)) (sym entries) over) spare (omega (arith, long, few))

-- ---- a table that is left

-- Rows that are stored in two forms have the same halves.
same_halves : (side after : Side) (form left : Form) (rows : List StoredRow)
    → AllByRecursion (λ row. half after (kept left row).halves ≡ half side (kept form row).halves) rows
    → present after (map (kept left) rows) ≡ present side (map (kept form) rows)
same_halves side after form left [] h = refl
same_halves side after form left (row ∷ rows) h =
    ap (λ (values : Option (List Value)). cons_option (option_map (λ values. (row.0, values)) values) (present after (map (kept left) rows))) h.0
    ∙ ap (cons_option (option_map (λ values. (row.0, values)) (half side (kept form row).halves))) (same_halves side after form left rows h.1)

all_same : (side after : Side) (form left : Form)
    → ((row : StoredRow) → half after (kept left row).halves ≡ half side (kept form row).halves) → (rows : List StoredRow)
    → AllByRecursion (λ row. half after (kept left row).halves ≡ half side (kept form row).halves) rows
all_same side after form left h [] = tt
all_same side after form left h (row ∷ rows) = (h row, all_same side after form left h rows)

new_stays : (pair : Pair) (rows : List StoredRow) → AllByRecursion (λ row. is_marked pair row.1 ≡ false) rows
    → AllByRecursion (λ row. half Old (kept (Left pair) row).halves ≡ half New (kept (Paired pair) row).halves) rows
new_stays pair [] h = tt
new_stays pair (row ∷ rows) h =
    (sym (ap (λ b. if◌then◌else◌ {A = Option (List Value)} b None (Some (new_view pair row.1))) h.0), new_stays pair rows h.1)

-- The indexes that stay are those of the halves that the version which stays has.
pub index_left : (number : ℕ) (gone : Side) (form : Form) (rows : Rows) (old new : SideIndexed)
    → MayLeave gone (record { number = number; form = form; rows = finite.entries rows })
    → IsOver (present_in Old form rows) old → IsOver (present_in New form rows) new
    → IsOver (present_in Old (left_form gone form) rows) (if stays_new gone form then new else old)
index_left number gone (Own Old) rows old new may o n = o
index_left number gone (Own New) rows old new may o n =
    subst (λ all. IsOver all new) (sym (same_halves New Old (Own New) (Own Old) (finite.entries rows) (all_same New Old (Own New) (Own Old) (λ row. refl) (finite.entries rows)))) n
index_left number Old (Paired pair) rows old new may o n =
    subst (λ all. IsOver all new) (sym (same_halves New Old (Paired pair) (Left pair) (finite.entries rows) (new_stays pair (finite.entries rows) may))) n
index_left number New (Paired pair) rows old new may o n =
    subst (λ all. IsOver all old) (sym (same_halves Old Old (Paired pair) (Returned pair) (finite.entries rows) (all_same Old Old (Paired pair) (Returned pair) (λ row. refl) (finite.entries rows)))) o
index_left number gone (Left pair) rows old new may o n = o
index_left number gone (Trimmed pair) rows old new may o n = o
index_left number gone (Returned pair) rows old new may o n = o

-- ---- what is told of other rows

-- An index that answers tells what the rows would.
pub told_by_index : OthersAreThoseOfRows → (unique : Unique) (side : Side) (form : Form) (rows : Rows)
    (index : SideIndexed) (values : List Value) (keys : List ℤ) (found : Bool) → IsOver (present_in side form rows) index
    → Some found ≡ option_map (has_beside unique values keys) (entries_for unique index.uniques (entries_of index.indexes))
    → found ≡ list_any (other_alike unique side values keys) (map (kept form) (finite.entries rows))
told_by_index law unique side form rows index values keys found over told =
    elim (entries_for unique index.uniques (entries_of index.indexes)) as (λ entries. entries_for unique index.uniques (entries_of index.indexes) ≡ entries → Some found ≡ option_map (has_beside unique values keys) entries → found ≡ list_any (other_alike unique side values keys) (map (kept form) (finite.entries rows))) [
      | None ↦ λ e told. cc
      | Some entries ↦ λ e told. some_same found (has_beside unique values keys entries) told ∙ law unique side (map (kept form) (finite.entries rows)) index.uniques (entries_of index.indexes) entries values keys over e
    ] refl told
