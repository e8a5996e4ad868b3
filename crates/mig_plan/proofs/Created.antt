-- A table that create_table makes is sound.
use Rattle.std.proofs.Common.{◌≡◌, ◌∙◌, ℕ, zero, suc, ◌+◌, ◌≤◌, List, [], ◌∷◌, ◌++◌, Bool, true, false, not, ◌&&◌, ◌||◌, Option, Some, None, if◌then◌else◌, length, map, ap, refl, sym, subst, arith, append_assoc, append-nil}
use Rattle.std.specs.Prelude.{◌==◌, codes, nat_lt, slice_get}
use Rattle.std.specs.List.{cons_option, filter, filter_map, position_or_len}
use Rattle.std.proofs.lemmas.Bool.Decides.{nat_tests}
use Rattle.std.proofs.lemmas.List.{length-map}
use Rattle.sql_base.specs.declared.shapes.Column.{Column}
use Rattle.sql_base.specs.declared.shapes.Schema.{Schema}
use Rattle.sql_base.specs.declared.values.Ty.TheVariants as ty
use Rattle.sql_base.specs.Laws.{both}
use Rattle.sql_eval.specs.Shape.{is_key, max_columns}
use Rattle.sql_eval.specs.Typing.{same}
use Rattle.sql_eval.specs.Value.{is_null}
use Rattle.mig_plan.specs.declared.drafts.Draft.{Draft}
use Rattle.mig_plan.specs.declared.drafts.DraftColumn.{DraftColumn}
use Rattle.mig_plan.specs.declared.drafts.DraftTable.{DraftTable}
use Rattle.mig_lens.specs.declared.faults.Member.TheVariants as member
use Rattle.mig_lens.specs.declared.faults.PlanFault.TheVariants.{BadType, Exists, KeyColumn, Limit}
use Rattle.mig_lens.specs.declared.migrations.ColumnDef.{ColumnDef}
use Rattle.mig_plan.specs.Columns.{column_of, name_fault, new_column, uniques_of, with_column}
use Rattle.mig_plan.specs.Draft.{has_table, is_called, is_either, is_now}
use Rattle.mig_plan.specs.Finish.{new_side}
use Rattle.mig_plan.specs.Tables.{all_fit, create_fault, first_form, fits_default, has_key, key_count, keys_may_be, kinds_fault, may_be_key, names_fault, new_table, room_fault, taken_fault, with_columns}
use Rattle.mig_plan.specs.Versions.{when}
use Rattle.mig_plan.proofs.Each.{Each, each_append, each_more}
use Rattle.mig_plan.proofs.Fine.{all_none, each_not, not_false, or_none, when_none}
use Rattle.mig_plan.proofs.Names.{Differ, Distinct, Stands, distinct_more, neither}
use Rattle.mig_plan.proofs.Operations.{free_differs, free_name, new_sound, unique_stands}
use Rattle.mig_plan.proofs.Sound.{ColumnSound, KeyIn, TableSound, uniques_more}

-- ---- its columns, one after the other

record Part (t : DraftTable) : Type 0 where
  columns : Each ColumnSound t.columns
  distinct : Distinct t.columns
  uniques : Each (λ u. Each (Stands t.columns) u.columns) t.uniques

abbrev plain : ColumnDef → DraftColumn
plain column = new_column column None None

part_more : (old : Schema) (title : List ℕ) (at : ℕ) (column : ColumnDef) (t : DraftTable) → Part t → name_fault old title t column ≡ None → fits_default column ≡ true → Part (with_column title column None None at t)
part_more old title at column t p fine fits =
    let x = plain column in
    let free = free_name old title t column fine in
    let apart = each_more (λ c. is_either column.name c ≡ false) (λ c. Differ (new_side c) (new_side x)) (λ c h. free_differs (column_of column) (new_side c) (neither (is_called column.name c.before) (is_now column.name c) h).1) t.columns (each_not (is_either column.name) t.columns free) in
    record {
      columns = each_append ColumnSound t.columns (x ∷ []) p.columns (new_sound column None None fits tt, tt);
      distinct = distinct_more t.columns x p.distinct apart;
      uniques = each_append (λ u. Each (Stands (t.columns ++ x ∷ [])) u.columns) t.uniques (uniques_of title column (length t.columns)) (uniques_more t.columns (x ∷ []) t.uniques p.uniques) (unique_stands title column t.columns x (column_of column) refl);
    }

parts : (old : Schema) (title : List ℕ) (at : ℕ) (columns : List ColumnDef) (t : DraftTable) → Part t → names_fault old title at columns t ≡ None → all_fit columns ≡ true → Part (with_columns title at columns t)
parts old title at [] t p fine fits = p
parts old title at (column ∷ columns) t p fine fits =
    let f = or_none (name_fault old title t column) (names_fault old title at columns (with_column title column None None at t)) fine in
    let g = both (fits_default column) (all_fit columns) fits in
    parts old title at columns (with_column title column None None at t) (part_more old title at column t p f.0 g.0) f.1 g.1

-- Which table it is, and which columns it has.
record Frame (title : List ℕ) (columns : List ColumnDef) (t next : DraftTable) : Type 0 where
  number : next.number ≡ t.number
  stood : next.stood ≡ t.stood
  name : next.name ≡ t.name
  key : next.key ≡ t.key
  all : next.columns ≡ t.columns ++ map plain columns

frame : (title : List ℕ) (at : ℕ) (columns : List ColumnDef) (t : DraftTable) → Frame title columns t (with_columns title at columns t)
frame title at [] t = record { number = refl; stood = refl; name = refl; key = refl; all = sym (append-nil t.columns) }
frame title at (column ∷ columns) t =
    let more = frame title at columns (with_column title column None None at t) in
    record { number = more.number; stood = more.stood; name = more.name; key = more.key; all = more.all ∙ append_assoc t.columns (plain column ∷ []) (map plain columns) }

-- ---- its key

record Key (columns : List ColumnDef) : Type 0 where
  column : ColumnDef
  is_at : slice_get columns (position_or_len (λ c. c.pk) columns) ≡ Some column
  pk : column.pk ≡ true
  may : may_be_key column ≡ true

one_later : (c : ColumnDef) (cs : List ColumnDef) (n : ℕ) (k : ColumnDef) → slice_get cs n ≡ Some k → slice_get (c ∷ cs) (1 + n) ≡ Some k
one_later c cs n k h =
    let next : suc n ≡ 1 + n = omega arith in
    subst (λ m. slice_get (c ∷ cs) m ≡ Some k) next h

may_so : (pk may : Bool) → (not pk || may) ≡ true → pk ≡ true → may ≡ true
may_so true may h k = h
may_so false may h k = cc

find_key : (columns : List ColumnDef) → (key_count columns == 0) ≡ false → keys_may_be columns ≡ true → Key columns
find_key [] h k = cc
find_key (c ∷ cs) h k =
    let parts = both (not c.pk || may_be_key c) (keys_may_be cs) k in
    by_test c.pk refl (λ g. find_key cs g parts.1) parts.0 h
  where
    by_test : (b : Bool) → c.pk ≡ b → ((key_count cs == 0) ≡ false → Key cs) → (not c.pk || may_be_key c) ≡ true → (length (if b then c ∷ filter (λ c. c.pk) cs else filter (λ c. c.pk) cs) == 0) ≡ false → Key (c ∷ cs)
    by_test true is more may g = record { column = c; is_at = rw is; pk = is; may = may_so c.pk (may_be_key c) may is }
    by_test false is more may g =
        let rest = more g in
        record { column = rest.column; is_at = subst (λ b. slice_get (c ∷ cs) (if not b then 1 + position_or_len (λ c. c.pk) cs else 0) ≡ Some rest.column) (sym is) (one_later c cs (position_or_len (λ c. c.pk) cs) rest.column rest.is_at); pk = rest.pk; may = rest.may }

some_key : (n : ℕ) → (n == 1) ≡ true → (n == 0) ≡ false
some_key n h = grind (arith, nat_tests)

get_plain : (columns : List ColumnDef) (k : ℕ) (c : ColumnDef) → slice_get columns k ≡ Some c → slice_get (map plain columns) k ≡ Some (plain c)
get_plain [] k c h = cc
get_plain (d ∷ columns) zero c h = let is : d ≡ c = cc in ap (λ e. Some (plain e)) is
get_plain (d ∷ columns) (suc k) c h = get_plain columns k c h

takes_none : (n pk : Bool) → pk ≡ true → not (n && not pk) ≡ true
takes_none true true h = refl
takes_none false true h = refl
takes_none n false h = cc

key_column : (c : ColumnDef) → c.pk ≡ true → may_be_key c ≡ true → is_key (Some (column_of c)) ≡ true
key_column c pk may =
    let parts = both (same c.ty ty.Bigint) (is_null c.default) may in
    let free = takes_none c.nullable c.pk pk in
    rw (parts.0, free)

shorter : (cs : List DraftColumn) → length (filter_map new_side cs) ≤ length cs
shorter [] = omega arith
shorter (c ∷ cs) = by_side (new_side c) (shorter cs)
  where
    by_side : (o : Option Column) → length (filter_map new_side cs) ≤ length cs → length (cons_option o (filter_map new_side cs)) ≤ length (c ∷ cs)
    by_side None h = omega arith
    by_side (Some x) h = omega arith

-- ---- the table

pub record IsNew (old : Schema) (title : List ℕ) (number : ℕ) (t : DraftTable) : Type 0 where
  pub sound : TableSound old t
  pub number_ : t.number ≡ number
  pub stood : t.stood ≡ false
  pub name : t.name ≡ Some title

pub new_table_sound : (old : Schema) (at : ℕ) (title : List ℕ) (columns : List ColumnDef) (draft : Draft) → create_fault old at title columns draft ≡ None → IsNew old title draft.next_table (new_table at title columns draft.next_table)
new_table_sound old at title columns draft h =
    let a = or_none (taken_fault old at title columns draft) _ h in
    let b = or_none (kinds_fault at title columns) (room_fault draft) a.1 in
    let c = or_none (when (has_table old draft title) (Exists title)) _ a.0 in
    let faults = all_none (when (not (has_key columns)) (KeyColumn title) ∷ when (not (all_fit columns)) (BadType (record { operation = at; member = member.Default })) ∷ when (nat_lt max_columns (length columns)) (Limit (codes "columns")) ∷ []) b.0 in
    let keyed = both (key_count columns == 1) (keys_may_be columns) (not_false (has_key columns) (when_none (not (has_key columns)) (KeyColumn title) (faults 0))) in
    let fits = not_false (all_fit columns) (when_none (not (all_fit columns)) (BadType (record { operation = at; member = member.Default })) (faults 1)) in
    let full = when_none (nat_lt max_columns (length columns)) (Limit (codes "columns")) (faults 2) in
    let key = find_key columns (some_key (key_count columns) keyed.0) keyed.1 in
    let place = position_or_len (λ (c : ColumnDef). c.pk) columns in
    let empty = first_form title columns draft.next_table in
    let t = new_table at title columns draft.next_table in
    let f = frame title at columns empty in
    let p = parts old title at columns empty (record { columns = tt; distinct = tt; uniques = tt }) c.1 fits in
    let key_in : KeyIn (map plain columns) place = record { at = plain key.column; is_at = get_plain columns place key.column key.is_at; now = column_of key.column; is_now = refl; is_key = key_column key.column key.pk key.may; up = refl; down = refl } in
    let all_short = shorter (map plain columns) in
    let all_long = length-map columns plain in
    let few : length (filter_map new_side (map plain columns)) ≤ max_columns = grind (arith, nat_tests) in
    record {
      sound = record {
        columns = p.columns;
        distinct = p.distinct;
        few = subst (λ ds. length (filter_map new_side ds) ≤ max_columns) (sym f.all) few;
        key = subst (λ ds. KeyIn ds t.key) (sym f.all) (subst (KeyIn (map plain columns)) (sym f.key) key_in);
        uniques = p.uniques;
        stood = λ g. let no : false ≡ true = sym f.stood ∙ g in cc;
      };
      number_ = f.number;
      stood = f.stood;
      name = f.name;
    }
