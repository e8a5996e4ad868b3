-- The canonical text of a migration that was read is read as that migration.
use Rattle.std.proofs.Common.{◌≡◌, ℕ, ◌≤◌, List, [], ◌∷◌, ◌++◌, map, length, codes, Bool, true, false, Option, Some, None, option_map, unwrap_or, if◌then◌else◌, refl, sym, ap, ap₂, subst, arith}
use Rattle.std.specs.List.{AllByRecursion}
use Rattle.std.specs.Prelude.{IfSome}
use Rattle.serde_json.specs.Data.{Data, null, boolean, number, object, array, string, Items, no_items, item, no_members, member, put}
use Rattle.serde_json.specs.Find.{get, get_member}
use Rattle.serde_json.specs.Read.{max_depth}
use Rattle.serde_json.specs.View.{items_of}
use Rattle.serde_json.specs.Written.{compact_text, items_text}
use Rattle.sql_base.specs.declared.exprs.Expr.{Expr}
use Rattle.sql_base.specs.declared.exprs.Expr.TheVariants.{Lit}
use Rattle.sql_base.specs.declared.shapes.Check.{Check}
use Rattle.sql_base.specs.declared.values.Value.{Value}
use Rattle.sql_base.specs.declared.values.Value.TheVariants.{Null, Int, Text, Bool as Truth}
use Rattle.sql_parse.specs.Laws.{ReadBack, TreesHaveText}
use Rattle.mig_lens.specs.declared.migrations.ColumnDef.{ColumnDef}
use Rattle.mig_lens.specs.declared.migrations.Migration.{Migration}
use Rattle.mig_lens.specs.declared.migrations.Op.{Op}
use Rattle.mig_lens.specs.declared.migrations.Op.TheVariants as op
use Rattle.mig_json.specs.declared.members.Operation.{Operation}
use Rattle.mig_json.specs.declared.members.Operation.TheVariants as operation
use Rattle.mig_json.specs.Demand.{max_expression}
use Rattle.mig_json.specs.Kind as kind
use Rattle.mig_json.specs.Kind.{ValueOf, ValuesOf, Is, Has, AreItems, needs, is_word}
use Rattle.mig_json.specs.Migration.{IsOperation, IsMigration, CanonicalTextsAreRead}
use Rattle.mig_json.specs.Name.{is_name}
use Rattle.mig_json.specs.Reading.{Asked, asked}
use Rattle.mig_json.specs.Table.{check, check_of, named, column, column_of, form, operation_of}
use Rattle.mig_json.specs.Writing.{data_of, text_data, unless_false, unless_null, unless_empty, check_values, column_values, altered_values, title, titled, operation_data, json_of, canonical_text}
use Rattle.mig_json.proofs.Again.{again, is_sound}
use Rattle.mig_json.proofs.Compact.{compact_utf8, compact_reads}
use Rattle.mig_json.proofs.Fitting.{AllFit, IsSpelled, IsFilled, PairsFit, fits, name_text}
use Rattle.mig_json.proofs.Lengths.{first_shorter, found_shorter, item_shorter, items_shorter}
use Rattle.mig_json.proofs.Ordered.{IsOrdered, AreOrdered, found_ordered, read_ordered}
use Rattle.mig_json.proofs.Plain.{deeper, migration_plain}
use Rattle.mig_json.proofs.Texts.{json_in-Some}

-- ---- members at their default are left out

flag_fits : (b : Bool) → IfSome (unless_false b) (λ x. Unit {0})
flag_fits true = tt
flag_fits false = tt

default_fits : (P : Value → Type 0) (o : Option Value) → IfSome o P → IfSome (unless_null (unwrap_or o Null)) P
default_fits P None h = tt
default_fits P (Some Null) h = tt
default_fits P (Some (Int n)) h = h
default_fits P (Some (Text text)) h = h
default_fits P (Some (Truth b)) h = h

check_fits : (o : Option (ValuesOf check)) → IfSome o (λ xs. AllFit check xs) → IfSome (option_map check_values (option_map check_of o)) (λ xs. AllFit check xs)
check_fits None h = tt
check_fits (Some xs) h = h

pairs_fit : (o : Option (List (List ℕ × Expr))) → IfSome o (λ xs. PairsFit xs) → IfSome (unless_empty (unwrap_or o [])) (λ xs. PairsFit xs)
pairs_fit None h = tt
pairs_fit (Some []) h = tt
pairs_fit (Some (x ∷ xs)) h = h

column_fits : (xs : ValuesOf column) → AllFit column xs → AllFit column (column_values (column_of xs))
column_fits xs (title_fits, (typed, (nullable, (pk, (unique, (default, (condition, last))))))) =
    let ys = xs.1.1 in (
      title_fits,
      (
        typed,
        (
          flag_fits (unwrap_or ys.0 false),
          (
            flag_fits (unwrap_or ys.1.0 false),
            (
              flag_fits (unwrap_or ys.1.1.0 false),
              (default_fits (λ v. IsSpelled (Lit v)) ys.1.1.1.0 default, (check_fits ys.1.1.1.1.0 condition, tt)),
            ),
          ),
        ),
      ),
    )

columns_fit : (xss : List (ValuesOf column)) → AllByRecursion (λ xs. AllFit column xs) xss → AllByRecursion (λ xs. AllFit column xs) (map column_values (map column_of xss))
columns_fit [] h = tt
columns_fit (xs ∷ xss) h = (column_fits xs h.0, columns_fit xss h.1)

still_filled : (xss : List (ValuesOf column)) → IsFilled xss → IsFilled (map column_values (map column_of xss))
still_filled [] h = h
still_filled (xs ∷ xss) h = tt

named_fits : (o : Option (ValuesOf named)) → IfSome o (λ xs. AllFit named xs) → IfSome (option_map (λ u. (u, tt)) (option_map (λ zs. zs.0) o)) (λ xs. AllFit named xs)
named_fits None h = tt
named_fits (Some xs) h = h

-- ---- and what is made is the same

flag_made : (b : Bool) → unwrap_or (unless_false b) false ≡ b
flag_made true = refl
flag_made false = refl

default_made : (v : Value) → unwrap_or (unless_null v) Null ≡ v
default_made Null = refl
default_made (Int n) = refl
default_made (Text text) = refl
default_made (Truth b) = refl

check_made : (o : Option Check) → option_map check_of (option_map check_values o) ≡ o
check_made None = refl
check_made (Some c) = refl

pairs_made : (xs : List (List ℕ × Expr)) → unwrap_or (unless_empty xs) [] ≡ xs
pairs_made [] = refl
pairs_made (x ∷ xs) = refl

named_made : (o : Option (List ℕ)) → option_map (λ (zs : ValuesOf named). zs.0) (option_map (λ u. (u, tt)) o) ≡ o
named_made None = refl
named_made (Some x) = refl

column_made : (c : ColumnDef) → c ≡ column_of (column_values c)
column_made c = rw (flag_made c.nullable, flag_made c.pk, flag_made c.unique, default_made c.default, check_made c.check) refl

columns_made : (cs : List ColumnDef) → cs ≡ map column_of (map column_values cs)
columns_made [] = refl
columns_made (c ∷ cs) = ap₂ (λ (x : ColumnDef) xs. x ∷ xs) (column_made c) (columns_made cs)

-- ---- operations

asked_ordered : (d : Data) (it : Asked) → IsOrdered d → asked d ≡ Some it → IsOrdered it.value
unfolding asked
asked_ordered null it h e = absurd cc
asked_ordered (boolean b) it h e = absurd cc
asked_ordered (number n) it h e = absurd cc
asked_ordered (string s) it h e = absurd cc
asked_ordered (array ds) it h e = absurd cc
asked_ordered (object no_members) it h e = absurd cc
asked_ordered (object (member k d no_members)) it h e = by_operation (operation_of k d) e
  where
    by_operation : (o : Option Operation) → option_map {U = Asked} (λ it. record { operation = it; value = d }) o ≡ Some it → IsOrdered it.value
    by_operation None e = absurd cc
    by_operation (Some o) e =
        let made : Asked = record { operation = o; value = d } in
        let same : made ≡ it = cc in
        subst (λ (a : Asked). IsOrdered a.value) same h.1.0
asked_ordered (object (member k d (member l f ms))) it h e = absurd cc

word_of : (text : List ℕ) (o : Option Data) → Has (Is (kind.word text)) o tt → o ≡ Some (string text)
word_of text None h = absurd h
word_of text (Some d) h = ap Some h

module _ (read_back : ReadBack) where
  abbrev IsShort : Data → Type 0
  IsShort d = length (compact_text d) ≤ max_expression

  value_is : (it : Operation) (xs : ValuesOf (form it).fields) → is_sound (kind.object (form it).fields) ≡ true → AllFit (form it).fields xs → IsShort (titled it xs) → Is (kind.object (form it).fields) (data_of (kind.object (form it).fields) xs) xs
  value_is it xs sound fit short =
      let d = data_of (kind.object (form it).fields) xs in
      again read_back (kind.object (form it).fields) xs sound fit (omega (arith, first_shorter false (title it) d no_members, short))

  -- the operation whose members have these values is read of what they are written as
  is_titled : (it : Operation) (xs : ValuesOf (form it).fields) (whole : Op) → whole ≡ (form it).made xs → Is (kind.object (form it).fields) (data_of (kind.object (form it).fields) xs) xs →
      operation_of (title it) (data_of (kind.object (form it).fields) xs) ≡ Some it → IsOperation (titled it xs) whole
  unfolding asked
  is_titled it xs whole made is named =
      let d = data_of (kind.object (form it).fields) xs in
      (record { operation = it; value = d }, ap (option_map (λ it. record { operation = it; value = d })) named, (xs, is, made))

  op_again : (it : Operation) (xs : ValuesOf (form it).fields) → AllFit (form it).fields xs → IsShort (operation_data ((form it).made xs)) → IsOperation (operation_data ((form it).made xs)) ((form it).made xs)
  unfolding operation_data
  op_again operation.CreateTable xs fit short =
      let ys : ValuesOf (form operation.CreateTable).fields = (xs.0, (map column_values (map column_of xs.1.0), tt)) in
      let is = value_is operation.CreateTable ys refl (fit.0, ((still_filled xs.1.0 fit.1.0.0, columns_fit xs.1.0 fit.1.0.1), tt)) short in
      is_titled operation.CreateTable ys _ (ap (op.CreateTable xs.0) (columns_made (map column_of xs.1.0))) is refl
  op_again operation.DropTable xs fit short = is_titled operation.DropTable xs _ refl (value_is operation.DropTable xs refl fit short) refl
  op_again operation.RenameTable xs fit short = is_titled operation.RenameTable xs _ refl (value_is operation.RenameTable xs refl fit short) refl
  op_again operation.AddColumn xs fit short =
      let ys : ValuesOf (form operation.AddColumn).fields = (xs.0, (column_values (column_of xs.1.0), (xs.1.1.0, tt))) in
      let is = value_is operation.AddColumn ys refl (fit.0, (column_fits xs.1.0 fit.1.0, fit.1.1)) short in
      is_titled operation.AddColumn ys _ (ap (λ c. op.AddColumn xs.0 c xs.1.1.0) (column_made (column_of xs.1.0))) is refl
  op_again operation.DropColumn xs fit short = is_titled operation.DropColumn xs _ refl (value_is operation.DropColumn xs refl fit short) refl
  op_again operation.RenameColumn xs fit short = is_titled operation.RenameColumn xs _ refl (value_is operation.RenameColumn xs refl fit short) refl
  op_again operation.AlterColumn xs (table, (altered, (typed, (nullable, (default, (unique, (condition, rest))))))) short =
      let ts = xs.1.1.1.1 in
      let ys : ValuesOf (form operation.AlterColumn).fields = altered_values xs.0 xs.1.0 xs.1.1.0 xs.1.1.1.0 ts.0 (option_map (λ zs. zs.0) ts.1.0) (option_map check_of ts.1.1.0) ts.1.1.1.0 ts.1.1.1.1.0 in
      let fit : AllFit (form operation.AlterColumn).fields ys = (table, (altered, (typed, (nullable, (default, (named_fits ts.1.0 unique, (check_fits ts.1.1.0 condition, rest))))))) in
      let is = value_is operation.AlterColumn ys refl fit short in
      let same = ap₂ (λ u c. op.AlterColumn xs.0 xs.1.0 xs.1.1.0 xs.1.1.1.0 ts.0 u c ts.1.1.1.0 ts.1.1.1.1.0) (sym (named_made (option_map (λ zs. zs.0) ts.1.0))) (sym (check_made (option_map check_of ts.1.1.0))) in
      is_titled operation.AlterColumn ys _ same is refl
  op_again operation.CreateUnique xs (table, (title_fits, (typed, (columns, (up, (down, last)))))) short =
      let ts = xs.1.1.1 in
      let ups = unwrap_or ts.1.0 [] in
      let downs = unwrap_or ts.1.1.0 [] in
      let ys : ValuesOf (form operation.CreateUnique).fields = (xs.0, (xs.1.0, (tt, (ts.0, (unless_empty ups, (unless_empty downs, tt)))))) in
      let is = value_is operation.CreateUnique ys refl (table, (title_fits, (tt, (columns, (pairs_fit ts.1.0 up, (pairs_fit ts.1.1.0 down, tt)))))) short in
      let same = ap₂ (op.CreateConstraint xs.0 xs.1.0 ts.0 None) (sym (pairs_made ups)) (sym (pairs_made downs)) in
      let word = word_of (codes "unique") _ is.1.1.1.0 in
      is_titled operation.CreateUnique ys _ same is (ap (λ o. Some (if needs (is_word (codes "check")) o then operation.CreateCheck else operation.CreateUnique)) word)
  op_again operation.CreateCheck xs (table, (title_fits, (typed, (columns, (condition, (up, (down, last))))))) short =
      let ts = xs.1.1.1 in
      let ups = unwrap_or ts.1.1.0 [] in
      let downs = unwrap_or ts.1.1.1.0 [] in
      let ys : ValuesOf (form operation.CreateCheck).fields = (xs.0, (xs.1.0, (tt, (ts.0, (ts.1.0, (unless_empty ups, (unless_empty downs, tt))))))) in
      let is = value_is operation.CreateCheck ys refl (table, (title_fits, (tt, (columns, (condition, (pairs_fit ts.1.1.0 up, (pairs_fit ts.1.1.1.0 down, tt))))))) short in
      let same = ap₂ (op.CreateConstraint xs.0 xs.1.0 ts.0 (Some ts.1.0)) (sym (pairs_made ups)) (sym (pairs_made downs)) in
      let word = word_of (codes "check") _ is.1.1.1.0 in
      is_titled operation.CreateCheck ys _ same is (ap (λ o. Some (if needs (is_word (codes "check")) o then operation.CreateCheck else operation.CreateUnique)) word)
  op_again operation.DropConstraint xs fit short = is_titled operation.DropConstraint xs _ refl (value_is operation.DropConstraint xs refl fit short) refl

  module _ (have_text : TreesHaveText) where
    operation_again : (d : Data) (it : Op) → IsOrdered d → IsOperation d it → IsShort (operation_data it) → IsOperation (operation_data it) it
    operation_again d one order (it, is, (xs, are, made)) short =
        let fit = fits have_text (kind.object (form it.operation).fields) it.value xs (asked_ordered d it order is) are in
        subst (λ o. IsOperation (operation_data o) o) (sym made) (op_again it.operation xs fit (subst (λ o. IsShort (operation_data o)) made short))

    operations_again : (later : Bool) (before : List Data) (ds : Items) (ops : List Op) → AreOrdered ds → AreItems (λ before. IsOperation) before ds ops → length (items_text later (items_of (map operation_data ops))) ≤ max_expression
        → (others : List Data) → AreItems (λ before. IsOperation) others (items_of (map operation_data ops)) ops
    operations_again later before no_items ops order h short others =
        subst (λ ops. AreItems (λ before. IsOperation) others (items_of (map operation_data ops)) ops) (sym h) refl
    operations_again later before (item d ds) ops order (x, rest, one, more, is) short others =
        let P : List Op → Type 0 = λ ops. AreItems (λ before. IsOperation) others (items_of (map operation_data ops)) ops in
        let e = operation_data x in
        let es = items_of (map operation_data rest) in
        let within : length (items_text later (item e es)) ≤ max_expression = subst (λ ops. length (items_text later (items_of (map operation_data ops))) ≤ max_expression) is short in
        let first : IsShort e = omega (arith, item_shorter later e es, within) in
        let others_short : length (items_text true es) ≤ max_expression = omega (arith, items_shorter later e es, within) in
        subst P (sym is) (x, rest, operation_again d x order.0 one first, operations_again true (before ++ d ∷ []) ds rest order.1 more others_short (others ++ e ∷ []), refl)

    listed : (o : Option Data) (ds : Items) → o ≡ Some (array ds) → IfSome o IsOrdered → AreOrdered ds
    listed o ds e h = let held : IfSome (Some (array ds)) IsOrdered = subst (λ o. IfSome o IsOrdered) e h in held

    named_again : (name : List ℕ) (ops : List Op) (ds : Items) → is_name name ≡ true → AreOrdered ds → AreItems (λ before. IsOperation) [] ds ops → IsShort (json_of (record { name = name; operations = ops }))
        → IsMigration (json_of (record { name = name; operations = ops })) (record { name = name; operations = ops })
    unfolding json_of
    named_again name ops ds title order are short =
        let values = items_of (map operation_data ops) in
        let members = put (codes "operations") (array values) (put (codes "name") (text_data name) no_members) in
        let held : get_member (codes "operations") members ≡ Some (array values) = refl in
        let within : length (compact_text (array values)) ≤ max_expression = omega (arith, found_shorter (codes "operations") members (array values) held, short) in
        record {
          known = refl;
          name = name;
          named = ap (λ s. Some (string s)) (name_text name title);
          is_name = title;
          values = values;
          held = held;
          operations = ops;
          are = operations_again false [] ds ops order are (omega (arith, within)) [];
          is = refl;
        }

    migration_again : (value : Data) (m : Migration) → IsOrdered value → IsMigration value m → length (canonical_text m) ≤ max_expression → IsMigration (json_of m) m
    unfolding canonical_text
    migration_again value m order h short =
        let order_of = listed (get (codes "operations") value) h.values h.held (found_ordered (codes "operations") value order) in
        subst (λ (m : Migration). IsMigration (json_of m) m) (sym h.is) (named_again h.name h.operations h.values h.is_name order_of h.are (subst (λ (m : Migration). length (canonical_text m) ≤ max_expression) h.is short))

    pub canonical_texts_are_read : CanonicalTextsAreRead
    unfolding canonical_text
    canonical_texts_are_read text m h =
        let plain = migration_plain m in
        let order : IsOrdered h.spelled.value = let held : IfSome (Some h.spelled.value) IsOrdered = subst (λ o. IfSome o IsOrdered) h.spelled.json (read_ordered text) in held in
        record {
          spelled = record {
            short = h.within;
            value = json_of m;
            json = json_in-Some (canonical_text m) (json_of m) (compact_utf8 (json_of m) plain.clean) (compact_reads (json_of m) (deeper 9 max_depth (json_of m) (omega arith) plain));
            is = migration_again h.spelled.value m order h.spelled.is h.within;
          };
          within = h.within;
        }
