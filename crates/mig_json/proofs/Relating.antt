-- What meets the demands stands for a migration, and what stands for one meets them.
use Rattle.std.proofs.Common.{◌≡◌, ◌⊎◌, ℕ, ◌<◌, ◌≤◌, List, [], length, true, codes, Option, Some, None, is_some, inl, inr, refl, sym, ◌∙◌, ap, subst, arith}
use Rattle.std.proofs.lemmas.Bool.{cases_lt}
use Rattle.std.specs.Prelude.{nat_le}
use Rattle.serde_json.specs.Data.{Data, Items, array, string}
use Rattle.serde_json.specs.Find.{get}
use Rattle.sql_base.specs.Tree.{depth}
use Rattle.sql_parse.specs.Grammar.{IsText}
use Rattle.sql_parse.specs.Laws as sql
use Rattle.mig_lens.specs.declared.migrations.Migration.{Migration}
use Rattle.mig_lens.specs.declared.migrations.Op.{Op}
use Rattle.mig_json.specs.declared.faults.JsonFault.{JsonFault}
use Rattle.mig_json.specs.declared.faults.JsonFault.TheVariants.{TooLong, Json}
use Rattle.mig_json.specs.Demand.{Demand, AreMet, FirstUnmet}
use Rattle.mig_json.specs.Kind.{needed, within, items_of, item_demands, object, AreItems}
use Rattle.mig_json.specs.Migration.{Makes, IsOperation, IsMigration, Spells, IsReading, Fails, TextsReadOrFail, NeverBoth, TextsReadOnce, TextsFailOnce}
use Rattle.mig_json.specs.Name.{is_name}
use Rattle.mig_json.specs.Reading.{Asked, asked, form_demands, has_list, has_migration_name, is_of, operation_demands, migration_demands, json_in, text_demands, max_text}
use Rattle.mig_json.specs.Table.{form}
use Rattle.mig_json.specs.Writing.{canonical_text}
use Rattle.mig_json.specs.declared.members.Object.TheVariants as which
use Rattle.mig_json.proofs.Demands as demands
use Rattle.mig_json.proofs.Meant.{named, arrayed, met_is, is_met, is_once, met_items, items_met, items_once}

held : (demands : Data → List Demand) (fault : JsonFault) (o : Option Data) → AreMet (needed demands fault o) → (d : Data) × (o ≡ Some d) × AreMet (demands d)
held demands fault None met = absurd cc
held demands fault (Some d) met = (d, refl, met.1)

same_some : {T : Type 0} (o : Option T) (d e : T) → o ≡ Some d → o ≡ Some e → e ≡ d
same_some o d e h k = cc

-- ---- operations

met_form : (at : ℕ) (o : Option Asked) → is_some o ≡ true → AreMet (form_demands at o) → (op : Op) × (it : Asked) × (o ≡ Some it) × Makes it op
met_form at None h met = absurd cc
met_form at (Some it) h met =
    let is = met_is (object (form it.operation).fields) at [] it.value met in ((form it.operation).made is.0, it, refl, (is.0, is.1, refl))

met_operation : (before : List Data) (d : Data) → AreMet (operation_demands before d) → (op : Op) × IsOperation d op
met_operation before d met = let it = met_form (length before) (asked d) met.0 met.1 in (it.0, (it.1, it.2, it.3))

operation_met : (before : List Data) (d : Data) (op : Op) → IsOperation d op → AreMet (operation_demands before d)
operation_met before d op (it, is, (xs, are, made)) = rw is (refl, is_met (object (form it.operation).fields) (length before) [] it.value xs are)

makes_once : sql.OneTree → (it : Asked) (a b : Op) → Makes it a → Makes it b → a ≡ b
makes_once law it a b h k = h.2 ∙ ap (form it.operation).made (is_once law (object (form it.operation).fields) it.value h.0 k.0 h.1 k.1) ∙ sym k.2

operation_once : sql.OneTree → (d : Data) (a b : Op) → IsOperation d a → IsOperation d b → a ≡ b
operation_once law d a b h k = makes_once law h.0 a b h.2 (subst (λ (it : Asked). Makes it b) (same_some (asked d) h.0 k.0 h.1 k.1) k.2)

-- ---- a migration

name_in : (o : Option Data) → has_migration_name o ≡ true → (x : List ℕ) × (o ≡ Some (string x)) × (is_name x ≡ true)
name_in None h = absurd cc
name_in (Some d) h = let it = named is_name d h in (it.0, ap Some it.1, it.2)

abbrev list_demands : Data → List Demand
list_demands d = item_demands operation_demands [] (items_of d)

array_in : (o : Option Data) → has_list o ≡ true → AreMet (within list_demands o) → (ds : Items) × (o ≡ Some (array ds)) × AreMet (item_demands operation_demands [] ds)
array_in None h met = absurd cc
array_in (Some d) h met = (items_of d, ap Some (arrayed d h), met)

met_migration : (d : Data) → AreMet (migration_demands d) → (m : Migration) × IsMigration d m
unfolding migration_demands
met_migration d met =
    let name = name_in (get (codes "name") d) met.1.0 in
    let list = array_in (get (codes "operations") d) met.1.1.0 met.1.1.1 in
    let operations = met_items operation_demands (λ before. IsOperation) [] list.0 met_operation list.2 in (
      record { name = name.0; operations = operations.0 },
      record {
        known = met.0;
        name = name.0;
        named = name.1;
        is_name = name.2;
        values = list.0;
        held = list.1;
        operations = operations.0;
        are = operations.1;
        is = refl;
      },
    )

migration_met : (d : Data) (m : Migration) → IsMigration d m → AreMet (migration_demands d)
unfolding migration_demands
migration_met d m h = (h.known, (rw (h.named) (h.is_name), (rw (h.held) refl, rw (h.held) (items_met operation_demands (λ before. IsOperation) [] h.values h.operations operation_met h.are))))

same_name : (o : Option Data) (x y : List ℕ) → o ≡ Some (string x) → o ≡ Some (string y) → x ≡ y
same_name o x y h k = cc

same_list : (o : Option Data) (x y : Items) → o ≡ Some (array x) → o ≡ Some (array y) → y ≡ x
same_list o x y h k = cc

migration_once : sql.OneTree → (d : Data) (a b : Migration) → IsMigration d a → IsMigration d b → a ≡ b
migration_once law d a b h k =
    let names : h.name ≡ k.name = same_name _ h.name k.name h.named k.named in
    let again = subst (λ (ds : Items). AreItems (λ before. IsOperation) [] ds k.operations) (same_list _ h.values k.values h.held k.held) k.are in
    let operations : h.operations ≡ k.operations = items_once (λ before. IsOperation) [] h.values h.operations k.operations (λ before. operation_once law) h.are again in
    cc (h.is, k.is, names, operations)

-- a migration that was read member by member
pub made : (d : Data) (names lists : Option Data) (name : List ℕ) (values : Items) (operations : List Op) →
    is_of which.Migration d ≡ true → names ≡ get (codes "name") d → names ≡ Some (string name) → is_name name ≡ true →
    lists ≡ get (codes "operations") d → lists ≡ Some (array values) → AreItems (λ before. IsOperation) [] values operations →
    AreMet (migration_demands d) × IsMigration d (record { name = name; operations = operations })
made d names lists name values operations known e named is_name f list are =
    let h : IsMigration d (record { name = name; operations = operations }) = record {
      known = known;
      name = name;
      named = sym e ∙ named;
      is_name = is_name;
      values = values;
      held = sym f ∙ list;
      operations = operations;
      are = are;
      is = refl;
    } in
    (migration_met d _ h, h)

-- the first operation that doesn't read is the fault of the whole
pub made_not : (d : Data) (names lists : Option Data) (name : List ℕ) (values : Items) (f : JsonFault) →
    is_of which.Migration d ≡ true → names ≡ get (codes "name") d → names ≡ Some (string name) → is_name name ≡ true →
    lists ≡ get (codes "operations") d → lists ≡ Some (array values) → FirstUnmet (item_demands operation_demands [] values) f → FirstUnmet (migration_demands d) f
unfolding migration_demands
made_not d names lists name values f known e named is_name g list unmet =
    inr (known, inr (rw (sym e ∙ named) is_name, inr (rw (sym g ∙ list) refl, rw (sym g ∙ list) unmet)))

-- ---- texts

fits : (n : ℕ) → nat_le n max_text ≡ true → n ≤ max_text
fits n h = grind arith

short : (n : ℕ) → n ≤ max_text → nat_le n max_text ≡ true
short n h = grind arith

met_text : (text : List ℕ) → AreMet (text_demands text) → (m : Migration) × Spells text m
unfolding text_demands
met_text text met =
    let value = held migration_demands (Json (codes "$")) (json_in text) met.1 in
    let migration = met_migration value.0 value.2 in
    (migration.0, record { short = fits (length text) met.0; value = value.0; json = value.1; is = migration.1 })

text_met : (text : List ℕ) (m : Migration) → Spells text m → AreMet (text_demands text)
unfolding text_demands
text_met text m h = (short (length text) h.short, rw (h.json) (refl, migration_met h.value m h.is))

text_once : sql.OneTree → (text : List ℕ) (a b : Migration) → Spells text a → Spells text b → a ≡ b
text_once law text a b h k =
    let values : k.value ≡ h.value = same_some _ h.value k.value h.json k.json in
    migration_once law h.value a b h.is (subst (λ (v : Data). IsMigration v b) values k.is)

-- a text that meets all demands reads, or has a canonical text that is too long
by_length : (text : List ℕ) (m : Migration) → Spells text m → ((m : Migration) × IsReading text m) ⊎ ((f : JsonFault) × Fails text f)
by_length text m h = elim (cases_lt max_text (length (canonical_text m))) [
  | inl long ↦ inr (TooLong (length (canonical_text m)), inr (record { migration = m; spelled = h; long = long; is = refl }))
  | inr within ↦ inl (m, record { spelled = h; within = within })
]

pub texts_read_or_fail : sql.OneTree → sql.TextsReadOrFail IsText depth → sql.NeverBoth IsText depth → TextsReadOrFail
texts_read_or_fail law either never text = elim (demands.decided law either never (text_demands text)) [
  | inl met ↦ let m = met_text text met in by_length text m.0 m.1
  | inr fails ↦ inr (fails.0, inl fails.1)
]

within_or_long : (n : ℕ) → n ≤ max_text → max_text < n → ⊥
within_or_long n h k = absurd (omega arith)

pub texts_never_both : sql.OneTree → NeverBoth
texts_never_both law text m f h (inl unmet) = demands.never_both (text_demands text) f (text_met text m h.spelled) unmet
texts_never_both law text m f h (inr k) =
    let same = text_once law text k.migration m k.spelled h.spelled in
    within_or_long (length (canonical_text m)) h.within (subst (λ (a : Migration). max_text < length (canonical_text a)) same k.long)

pub texts_read_once : sql.OneTree → TextsReadOnce
texts_read_once law text a b h k = text_once law text a b h.spelled k.spelled

pub texts_fail_once : sql.OneTree → TextsFailOnce
texts_fail_once law text f g (inl h) (inl k) = demands.fails_once (text_demands text) f g h k
texts_fail_once law text f g (inl h) (inr k) = absurd (demands.never_both (text_demands text) f (text_met text k.migration k.spelled) h)
texts_fail_once law text f g (inr h) (inl k) = absurd (demands.never_both (text_demands text) g (text_met text h.migration h.spelled) k)
texts_fail_once law text f g (inr h) (inr k) =
    let same = text_once law text h.migration k.migration h.spelled k.spelled in
    h.is ∙ ap (λ (a : Migration). TooLong (length (canonical_text a))) same ∙ sym k.is
