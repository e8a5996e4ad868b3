-- The JSON value of a migration has no number, its texts are UTF-8, its members are in order, and it doesn't nest deep.
use Rattle.std.proofs.Common.{◌≡◌, ℕ, suc, max, ◌≤◌, List, [], ◌∷◌, map, Bool, true, ◌&&◌, Option, Some, None, option_map, Ordering, Less, Equal, Greater, nat_cmp, refl, arith, fold, codes, IsUtf8}
use Rattle.std.proofs.lemmas.Bool.{and_parts}
use Rattle.std.specs.Cmp.Lexicographic.{slice_cmp}
use Rattle.std.specs.Ordering.{match_ordering}
use Rattle.std.specs.Str.Lossy.{utf8_lossy}
use Rattle.json.proofs.Printed.Utf8.{are_ascii, IsUtf8-are_ascii}
use Rattle.json.specs.Tree as tree
use Rattle.serde_json.specs.Data.{Data, null, boolean, number, string, object, array, Items, no_items, item, Members, no_members, member, put}
use Rattle.serde_json.specs.View.{items_of}
use Rattle.serde_json.specs.Written.{outline, items_outline, members_outline}
use Rattle.sql_base.specs.declared.exprs.Expr.{Expr}
use Rattle.sql_base.specs.declared.exprs.Expr.TheVariants.{Lit}
use Rattle.sql_text.specs.Printing.{spelled, type_name}
use Rattle.mig_lens.specs.declared.migrations.Migration.{Migration}
use Rattle.mig_lens.specs.declared.migrations.Op.{Op}
use Rattle.mig_lens.specs.declared.migrations.Op.TheVariants as op
use Rattle.mig_lens.specs.declared.migrations.Ways.{Ways}
use Rattle.mig_lens.specs.declared.migrations.Ways.TheVariants.{One, Each}
use Rattle.mig_json.specs.declared.members.Operation.{Operation}
use Rattle.mig_json.specs.declared.members.Operation.TheVariants as operation
use Rattle.mig_json.specs.Kind as kind
use Rattle.mig_json.specs.Kind.{Kind, Fields, ValueOf, ValuesOf}
use Rattle.mig_json.specs.Table.{form}
use Rattle.mig_json.specs.Writing.{text_data, expression_data, put_if, with_pair, pairs_data, ways_data, data_of, members_with, title, titled, constraint_data, operation_data, json_of}
use Rattle.mig_json.proofs.Lossy.{lossy_utf8}
use Rattle.mig_json.proofs.Ordered.{IsBefore, before_put, less_of_greater}
use Rattle.mig_json.proofs.Spelled.{type_ascii}

-- no number, texts and keys that are UTF-8, and members in ascending order of their keys
abbrev mutual
  pub IsClean : Data → Type 0
  IsClean null = Unit {0}
  IsClean (boolean b) = Unit {0}
  IsClean (number n) = ⊥
  IsClean (string s) = IsUtf8 s
  IsClean (array ds) = AreClean ds
  IsClean (object ms) = HasClean ms

  pub AreClean : Items → Type 0
  AreClean no_items = Unit {0}
  AreClean (item d ds) = IsClean d × AreClean ds

  pub HasClean : Members → Type 0
  HasClean no_members = Unit {0}
  HasClean (member k d ms) = IsBefore k ms × IsUtf8 k × IsClean d × HasClean ms

-- Such a value, no deeper than this.
pub record IsPlain (n : ℕ) (d : Data) : Type 0 where
  pub clean : IsClean d
  pub shallow : tree.depth (outline d) ≤ n

record ArePlain (n : ℕ) (ms : Members) : Type 0 where
  pub clean : HasClean ms
  pub shallow : tree.members_depth (members_outline ms) ≤ n

none_plain : (n : ℕ) → ArePlain n no_members
none_plain n = record { clean = tt; shallow = omega arith }

member_plain : (n : ℕ) (k : List ℕ) (d : Data) (ms : Members) → IsBefore k ms → IsUtf8 k → IsPlain n d → ArePlain n ms → ArePlain n (member k d ms)
member_plain n k d ms first key one more = record { clean = (first, key, one.clean, more.clean); shallow = omega (arith, one.shallow, more.shallow) }

put_plain : (n : ℕ) (k : List ℕ) (d : Data) (ms : Members) → IsUtf8 k → IsPlain n d → ArePlain n ms → ArePlain n (put k d ms)
put_plain n k d no_members key one h = member_plain n k d no_members tt key one h
put_plain n k d (member l e ms) key one h = by_place (slice_cmp nat_cmp k l) (λ h. put_plain n k d ms key one h) refl
  where
    first : IsPlain n e
    first = record { clean = h.clean.2; shallow = omega (arith, h.shallow) }

    others : ArePlain n ms
    others = record { clean = h.clean.3; shallow = omega (arith, h.shallow) }

    by_place : (o : Ordering) → (ArePlain n ms → ArePlain n (put k d ms)) → slice_cmp nat_cmp k l ≡ o → ArePlain n (match_ordering o (member k d (member l e ms)) (member l d ms) (member l e (put k d ms)))
    by_place Less more low = member_plain n k d (member l e ms) low key one h
    by_place Equal more same = member_plain n l d ms h.clean.0 h.clean.1 one others
    by_place Greater more high = member_plain n l e (put k d ms) (before_put l k d ms (less_of_greater k l high) h.clean.0) h.clean.1 first (more others)

text_plain : (n : ℕ) (bytes : List ℕ) → IsPlain n (text_data bytes)
text_plain n bytes = record { clean = lossy_utf8 bytes; shallow = omega arith }

word_plain : (n : ℕ) (text : List ℕ) → are_ascii text ≡ true → IsPlain n (string text)
word_plain n text ascii = record { clean = IsUtf8-are_ascii text ascii; shallow = omega arith }

object_plain : (n : ℕ) (ms : Members) → ArePlain n ms → IsPlain (suc n) (object ms)
object_plain n ms h = record { clean = h.clean; shallow = omega (arith, h.shallow) }

fold_plain : (xs : List (List ℕ × Expr)) (ms : Members) → ArePlain 0 ms → ArePlain 0 (fold with_pair ms xs)
fold_plain [] ms h = h
fold_plain (x ∷ xs) ms h = fold_plain xs (with_pair ms x) (put_plain 0 (utf8_lossy x.0) (expression_data x.1) ms (lossy_utf8 x.0) (text_plain 0 (spelled x.1)) h)

pairs_plain : (xs : List (List ℕ × Expr)) → IsPlain 1 (pairs_data xs)
pairs_plain xs = object_plain 0 _ (fold_plain xs no_members (none_plain 0))

ways_plain : (x : Ways) → IsPlain 1 (ways_data x)
ways_plain (One a) = text_plain 1 (spelled a)
ways_plain (Each pairs) = pairs_plain pairs

items_plain : {T : Type 0} (n : ℕ) (write : T → Data) (xs : List T) → ((x : T) → IsPlain n (write x)) → IsPlain (suc n) (array (items_of (map write xs)))
items_plain {T} n write xs all = let h = each xs in record { clean = h.0; shallow = omega (arith, h.1) }
  where
    each : (xs : List T) → AreClean (items_of (map write xs)) × (tree.items_depth (items_outline (items_of (map write xs))) ≤ n)
    each [] = (tt, omega arith)
    each (x ∷ xs) = let one = all x in let more = each xs in ((one.clean, more.0), omega (arith, one.shallow, more.1))

-- how deep a value of this kind may nest
abbrev mutual
  deep : Kind → ℕ
  deep kind.name = 0
  deep kind.type = 0
  deep kind.flag = 0
  deep (kind.word text) = 0
  deep (kind.expression place) = 0
  deep (kind.literal place) = 0
  deep (kind.object fields) = suc (deep_in fields)
  deep (kind.many kind) = suc (deep kind)
  deep kind.names = 1
  deep (kind.each place) = 1
  deep (kind.ways place) = 1

  deep_in : Fields → ℕ
  deep_in kind.end = 0
  deep_in (kind.must key kind fields) = max (deep kind) (deep_in fields)
  deep_in (kind.may key kind fields) = max (deep kind) (deep_in fields)
  deep_in (kind.never key fields) = deep_in fields

-- the keys and words of a value of this kind are ASCII
abbrev mutual
  is_ascii : Kind → Bool
  is_ascii kind.name = true
  is_ascii kind.type = true
  is_ascii kind.flag = true
  is_ascii (kind.word text) = are_ascii text
  is_ascii (kind.expression place) = true
  is_ascii (kind.literal place) = true
  is_ascii (kind.object fields) = all_ascii fields
  is_ascii (kind.many kind) = is_ascii kind
  is_ascii kind.names = true
  is_ascii (kind.each place) = true
  is_ascii (kind.ways place) = true

  all_ascii : Fields → Bool
  all_ascii kind.end = true
  all_ascii (kind.must key kind fields) = are_ascii key && (is_ascii kind && all_ascii fields)
  all_ascii (kind.may key kind fields) = are_ascii key && (is_ascii kind && all_ascii fields)
  all_ascii (kind.never key fields) = all_ascii fields

pub deeper : (m n : ℕ) (d : Data) → m ≤ n → IsPlain m d → IsPlain n d
deeper m n d le h = record { clean = h.clean; shallow = omega (arith, le, h.shallow) }

if_plain : {T : Type 0} (n : ℕ) (k : List ℕ) (write : T → Data) (o : Option T) (ms : Members) → IsUtf8 k → ((x : T) → IsPlain n (write x)) → ArePlain n ms → ArePlain n (put_if k (option_map write o) ms)
if_plain n k write None ms key all h = h
if_plain n k write (Some x) ms key all h = put_plain n k (write x) ms key (all x) h

mutual
  data_plain : (kind : Kind) (x : ValueOf kind) → is_ascii kind ≡ true → IsPlain (deep kind) (data_of kind x)
  data_plain kind.name x ascii = text_plain 0 x
  data_plain kind.type x ascii = word_plain 0 (type_name x) (type_ascii x)
  data_plain kind.flag x ascii = record { clean = tt; shallow = omega arith }
  data_plain (kind.word text) x ascii = word_plain 0 text ascii
  data_plain (kind.expression place) x ascii = text_plain 0 (spelled x)
  data_plain (kind.literal place) x ascii = text_plain 0 (spelled (Lit x))
  data_plain (kind.object fields) xs ascii = object_plain (deep_in fields) _ (fields_plain (deep_in fields) fields xs no_members ascii (omega arith) (none_plain _))
  data_plain (kind.many kind) xs ascii = items_plain (deep kind) (λ x. data_of kind x) xs (λ x. data_plain kind x ascii)
  data_plain kind.names xs ascii = items_plain 0 text_data xs (λ x. text_plain 0 x)
  data_plain (kind.each place) xs ascii = pairs_plain xs
  data_plain (kind.ways place) x ascii = ways_plain x

  fields_plain : (n : ℕ) (fields : Fields) (xs : ValuesOf fields) (ms : Members) → all_ascii fields ≡ true → deep_in fields ≤ n → ArePlain n ms → ArePlain n (members_with fields xs ms)
  fields_plain n kind.end xs ms ascii le h = h
  fields_plain n (kind.must key kind fields) xs ms ascii le h =
      let one = and_parts (are_ascii key) _ ascii in
      let more = and_parts (is_ascii kind) _ one.1 in
      fields_plain n fields xs.1 (put key (data_of kind xs.0) ms) more.1 (omega (arith, le))
      (put_plain n key (data_of kind xs.0) ms (IsUtf8-are_ascii key one.0) (deeper (deep kind) n _ (omega (arith, le)) (data_plain kind xs.0 more.0)) h)
  fields_plain n (kind.may key kind fields) xs ms ascii le h =
      let one = and_parts (are_ascii key) _ ascii in
      let more = and_parts (is_ascii kind) _ one.1 in
      fields_plain n fields xs.1 (put_if key (option_map (λ x. data_of kind x) xs.0) ms) more.1 (omega (arith, le))
      (if_plain n key (λ x. data_of kind x) xs.0 ms (IsUtf8-are_ascii key one.0) (λ x. deeper (deep kind) n _ (omega (arith, le)) (data_plain kind x more.0)) h)
  fields_plain n (kind.never key fields) xs ms ascii le h = fields_plain n fields xs ms ascii le h

titled_plain : (it : Operation) (xs : ValuesOf (form it).fields) → are_ascii (title it) && all_ascii (form it).fields ≡ true → deep (kind.object (form it).fields) ≤ 6 → IsPlain 7 (titled it xs)
titled_plain it xs ascii le =
    let both = and_parts (are_ascii (title it)) _ ascii in
    let value = deeper _ 6 _ le (data_plain (kind.object (form it).fields) xs both.1) in
    object_plain 6 _ (member_plain 6 _ _ no_members tt (IsUtf8-are_ascii (title it) both.0) value (none_plain 6))

constraint_plain : (table named : List ℕ) (columns : List (List ℕ)) (condition : Option Expr) (up down : List (List ℕ × Expr)) → IsPlain 7 (constraint_data table named columns condition up down)
constraint_plain table named columns None up down = titled_plain operation.CreateUnique _ refl (omega arith)
constraint_plain table named columns (Some condition) up down = titled_plain operation.CreateCheck _ refl (omega arith)

operation_plain : (it : Op) → IsPlain 7 (operation_data it)
unfolding operation_data
operation_plain (op.CreateTable named columns) = titled_plain operation.CreateTable _ refl (omega arith)
operation_plain (op.DropTable named) = titled_plain operation.DropTable _ refl (omega arith)
operation_plain (op.RenameTable from to) = titled_plain operation.RenameTable _ refl (omega arith)
operation_plain (op.AddColumn table added up) = titled_plain operation.AddColumn _ refl (omega arith)
operation_plain (op.DropColumn table dropped down) = titled_plain operation.DropColumn _ refl (omega arith)
operation_plain (op.RenameColumn table from to) = titled_plain operation.RenameColumn _ refl (omega arith)
operation_plain (op.AlterColumn table altered ty nullable default unique condition up down) = titled_plain operation.AlterColumn _ refl (omega arith)
operation_plain (op.CreateConstraint table named columns condition up down) = constraint_plain table named columns condition up down
operation_plain (op.DropConstraint table named up down) = titled_plain operation.DropConstraint _ refl (omega arith)

pub migration_plain : (m : Migration) → IsPlain 9 (json_of m)
unfolding json_of
migration_plain m =
    let operations : IsPlain 8 (array (items_of (map operation_data m.operations))) = items_plain 7 operation_data m.operations operation_plain in
    object_plain 8 _ (put_plain 8 (codes "operations") _ _ (IsUtf8-are_ascii _ refl) operations (put_plain 8 (codes "name") (text_data m.name) no_members (IsUtf8-are_ascii _ refl) (text_plain 8 m.name) (none_plain 8)))
