-- The compact text of a value that has no number, with members in order, is read as that value.
use Rattle.std.proofs.Common.{◌≡◌, ℕ, List, [], ◌∷◌, ◌++◌, Bool, true, false, ◌||◌, Some, option_map, option_and_then, refl, sym, ap, ◌∙◌, append-nil, IsUtf8}
use Rattle.std.proofs.lemmas.Str.{IsUtf8-append, IsUtf8-nil}
use Rattle.json.proofs.Printed.Tokens.{tokens-print}
use Rattle.json.proofs.Printed.Trees.{value-json_tokens, ArePrintable-json_tokens}
use Rattle.json.proofs.Printed.Utf8.{IsUtf8-are_ascii, IsUtf8-quoted, IsUtf8-boolean}
use Rattle.json.specs.Json as json
use Rattle.json.specs.Lex.{tokens}
use Rattle.json.specs.Tree.{json_tokens, HasNumbers, ItemsHaveNumbers, MembersHaveNumbers}
use Rattle.serde_json.proofs.Texts.{print-outline}
use Rattle.serde_json.specs.Data.{Data, null, boolean, number, string, array, object, Items, no_items, item, Members, no_members, member, put}
use Rattle.serde_json.specs.Read.{of_json, of_items, of_members, max_depth, read}
use Rattle.serde_json.specs.Written.{outline, items_outline, members_outline, has_float, items_have_float, members_have_float, comma_if, compact_text, items_text, members_text}
use Rattle.mig_lens.specs.declared.migrations.Migration.{Migration}
use Rattle.mig_json.specs.Writing.{json_of}
use Rattle.mig_json.proofs.Again.{AreBefore, onto, onto_end, onto_onto, before_next, put_last}
use Rattle.mig_json.proofs.Ordered.{IsBefore}
use Rattle.mig_json.proofs.Plain.{IsClean, AreClean, HasClean, IsPlain, migration_plain}

-- ---- no number

or_both : (a b : Bool) → a ≡ false → b ≡ false → a || b ≡ false
or_both true b e f = absurd cc
or_both false b e f = f

mutual
  exact : (d : Data) → IsClean d → has_float d ≡ false
  exact null h = refl
  exact (boolean b) h = refl
  exact (number n) h = absurd h
  exact (string s) h = refl
  exact (array ds) h = no_floats ds h
  exact (object ms) h = no_float_in ms h

  no_floats : (ds : Items) → AreClean ds → items_have_float ds ≡ false
  no_floats no_items h = refl
  no_floats (item d ds) h = or_both (has_float d) _ (exact d h.0) (no_floats ds h.1)

  no_float_in : (ms : Members) → HasClean ms → members_have_float ms ≡ false
  no_float_in no_members h = refl
  no_float_in (member k d ms) h = or_both (has_float d) _ (exact d h.2) (no_float_in ms h.3)

pub no_float : (m : Migration) → has_float (json_of m) ≡ false
no_float m = exact (json_of m) (migration_plain m).clean

mutual
  numbers : (d : Data) → IsClean d → HasNumbers (outline d)
  numbers null h = tt
  numbers (boolean b) h = tt
  numbers (number n) h = absurd h
  numbers (string s) h = tt
  numbers (array ds) h = items_numbers ds h
  numbers (object ms) h = members_numbers ms h

  items_numbers : (ds : Items) → AreClean ds → ItemsHaveNumbers (items_outline ds)
  items_numbers no_items h = tt
  items_numbers (item d ds) h = (numbers d h.0, items_numbers ds h.1)

  members_numbers : (ms : Members) → HasClean ms → MembersHaveNumbers (members_outline ms)
  members_numbers no_members h = tt
  members_numbers (member k d ms) h = (numbers d h.2, members_numbers ms h.3)

-- ---- UTF-8

byte_then : (b : ℕ) (bytes : List ℕ) → IsUtf8 (b ∷ []) → IsUtf8 bytes → IsUtf8 (b ∷ bytes)
byte_then b bytes first more = IsUtf8-append (b ∷ []) bytes first more

comma_utf8 : (later : Bool) → IsUtf8 (comma_if later)
comma_utf8 true = IsUtf8-are_ascii _ refl
comma_utf8 false = IsUtf8-nil

mutual
  pub compact_utf8 : (d : Data) → IsClean d → IsUtf8 (compact_text d)
  compact_utf8 null h = IsUtf8-are_ascii _ refl
  compact_utf8 (boolean b) h = IsUtf8-boolean b
  compact_utf8 (number n) h = absurd h
  compact_utf8 (string s) h = IsUtf8-quoted s h
  compact_utf8 (array ds) h = byte_then 91 _ (IsUtf8-are_ascii _ refl) (items_utf8 false ds h)
  compact_utf8 (object ms) h = byte_then 123 _ (IsUtf8-are_ascii _ refl) (members_utf8 false ms h)

  items_utf8 : (later : Bool) (ds : Items) → AreClean ds → IsUtf8 (items_text later ds)
  items_utf8 later no_items h = IsUtf8-are_ascii _ refl
  items_utf8 later (item d ds) h = IsUtf8-append _ _ (comma_utf8 later) (IsUtf8-append _ _ (compact_utf8 d h.0) (items_utf8 true ds h.1))

  members_utf8 : (later : Bool) (ms : Members) → HasClean ms → IsUtf8 (members_text later ms)
  members_utf8 later no_members h = IsUtf8-are_ascii _ refl
  members_utf8 later (member k d ms) h =
      let value = IsUtf8-append _ _ (compact_utf8 d h.2) (members_utf8 true ms h.3) in
      IsUtf8-append _ _ (comma_utf8 later) (IsUtf8-append _ _ (IsUtf8-quoted k h.1) (byte_then 58 _ (IsUtf8-are_ascii _ refl) value))

-- ---- what is read

-- all come before the first of the others
abbrev ComeBefore : Members → Members → Type 0
ComeBefore ms no_members = Unit {0}
ComeBefore ms (member k d ns) = AreBefore ms k

come_before_next : (ms : Members) (k : List ℕ) (d : Data) (ns : Members) → AreBefore ms k → IsBefore k ns → ComeBefore (onto ms (member k d no_members)) ns
come_before_next ms k d no_members h first = tt
come_before_next ms k d (member l e ns) h first = before_next ms k d l h first

mutual
  same : (d : Data) → IsClean d → of_json (outline d) ≡ Some d
  same null h = refl
  same (boolean b) h = refl
  same (number n) h = absurd h
  same (string s) h = refl
  same (array ds) h = ap (option_map array) (same_items ds h)
  same (object ms) h = ap (option_map object) (same_members no_members ms h (first_come ms))
    where
      first_come : (ms : Members) → ComeBefore no_members ms
      first_come no_members = tt
      first_come (member k d ms) = tt

  same_items : (ds : Items) → AreClean ds → of_items (items_outline ds) ≡ Some ds
  same_items no_items h = refl
  same_items (item d ds) h = ap (option_and_then (λ d. option_map (item d) (of_items (items_outline ds)))) (same d h.0) ∙ ap (option_map (item d)) (same_items ds h.1)

  same_members : (found ms : Members) → HasClean ms → ComeBefore found ms → of_members (members_outline ms) found ≡ Some (onto found ms)
  same_members found no_members h low = ap Some (sym (onto_end found))
  same_members found (member k d ms) h low =
      let more = onto found (member k d no_members) in
      ap (option_and_then (λ d. of_members (members_outline ms) (put k d found))) (same d h.2) ∙ ap (of_members (members_outline ms)) (put_last k d found low)
      ∙ same_members more ms h.3 (come_before_next found k d ms low h.0) ∙ ap Some (onto_onto found k d ms)

pub compact_reads : (d : Data) → IsPlain max_depth d → read (compact_text d) ≡ Some d
compact_reads d h =
    let ts = json_tokens (outline d) in
    let lexed : tokens (compact_text d) ≡ ts ++ [] = ap tokens (sym (print-outline d)) ∙ tokens-print ts (ArePrintable-json_tokens (outline d) (numbers d h.clean)) ∙ sym (append-nil ts) in
    let read_in : option_and_then (λ p. json.if_last p.0 p.1) (json.value max_depth (tokens (compact_text d))) ≡ Some (outline d) =
    ap (λ ts. option_and_then (λ p. json.if_last p.0 p.1) (json.value max_depth ts)) lexed ∙ ap (option_and_then (λ p. json.if_last p.0 p.1)) (value-json_tokens (outline d) max_depth [] h.shallow) in
    ap (option_and_then of_json) read_in ∙ same d h.clean
