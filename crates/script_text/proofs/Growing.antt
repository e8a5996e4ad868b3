-- What pieces make where one more follows them.
use Rattle.std.proofs.Common.{◌≡◌, ◌≢◌, ℕ, zero, suc, ◌<◌, List, [], ◌∷◌, ◌++◌, None, Some, length, get_or, set, refl, sym, ap, ◌∙◌, arith, append_assoc, append-nil}
use Rattle.std.specs.List.{filter_map, list_any}
use Rattle.std.specs.Str.{bytes_eq}
use Rattle.std.proofs.lemmas.List.Elements.{filter_map-append}
use Rattle.script_text.specs.declared.blocks.Block.{Block}
use Rattle.script_text.specs.declared.blocks.Block.TheVariants as block
use Rattle.script_text.specs.declared.lines.LaneText.{LaneText}
use Rattle.script_text.specs.declared.pieces.Piece.{Piece}
use Rattle.script_text.specs.declared.pieces.Piece.TheVariants.{Lane, Control, Text, Command}
use Rattle.script_text.specs.Blocks as spec
use Rattle.script_text.specs.Building.{with_text}

-- ---- the lanes' names

pub names_of : (name : List ℕ) (pieces : List Piece) → list_any (λ (lane : LaneText). bytes_eq name lane.name) (spec.lanes_of pieces) ≡ list_any (bytes_eq name) (spec.lane_names pieces)
names_of name [] = refl
names_of name (Lane other version ∷ pieces) = rw (names_of name pieces) refl
names_of name (Control ∷ pieces) = names_of name pieces
names_of name (Text text ∷ pieces) = names_of name pieces
names_of name (Command command ∷ pieces) = names_of name pieces

pub count_of : (pieces : List Piece) → length (spec.lanes_of pieces) ≡ length (spec.lane_names pieces)
count_of [] = refl
count_of (Lane other version ∷ pieces) = ap suc (count_of pieces)
count_of (Control ∷ pieces) = count_of pieces
count_of (Text text ∷ pieces) = count_of pieces
count_of (Command command ∷ pieces) = count_of pieces

-- ---- the open block

last_or-append : {T : Type 0} (first : T) (xs : List T) (x : T) → spec.last_or first (xs ++ x ∷ []) ≡ x
last_or-append first [] x = refl
last_or-append first (y ∷ xs) x = last_or-append y xs x

pub open_head : (before : List Piece) (piece : Piece) (begun : Block) → spec.block_in piece ≡ Some begun → spec.open_block (before ++ piece ∷ []) ≡ begun
open_head before piece begun h = rw (filter_map-append spec.block_in before (piece ∷ []), h) (last_or-append block.Front (filter_map spec.block_in before) begun)

pub open_other : (before : List Piece) (piece : Piece) → spec.block_in piece ≡ None → spec.open_block (before ++ piece ∷ []) ≡ spec.open_block before
open_other before piece h = rw (filter_map-append spec.block_in before (piece ∷ []), h, append-nil (filter_map spec.block_in before)) refl

-- ---- the lanes

-- a piece that is no text
abbrev pub NoText : Piece → Type 0
NoText (Text text) = ⊥
NoText _ = Unit {0}

texts_more : (pieces : List Piece) (piece : Piece) → NoText piece → spec.block_texts (pieces ++ piece ∷ []) ≡ spec.block_texts pieces
texts_more [] (Lane name version) h = refl
texts_more [] Control h = refl
texts_more [] (Text text) h = absurd h
texts_more [] (Command command) h = refl
texts_more (Lane name version ∷ pieces) piece h = refl
texts_more (Control ∷ pieces) piece h = refl
texts_more (Text text ∷ pieces) piece h = ap (λ texts. text ∷ texts) (texts_more pieces piece h)
texts_more (Command command ∷ pieces) piece h = texts_more pieces piece h

pub lanes_more : (pieces : List Piece) (piece : Piece) → NoText piece → spec.lanes_of (pieces ++ piece ∷ []) ≡ spec.lanes_of pieces ++ spec.lanes_of (piece ∷ [])
lanes_more [] piece h = refl
lanes_more (Lane name version ∷ pieces) piece h = rw (texts_more pieces piece h, lanes_more pieces piece h) refl
lanes_more (Control ∷ pieces) piece h = lanes_more pieces piece h
lanes_more (Text text ∷ pieces) piece h = lanes_more pieces piece h
lanes_more (Command command ∷ pieces) piece h = lanes_more pieces piece h

-- ---- one more text

abbrev named : List ℕ → List ℕ → List (List ℕ) → LaneText
named name version lines = record { name = name; version = version; lines = lines }

behind_lane : (lane : LaneText) (lanes : List LaneText) (text : List ℕ) → 0 < length lanes → with_text (lane ∷ lanes) text ≡ lane ∷ with_text lanes text
behind_lane lane [] text h = absurd (omega arith)
behind_lane lane (next ∷ lanes) text h = refl

-- The last lane gets the text, where that lane is open before these pieces, or begins among them.
record Grows (pieces : List Piece) (text : List ℕ) : Type 0 where
  in_lane : (name version : List ℕ) (front : List (List ℕ)) → spec.last_or block.Lane (filter_map spec.block_in pieces) ≡ block.Lane →
      named name version (front ++ spec.block_texts (pieces ++ Text text ∷ [])) ∷ spec.lanes_of (pieces ++ Text text ∷ [])
      ≡ with_text (named name version (front ++ spec.block_texts pieces) ∷ spec.lanes_of pieces) text
  later : (begun : Block) → begun ≢ block.Lane → spec.last_or begun (filter_map spec.block_in pieces) ≡ block.Lane →
      (0 < length (spec.lanes_of pieces)) × (spec.lanes_of (pieces ++ Text text ∷ []) ≡ with_text (spec.lanes_of pieces) text)

apart : block.Control ≢ block.Lane
apart h = cc

grows : (pieces : List Piece) (text : List ℕ) → Grows pieces text
grows [] text = record {
  in_lane = λ name version front h. rw append-nil refl;
  later = λ begun other h. absurd (other h);
}
grows (Lane name version ∷ pieces) text = record {
  in_lane = λ first path front h. ap (λ lanes. named first path (front ++ []) ∷ lanes) ((grows pieces text).in_lane name version [] h);
  later = λ begun other h. (omega arith, (grows pieces text).in_lane name version [] h);
}
grows (Control ∷ pieces) text =
    record {
      in_lane = λ name version front h.
          let more = (grows pieces text).later block.Control apart h in
          ap (λ lanes. named name version (front ++ []) ∷ lanes) more.1 ∙ sym (behind_lane (named name version (front ++ [])) (spec.lanes_of pieces) text more.0);
      later = λ begun other h. (grows pieces text).later block.Control apart h;
    }
grows (Text said ∷ pieces) text = record {
  in_lane = λ name version front h.
      let more = (grows pieces text).in_lane name version (front ++ said ∷ []) h in
      rw (append_assoc front (said ∷ []) (spec.block_texts (pieces ++ Text text ∷ [])), append_assoc front (said ∷ []) (spec.block_texts pieces)) at more;
  later = λ begun other h. (grows pieces text).later begun other h;
}
grows (Command command ∷ pieces) text = record {
  in_lane = λ name version front h. (grows pieces text).in_lane name version front h;
  later = λ begun other h. (grows pieces text).later begun other h;
}

front_apart : block.Front ≢ block.Lane
front_apart h = cc

pub lanes_text : (before : List Piece) (text : List ℕ) → spec.open_block before ≡ block.Lane → spec.lanes_of (before ++ Text text ∷ []) ≡ with_text (spec.lanes_of before) text
lanes_text before text h = ((grows before text).later block.Front front_apart h).1

-- the last lane is written again
pub text_set : (lanes : List LaneText) (text : List ℕ) (lane : LaneText) (n : ℕ) → length lanes ≡ suc n → lane ≡ get_or lanes n lane
    → set lanes n (named lane.name lane.version (lane.lines ++ text ∷ [])) ≡ with_text lanes text
text_set [] text lane n h is = absurd (omega arith)
text_set (only ∷ []) text lane zero h is = rw is refl
text_set (only ∷ []) text lane (suc n) h is = absurd (omega arith)
text_set (first ∷ next ∷ lanes) text lane zero h is = absurd (omega arith)
text_set (first ∷ next ∷ lanes) text lane (suc n) h is = ap (λ ls. first ∷ ls) (text_set (next ∷ lanes) text lane n (omega arith) is)
