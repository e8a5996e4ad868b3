-- What a script is, as far as it is read, where one more piece is taken.
use Rattle.std.proofs.Common.{◌≡◌, ℕ, Bool, true, false, ◌||◌, List, [], ◌∷◌, ◌++◌, None, refl, sym, ap, ◌∙◌, append-nil}
use Rattle.std.specs.List.{filter_map, list_any}
use Rattle.std.proofs.lemmas.List.Elements.{filter_map-append}
use Rattle.std.proofs.lemmas.List.Folds.{list_any-append}
use Rattle.script_text.specs.declared.blocks.Block.TheVariants as block
use Rattle.script_text.specs.declared.blocks.Blocks.{Blocks}
use Rattle.script_text.specs.declared.lines.AnyCommand.{AnyCommand}
use Rattle.script_text.specs.declared.pieces.Piece.{Piece}
use Rattle.script_text.specs.declared.pieces.Piece.TheVariants.{Lane, Control, Text, Command}
use Rattle.script_text.specs.Blocks as spec
use Rattle.script_text.specs.Building.{Stands, has_room, with_text}
use Rattle.script_text.proofs.Growing.{count_of, lanes_more, lanes_text, names_of, open_head, open_other}

or_false : (b : Bool) → (b || false) ≡ b
or_false true = refl
or_false false = refl

or_true : (b : Bool) → (b || true) ≡ true
or_true true = refl
or_true false = refl

no_control : (before : List Piece) (piece : Piece) → spec.is_control piece ≡ false → list_any spec.is_control (before ++ piece ∷ []) ≡ list_any spec.is_control before
no_control before piece h = rw (list_any-append spec.is_control before (piece ∷ []), h) (or_false (list_any spec.is_control before))

no_command : (before : List Piece) (piece : Piece) → spec.command_in piece ≡ None → filter_map spec.command_in (before ++ piece ∷ []) ≡ filter_map spec.command_in before
no_command before piece h = rw (filter_map-append spec.command_in before (piece ∷ []), h) (append-nil (filter_map spec.command_in before))

pub room_is : (b : Blocks) (before : List Piece) (name version : List ℕ) → Stands b before → has_room b.lanes.items name ≡ spec.fits before (Lane name version)
room_is b before name version h = rw (h.lanes, names_of name before, count_of before) refl

pub lane_stands : (b new : Blocks) (before : List Piece) (name version : List ℕ) → Stands b before
    → new.lanes.items ≡ b.lanes.items ++ record { name = name; version = version; lines = [] } ∷ [] → new.control ≡ b.control → new.block ≡ block.Lane → new.has_control ≡ b.has_control
    → Stands new (before ++ Lane name version ∷ [])
lane_stands b new before name version h lanes control begun has = record {
  lanes = lanes ∙ ap (λ ls. ls ++ record { name = name; version = version; lines = [] } ∷ []) h.lanes ∙ sym (lanes_more before (Lane name version) tt);
  control = control ∙ h.control ∙ sym (no_command before (Lane name version) refl);
  block = begun ∙ sym (open_head before (Lane name version) block.Lane refl);
  has_control = has ∙ h.has_control ∙ sym (no_control before (Lane name version) refl);
}

pub control_stands : (b new : Blocks) (before : List Piece) → Stands b before
    → new.lanes.items ≡ b.lanes.items → new.control ≡ b.control → new.block ≡ block.Control → new.has_control ≡ true
    → Stands new (before ++ Control ∷ [])
control_stands b new before h lanes control begun has = record {
  lanes = lanes ∙ h.lanes ∙ sym (lanes_more before Control tt ∙ append-nil (spec.lanes_of before));
  control = control ∙ h.control ∙ sym (no_command before Control refl);
  block = begun ∙ sym (open_head before Control block.Control refl);
  has_control = has ∙ sym (list_any-append spec.is_control before (Control ∷ []) ∙ or_true (list_any spec.is_control before));
}

pub text_stands : (b new : Blocks) (before : List Piece) (text : List ℕ) → Stands b before → b.block ≡ block.Lane
    → new.lanes.items ≡ with_text b.lanes.items text → new.control ≡ b.control → new.block ≡ b.block → new.has_control ≡ b.has_control
    → Stands new (before ++ Text text ∷ [])
text_stands b new before text h in_lane lanes control begun has = record {
  lanes = lanes ∙ ap (λ ls. with_text ls text) h.lanes ∙ sym (lanes_text before text (sym h.block ∙ in_lane));
  control = control ∙ h.control ∙ sym (no_command before (Text text) refl);
  block = begun ∙ h.block ∙ sym (open_other before (Text text) refl);
  has_control = has ∙ h.has_control ∙ sym (no_control before (Text text) refl);
}

pub command_stands : (b new : Blocks) (before : List Piece) (command : AnyCommand) → Stands b before
    → new.lanes.items ≡ b.lanes.items → new.control ≡ b.control ++ command ∷ [] → new.block ≡ b.block → new.has_control ≡ b.has_control
    → Stands new (before ++ Command command ∷ [])
command_stands b new before command h lanes control begun has = record {
  lanes = lanes ∙ h.lanes ∙ sym (lanes_more before (Command command) tt ∙ append-nil (spec.lanes_of before));
  control = control ∙ ap (λ cs. cs ++ command ∷ []) h.control ∙ sym (filter_map-append spec.command_in before (Command command ∷ []));
  block = begun ∙ h.block ∙ sym (open_other before (Command command) refl);
  has_control = has ∙ h.has_control ∙ sym (no_control before (Command command) refl);
}
