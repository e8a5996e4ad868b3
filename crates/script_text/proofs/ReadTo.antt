-- Reading a script a line at a time.
use Rattle.std.proofs.Common.{◌≡◌, ℕ, ◌+◌, ◌<◌, ◌≤◌, length, List, [], ◌∷◌, ◌++◌, Bool, Option, None, Some, Result, Ok, Err, true, false, refl, ap, sym, ◌∙◌, append_assoc, append-nil, arith}
use Rattle.std.specs.Option.{option_map_or}
use Rattle.sql_base.specs.declared.faults.ScriptFault.{ScriptFault}
use Rattle.sql_base.specs.declared.faults.ScriptFault.TheVariants.{Line as BadLine}
use Rattle.script_text.specs.declared.blocks.Blocks.{Blocks}
use Rattle.script_text.specs.declared.lines.Script.{Script}
use Rattle.script_text.specs.declared.pieces.Piece.{Piece}
use Rattle.script_text.specs.Blocks.{added, blocks_of, first_misfit, pieces_of, script_in, takes}
use Rattle.script_text.specs.Building.{Stands, TakesLine, script_so_far}
use Rattle.script_text.specs.Input.{is_passed, split_lines}
use Rattle.script_text.specs.Pieces.{piece_of}

-- What is read of a script, where so many lines are behind, with these pieces, and those lines are still to come.
abbrev pub read_on : List Piece → ℕ → List (List ℕ) → Result Script ScriptFault
read_on before number rest =
    option_map_or (λ bad. Err (BadLine bad)) (first_misfit before (number + 1) rest) (Ok (script_in (before ++ pieces_of rest)))

-- a line adds its piece
by_cases : (passed : Bool) (found : Option Piece) (line : List ℕ) (lines : List (List ℕ)) → is_passed line ≡ passed → piece_of line ≡ found → pieces_of (line ∷ lines) ≡ added line ++ pieces_of lines
by_cases true found line lines p f = rw p refl
by_cases false None line lines p f = rw (p, f) refl
by_cases false (Some piece) line lines p f = rw (p, f) refl

more_pieces : (line : List ℕ) (rest : List (List ℕ)) → pieces_of (line ∷ rest) ≡ added line ++ pieces_of rest
more_pieces line rest = by_cases (is_passed line) (piece_of line) line rest refl refl

taken : (before : List Piece) (number : ℕ) (line : List ℕ) (rest : List (List ℕ)) → takes before line ≡ true → read_on before number (line ∷ rest) ≡ read_on (before ++ added line) (number + 1) rest
taken before number line rest h = rw (h, more_pieces line rest, append_assoc before (added line) (pieces_of rest)) refl

misfit : (before : List Piece) (number : ℕ) (line : List ℕ) (rest : List (List ℕ)) → takes before line ≡ false → read_on before number (line ∷ rest) ≡ Err (BadLine (number + 1))
misfit before number line rest h = rw h refl

-- How far the reading of a script has come.
pub record ReadTo (text : List ℕ) (number : ℕ) (blocks : Blocks) (rest : List ℕ) : Type 0 where
  pub before : List Piece
  pub stands : Stands blocks before
  pub same : blocks_of text ≡ read_on before number (split_lines rest)
  pub room : number + length rest ≤ length text

-- at the beginning
pub none_read : (text : List ℕ) (blocks : Blocks) → Stands blocks [] → ReadTo text 0 blocks text
none_read text blocks h = record { before = []; stands = h; same = refl; room = omega arith }

-- one more line is taken
pub one_taken : (text rest line after : List ℕ) (number : ℕ) (old new : Blocks) → ReadTo text number old rest → split_lines rest ≡ line ∷ split_lines after → length after < length rest
    → TakesLine old new line true → ReadTo text (number + 1) new after
one_taken text rest line after number old new h first less takes =
    let step = takes h.before h.stands in
    record {
      before = h.before ++ added line;
      stands = step.1 refl;
      same = h.same ∙ ap (read_on h.before number) first ∙ taken h.before number line (split_lines after) (sym step.0);
      room = omega (arith, h.room);
    }

-- a line may not stand where it stands
pub one_misfit : (text rest line after : List ℕ) (number : ℕ) (old new : Blocks) → ReadTo text number old rest → split_lines rest ≡ line ∷ split_lines after
    → TakesLine old new line false → blocks_of text ≡ Err (BadLine (number + 1))
one_misfit text rest line after number old new h first takes =
    h.same ∙ ap (read_on h.before number) first ∙ misfit h.before number line (split_lines after) (sym (takes h.before h.stands).0)

same_script : (blocks : Blocks) (before : List Piece) → Stands blocks before → script_in before ≡ script_so_far blocks
same_script blocks before h = rw (h.lanes, h.control) refl

-- at the end
pub all_read : (text rest : List ℕ) (number : ℕ) (blocks : Blocks) → ReadTo text number blocks rest → rest ≡ [] → blocks_of text ≡ Ok (script_so_far blocks)
all_read text rest number blocks h e =
    h.same ∙ ap (λ r. read_on h.before number (split_lines r)) e ∙ ap (λ p. Ok (script_in p)) (append-nil h.before)
    ∙ ap Ok (same_script blocks h.before h.stands)
