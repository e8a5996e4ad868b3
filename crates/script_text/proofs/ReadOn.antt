-- Reading an input a line at a time.
use Rattle.std.proofs.Common.{◌≡◌, ℕ, ◌+◌, ◌<◌, ◌≤◌, length, List, [], ◌∷◌, ◌++◌, Option, None, Some, Result, Ok, Err, true, false, not, filter, refl, ap, sym, ◌∙◌, append_assoc, append-nil, length-append, arith}
use Rattle.std.specs.List.{filter_map, position_from}
use Rattle.std.specs.Option.{option_map_or}
use Rattle.sql_base.specs.declared.faults.ScriptFault.{ScriptFault}
use Rattle.sql_base.specs.declared.faults.ScriptFault.TheVariants.{Line as BadLine}
use Rattle.script_text.specs.Input.{is_passed, split_lines}
use Rattle.script_text.specs.Script.{is_bad, lines_of}
use Rattle.script_text.specs.Steps.{line_at}

module _ {L : Type 0} (reads : List ℕ → Option L) where
  -- What is read of an input, where so many lines are behind, with these of them read, and those lines are still to come.
  abbrev pub read_on : ℕ → List L → List (List ℕ) → Result (List L) ScriptFault
  read_on number read rest =
      option_map_or (λ bad. Err (BadLine bad)) (position_from (is_bad reads) (number + 1) rest) (Ok (read ++ filter_map reads (filter (λ line. not (is_passed line)) rest)))

  -- a line is passed by
  pub passed : (number : ℕ) (read : List L) (line : List ℕ) (rest : List (List ℕ)) → is_passed line ≡ true → read_on number read (line ∷ rest) ≡ read_on (number + 1) read rest
  passed number read line rest p = rw p refl

  -- a line is read
  pub line_read : (number : ℕ) (read : List L) (line : List ℕ) (one : L) (rest : List (List ℕ)) → is_passed line ≡ false → reads line ≡ Some one → read_on number read (line ∷ rest) ≡ read_on (number + 1) (read ++ one ∷ []) rest
  line_read number read line one rest p e = rw (p, e) (simp append_assoc)

  -- a line is bad
  pub line_bad : (number : ℕ) (read : List L) (line : List ℕ) (rest : List (List ℕ)) → is_passed line ≡ false → reads line ≡ None → read_on number read (line ∷ rest) ≡ Err (BadLine (number + 1))
  line_bad number read line rest p e = rw (p, e) refl

  -- How far the reading of a text has come.
  pub record ReadSoFar (text : List ℕ) (number : ℕ) (read : List L) (rest : List ℕ) : Type 0 where
    pub same : lines_of reads text ≡ read_on number read (split_lines rest)
    pub room : number + length rest ≤ length text
    pub few : length read + length rest ≤ length text

  -- at the end
  pub all_read : (text : List ℕ) (number : ℕ) (read : List L) (rest : List ℕ) → ReadSoFar text number read rest → rest ≡ [] → lines_of reads text ≡ Ok read
  all_read text number read rest h e = h.same ∙ ap (λ r. read_on number read (split_lines r)) e ∙ ap Ok (append-nil read)

  found_line : (found : Option L) (fault : ScriptFault) (one : L) → option_map_or (λ read. Ok read) found (Err fault) ≡ Ok one → found ≡ Some one
  found_line None fault one e = cc
  found_line (Some read) fault one e = cc

  -- one more line is read
  pub more_read : (text rest line after : List ℕ) (number : ℕ) (read now : List L) (one : L) → ReadSoFar text number read rest → split_lines rest ≡ line ∷ split_lines after → length after < length rest
      → is_passed line ≡ false → line_at reads (number + 1) line ≡ Ok one → now ≡ read ++ one ∷ [] → ReadSoFar text (number + 1) now after
  more_read text rest line after number read now one h first less kept e is =
      record {
        same = h.same ∙ ap (read_on number read) first ∙ line_read number read line one (split_lines after) kept (found_line (reads line) (BadLine (number + 1)) one e) ∙ ap (λ r. read_on (number + 1) r (split_lines after)) (sym is);
        room = omega (arith, h.room);
        few = omega (arith, h.few, ap length is, length-append read (one ∷ []));
      }
