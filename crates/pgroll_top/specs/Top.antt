-- What a call does: one history explains the status, what was read and what was written.
use Rattle.std.specs.Prelude.{◌≡◌, ◌⊎◌, ℕ, ◌≤◌, List, [], ◌∷◌, ◌++◌, true, false, length, map, Option, Err, IsSomeAnd, String, string_bytes, codes}
use Rattle.std.specs.declared.alloc.Global.{Global}
use Rattle.std.specs.Io.KnownBytes.{Appends}
use Rattle.pg_io.specs.Outside.{Known, Cut, Faulted, Quiet, Untouched, ReadsFront, ReadsWhole, PassesLimit}
use Rattle.sql_base.specs.declared.faults.ScriptFault.TheVariants.{Line as BadLine}
use Rattle.mig_lens.specs.declared.faults.Refusal.{Refusal}
use Rattle.mig_lens.specs.declared.faults.Refusal.TheVariants as refusal
use Rattle.machine.specs.declared.events.Entry.{Entry}
use Rattle.machine.specs.declared.states.State.{State}
use Rattle.machine.specs.declared.events.Reply.TheVariants as reply
use Rattle.script_text.specs.Script.{script_of}
use Rattle.report.specs.Lines.{numbered}
use Rattle.pgroll_top.specs.declared.ending.End.{End}
use Rattle.pgroll_top.specs.declared.ending.End.TheVariants.{Done, Refused, Usage, ReadFault, InputTooLong, BadScript, WantOfMemory}
use Rattle.pgroll_top.specs.Work.{IsHistoryFrom, IsShown, Follows, Begins, has_refusal, lines_of, line_of, work_of}

-- ---- words and input

-- The words, as bytes.
abbrev pub texts : List (String Global) → List (List ℕ)
texts words = map (λ word. string_bytes word) words

-- The words are of a form. So far the one form is `exec` alone.
abbrev pub IsForm : List (List ℕ) → Type 0
IsForm words = words ≡ codes "exec" ∷ []

-- The words are of a form whose command reads an input. So far every form's does.
abbrev pub HasInput : List (List ℕ) → Type 0
HasInput words = IsForm words

-- The longest input, in bytes.
abbrev pub limit : ℕ
limit = 65536

-- This is the whole input, it is within the limit, and no read failed. (Of a source that doesn't tell its bytes, it may be any text.)
abbrev pub IsInput : Known → List ℕ → Type 0
IsInput input text = ReadsWhole input.before input.after text × (length text ≤ limit) × Quiet input

-- The whole input was read, and the first of its lines that breaks the rules has this number.
abbrev pub IsBadInput : List (List ℕ) → State → Known → ℕ → Type 0
IsBadInput words s input number = (text : List ℕ) × IsInput input text × (work_of words text s ≡ Err (BadLine number))

-- The input is known, is within the limit, and has a line that breaks the rules.
abbrev pub HasBadLine : Option (List ℕ) → Type 0
HasBadLine left = IsSomeAnd left (λ text. (length text ≤ limit) × ((number : ℕ) × (script_of text ≡ Err (BadLine number))))

-- ---- the work

-- The input was read to its end, and the history does all the work that the words and the input ask for in this state.
abbrev pub DoesAll : List (List ℕ) → State → Known → List Entry → Type 0
DoesAll words s input history = (text : List ℕ) × IsInput input text × Follows words s history text

-- The input was read to its end, and the history does the first part of that work; or nothing was done, and some front of the input was read, with no fault.
abbrev pub DoesPart : List (List ℕ) → State → Known → List Entry → Type 0
DoesPart words s input history =
    ((text : List ℕ) × IsInput input text × Begins words s history text) ⊎ ((history ≡ []) × ReadsFront input.before input.after × Quiet input)

-- The last entry's line was cut short by a fault, and all lines before it are whole. No entry comes after it.
abbrev pub CutAtLast : Known → List Entry → Type 0
CutAtLast output history = (done : List Entry) × (last : Entry) × (history ≡ done ++ last ∷ []) × Cut output (lines_of done) (line_of last)

-- ---- how a call ends

-- The line of an end. Where all the work is done there is none. P21 is told as a refusal of control, of number 0, since no event came of it.
abbrev pub end_line : End → List ℕ
end_line Done = []
end_line Refused = []
end_line Usage = codes "usage: pgroll_cli JOURNAL COMMAND [ARGS] [--batch N] [--pause-at N]\n"
end_line ReadFault = codes "0 control ERROR read\n"
end_line InputTooLong = codes "0 control ERROR input\n"
end_line (BadScript number) = numbered 0 (codes "control") (reply.Refused (refusal.BadScript number))
end_line WantOfMemory = codes "0 control ERROR memory\n"

abbrev pub status_of : End → ℕ
status_of Done = 0
status_of Refused = 1
status_of (BadScript number) = 1
status_of Usage = 2
status_of ReadFault = 3
status_of InputTooLong = 8
status_of WantOfMemory = 6

-- The status where the writing of a line failed.
abbrev pub write_fault : ℕ
write_fault = 4

-- The statuses of a call that did all its work.
abbrev pub IsDone : ℕ → Type 0
IsDone status = (status ≡ status_of Done) ⊎ (status ≡ status_of Refused)

-- Why the call came to this end, with which history, and which entries of it had their lines written.
abbrev pub Because : List (List ℕ) → State → Known → End → List Entry → List Entry → Type 0
Because words s input Done history shown = IsForm words × DoesAll words s input history × (shown ≡ history) × (has_refusal history ≡ false)
Because words s input Refused history shown = IsForm words × DoesAll words s input history × (shown ≡ history) × (has_refusal history ≡ true)
Because words s input Usage history shown = ¬ IsForm words × Untouched input × (history ≡ []) × (shown ≡ [])
Because words s input ReadFault history shown = IsForm words × Faulted input × ReadsFront input.before input.after × (history ≡ []) × (shown ≡ [])
Because words s input InputTooLong history shown = IsForm words × PassesLimit limit input.before input.after × Quiet input × (history ≡ []) × (shown ≡ [])
Because words s input (BadScript number) history shown = IsForm words × IsBadInput words s input number × (history ≡ []) × (shown ≡ [])
Because words s input WantOfMemory history shown = IsForm words × DoesPart words s input history × IsShown shown history

-- The call came to an end: some lines were written, and then the end's own line, and no write failed; or that line was cut short by a fault.
abbrev pub Closes : Known → List ℕ → End → ℕ → Type 0
Closes output whole end status =
    ((status ≡ status_of end) × Appends output.before output.after (whole ++ end_line end) × Quiet output) ⊎ ((status ≡ write_fault) × Cut output whole (end_line end))

-- The call came to an end, for a cause.
abbrev pub Ends : List (List ℕ) → State → Known → Known → ℕ → List Entry → Type 0
Ends words s input output status history =
    (end : End) × (shown : List Entry) × Because words s input end history shown × Closes output (lines_of shown) end status

-- The writing of an entry's line failed.
abbrev pub Breaks : List (List ℕ) → State → Known → Known → ℕ → List Entry → Type 0
Breaks words s input output status history = IsForm words × (status ≡ write_fault) × DoesPart words s input history × CutAtLast output history

-- This history explains the call, which begins with this state: it is a run of the machine from there, and the words, what was read, what was written and the status are as it says. A call ends in one of two ways: with its end's own line, or at an entry's line whose writing failed.
abbrev pub Explains : List (List ℕ) → State → Known → Known → ℕ → List Entry → Type 0
Explains words s input output status history =
    ((end : State) × IsHistoryFrom s history end) × (Ends words s input output status history ⊎ Breaks words s input output status history)

-- ---- what is told

-- The last byte is a newline.
abbrev pub EndsInNewline : List ℕ → Type 0
EndsInNewline text = (front : List ℕ) × (text ≡ front ++ codes "\n")

-- These are whole lines, or nothing.
abbrev pub AreLines : List ℕ → Type 0
AreLines text = (text ≡ []) ⊎ EndsInNewline text

-- A line of control was written that says REFUSED, with this refusal: as the first line, or behind whole lines. (Of a sink that doesn't tell its bytes this says nothing.)
pub record TellsRefusal (output : Known) : Type 0 where
  pub number : ℕ
  pub refusal : Refusal
  pub before : List ℕ
  pub whole : AreLines before
  pub after : List ℕ
  pub written : Appends output.before output.after (before ++ (numbered number (codes "control") (reply.Refused refusal) ++ after))
