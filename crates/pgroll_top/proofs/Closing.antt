-- How a call ends.
use Rattle.std.proofs.Common.{◌≡◌, ◌≢◌, ◌⊎◌, Bool, true, false, ◌∙◌, ℕ, ◌<◌, ◌≤◌, List, [], ◌∷◌, length, get_or, map, Option, String, Global, string_bytes, refl, sym, ap, subst, inl, inr, arith, IsErrOf, Ok, Err}
use Rattle.std.specs.Io.KnownBytes.{Appends}
use Rattle.pg_io.specs.Outside.{Known, Faulted, PassesLimit, Quiet, ReadsFront}
use Rattle.pg_io.specs.declared.whole.InputFault.{InputFault}
use Rattle.pg_io.specs.declared.whole.InputFault.TheVariants.{Failed as InputFailed, TooLong, NoMemory as OutOfMemory}
use Rattle.pg_io.specs.Laws.{appends_more, rose_since}
use Rattle.sql_base.specs.declared.faults.ScriptFault.{ScriptFault}
use Rattle.sql_base.specs.declared.faults.ScriptFault.TheVariants.{Line as BadLine, NoMemory as ScriptMemory}
use Rattle.script_text.specs.declared.lines.Line.{Line}
use Rattle.script_text.specs.Script.{script_of}
use Rattle.machine.specs.declared.events.Entry.{Entry}
use Rattle.machine.specs.State.{beginning}
use Rattle.pgroll_top.specs.declared.ending.End.{End}
use Rattle.pgroll_top.specs.declared.ending.End.TheVariants.{Done, Refused, BadScript, WantOfMemory}
use Rattle.pgroll_top.specs.declared.ending.Stop.TheVariants.{NoMemory, WriteFault}
use Rattle.pgroll_top.specs.Work.{IsHistory, Begins, BeginsLines, Follows, FollowsLines, lines_of}
use Rattle.pgroll_top.specs.Parts.{Works, end_of_fault, end_of_script, end_of_work}
use Rattle.pgroll_top.specs.Top.{Closes, IsForm, IsInput, Explains, end_line, limit}

-- a call that read its input in part
pub unread : {T : Type 0} (words : List (List ℕ)) (input output : Known) (status : ℕ) (fault : InputFault)
    → IsForm words → ReadsFront input.before input.after → IsErrOf {T = T} (Err fault) InputFailed ⊎ Quiet input
    → (IsErrOf {T = T} (Err fault) InputFailed → Faulted input) → (IsErrOf {T = T} (Err fault) TooLong → PassesLimit limit input.before input.after)
    → Closes output [] (end_of_fault fault) status → (h : List Entry) × Explains words beginning input output status h
unread words input output status InputFailed form front quiet failed long closes = ([], ((beginning, (refl, refl)), inl (end_of_fault InputFailed, [], (form, failed refl, front, refl, refl), closes)))
unread words input output status TooLong form front (inl other) failed long closes = cc
unread words input output status TooLong form front (inr quiet) failed long closes = ([], ((beginning, (refl, refl)), inl (end_of_fault TooLong, [], (form, long refl, quiet, refl, refl), closes)))
unread words input output status OutOfMemory form front (inl other) failed long closes = cc
unread words input output status OutOfMemory form front (inr quiet) failed long closes = ([], ((beginning, (refl, refl)), inl (end_of_fault OutOfMemory, [], (form, inr (refl, front, quiet), inl refl), closes)))

-- a line behind those that were written
pub closes_after : (before middle now : Option (List ℕ)) (a b c : ℕ) (whole : List ℕ) (end : End) (status : ℕ)
    → Appends before middle whole → b ≡ a
    → Closes (record { before = middle; after = now; faults_before = b; faults_after = c }) [] end status
    → Closes (record { before = before; after = now; faults_before = a; faults_after = c }) whole end status
closes_after before middle now a b c whole end status w quiet (inl p) = inl (p.0, appends_more before middle now whole (end_line end) _ refl w p.1, p.2 ∙ quiet)
closes_after before middle now a b c whole end status w quiet (inr p) = inr (
  p.0,
  record {
    front = p.1.front;
    missing = p.1.missing;
    split = p.1.split;
    some = p.1.some;
    written = appends_more before middle now whole p.1.front _ refl w p.1.written;
    failed = rose_since a b c (omega (arith, quiet)) p.1.failed;
  },
)

-- the words of a list of one
pub one_word : (words : List (String Global)) (word : String Global) → 1 ≤ length words → length words < 2 → word ≡ get_or words 0 word → map (λ w. string_bytes w) words ≡ string_bytes word ∷ []
one_word [] word low high e = absurd (omega arith)
one_word (w ∷ []) word low high e = ap (λ z. string_bytes z ∷ []) (sym e)
one_word (w ∷ v ∷ words) word low high e = absurd (omega arith)

-- a call whose input doesn't read
pub unscripted : (words : List (List ℕ)) (input output : Known) (status : ℕ) (text slice : List ℕ) (fault : ScriptFault)
    → IsForm words → IsInput input text → slice ≡ text → (fault ≢ ScriptMemory → script_of slice ≡ Err fault)
    → Closes output [] (end_of_script fault) status → (h : List Entry) × Explains words beginning input output status h
unscripted words input output status text slice (BadLine number) form whole same bad closes =
    ([], ((beginning, (refl, refl)), inl (BadScript number, [], (form, (text, whole, subst (λ z. script_of z ≡ Err (BadLine number)) same (bad (λ e. cc))), refl, refl), closes)))
unscripted words input output status text slice ScriptMemory form whole same bad closes =
    ([], ((beginning, (refl, refl)), inl (WantOfMemory, [], (form, inr (refl, (text, whole.0.taken), whole.2), inl refl), closes)))

-- ---- a call that worked

module _ (words : List (List ℕ)) (input : Known) (before middle now : Option (List ℕ)) (a b c : ℕ) (text slice : List ℕ) (lines view : List Line)
    (form : IsForm words) (whole : IsInput input text) (same : slice ≡ text) (reads : script_of slice ≡ Ok lines) (viewed : view ≡ lines) where
  reads_so : script_of text ≡ Ok lines
  reads_so = subst (λ z. script_of z ≡ Ok lines) same reads

  follows_text : (h : List Entry) → FollowsLines beginning h view → Follows words beginning h text
  follows_text h follows = (lines, reads_so, subst (FollowsLines beginning h) viewed follows)

  begins_text : (h : List Entry) → BeginsLines beginning h view → Begins words beginning h text
  begins_text h begins = (lines, reads_so, subst (BeginsLines beginning h) viewed begins)

  -- to the end
  pub all_done : (refused : Bool) (status : ℕ)
      → (h : List Entry) × IsHistory h × Works beginning view (record { before = before; after = middle; faults_before = a; faults_after = b }) (Ok refused) h
      → Closes (record { before = middle; after = now; faults_before = b; faults_after = c }) [] (end_of_work refused) status
      → (h : List Entry) × Explains words beginning input (record { before = before; after = now; faults_before = a; faults_after = c }) status h
  all_done true status (h, history, (follows, refused, tells)) closes =
      (h, (history, inl (Refused, h, (form, (text, whole, follows_text h follows), refl, refused), closes_after before middle now a b c (lines_of h) Refused status tells.0 tells.1 closes)))
  all_done false status (h, history, (follows, refused, tells)) closes =
      (h, (history, inl (Done, h, (form, (text, whole, follows_text h follows), refl, refused), closes_after before middle now a b c (lines_of h) Done status tells.0 tells.1 closes)))

  -- till memory was wanting
  pub out_of_memory : (status : ℕ)
      → (h : List Entry) × IsHistory h × Works beginning view (record { before = before; after = middle; faults_before = a; faults_after = b }) (Err NoMemory) h
      → Closes (record { before = middle; after = now; faults_before = b; faults_after = c }) [] WantOfMemory status
      → (h : List Entry) × Explains words beginning input (record { before = before; after = now; faults_before = a; faults_after = c }) status h
  out_of_memory status (h, history, (begins, (shown, front, written, quiet))) closes =
      (h, (history, inl (WantOfMemory, shown, (form, inl (text, whole, begins_text h begins), front), closes_after before middle now a b c (lines_of shown) WantOfMemory status written quiet closes)))

  -- till the writing of a line failed
  pub cut_off : (h : List Entry) × IsHistory h × Works beginning view (record { before = before; after = middle; faults_before = a; faults_after = b }) (Err WriteFault) h
      → (h : List Entry) × Explains words beginning input (record { before = before; after = middle; faults_before = a; faults_after = b }) 4 h
  cut_off (h, history, (begins, cut)) = (h, (history, inr (form, refl, inl (text, whole, begins_text h begins), cut)))

-- where a call answered Ok, no fault was counted
pub quiet_read : {T : Type 0} (text : T) {P : Type 0} → IsErrOf {T = T} (Ok text) InputFailed ⊎ P → P
quiet_read text (inl failed) = cc
quiet_read text (inr quiet) = quiet
