-- Where the status tells a refusal, a REFUSED line of control was written.
use Rattle.std.proofs.Common.{◌≡◌, ◌⊎◌, ℕ, ◌+◌, Bool, true, false, ◌||◌, List, [], ◌∷◌, ◌++◌, codes, decimal, length, refl, sym, ap, subst, ◌∙◌, append_assoc, append-nil, inl, inr, arith}
use Rattle.std.specs.Io.KnownBytes.{Appends}
use Rattle.std.specs.Prelude.{slice_index_or, unwrap_or}
use Rattle.std.specs.Fmt.{signed_decimal}
use Rattle.std.specs.List.{AllByRecursion as Each, flat_map}
use Rattle.std.specs.Option.{option_map_or}
use Rattle.mig_lens.specs.declared.faults.Refusal.{Refusal}
use Rattle.mig_lens.specs.declared.faults.Refusal.TheVariants as refusal
use Rattle.pg_io.specs.Outside.{Known}
use Rattle.machine.specs.declared.events.Entry.{Entry}
use Rattle.machine.specs.declared.events.Event.{Event}
use Rattle.machine.specs.declared.events.Event.TheVariants.{Said}
use Rattle.machine.specs.declared.events.Reading.{Reading}
use Rattle.machine.specs.declared.events.Reply.{Reply}
use Rattle.machine.specs.declared.events.Reply.TheVariants as reply
use Rattle.machine.specs.declared.states.State.{State}
use Rattle.machine.specs.declared.tasks.Task.{Task}
use Rattle.machine.specs.declared.tasks.Task.TheVariants as task
use Rattle.machine.specs.Follows as follow
use Rattle.machine.specs.Laws.{OnlyCommandsAreRefused}
use Rattle.machine.specs.Step.{Run, Step}
use Rattle.machine.specs.State.{path_name}
use Rattle.report.specs.Lines.{code_text, four_words, numbered, reply_text, refusal_text, row_text}
use Rattle.pgroll_top.specs.declared.ending.End.{End}
use Rattle.pgroll_top.specs.declared.ending.End.TheVariants.{Done, Refused, Usage, ReadFault, InputTooLong, BadScript, WantOfMemory}
use Rattle.pgroll_top.specs.Top.{AreLines, Because, EndsInNewline, Explains, TellsRefusal, end_line, status_of}
use Rattle.pgroll_top.specs.Work.{actors, has_refusal, line_of, lines_of, numbers, refuses}

-- ---- whole lines

ends_behind : (front text : List ℕ) → EndsInNewline text → EndsInNewline (front ++ text)
ends_behind front text (text_front, is) = (front ++ text_front, ap (λ z. front ++ z) is ∙ sym (append_assoc front text_front (codes "\n")))

ends_with : (text more : List ℕ) → EndsInNewline text → AreLines more → EndsInNewline (text ++ more)
ends_with text more ends (inl none) = subst (λ z. EndsInNewline (text ++ z)) (sym none) (subst EndsInNewline (sym (append-nil text)) ends)
ends_with text more ends (inr more_ends) = ends_behind text more more_ends

are_lines : {X : Type 0} (f : X → List ℕ) → ((x : X) → EndsInNewline (f x)) → (xs : List X) → AreLines (flat_map f xs)
are_lines f h [] = inl refl
are_lines f h (x ∷ xs) = inr (ends_with (f x) (flat_map f xs) (h x) (are_lines f h xs))

newline : EndsInNewline (codes "\n")
newline = ([], refl)

reply_ends : (answer : Reply) → EndsInNewline (reply_text answer)
reply_ends (reply.Insert n) = ends_behind (codes "INSERT 0 ") (decimal n ++ codes "\n") (decimal n, refl)
reply_ends (reply.Update n) = ends_behind (codes "UPDATE ") (decimal n ++ codes "\n") (decimal n, refl)
reply_ends (reply.Delete n) = ends_behind (codes "DELETE ") (decimal n ++ codes "\n") (decimal n, refl)
reply_ends (reply.Select rows) =
    let lines = ends_with (codes "\n") (flat_map row_text rows) newline (are_lines row_text (λ row. ends_behind (codes "  ") _ (_, refl)) rows) in
    ends_behind (codes "SELECT ") (decimal (length rows) ++ (codes "\n" ++ flat_map row_text rows)) (ends_behind (decimal (length rows)) (codes "\n" ++ flat_map row_text rows) lines)
reply_ends reply.Set = (codes "SET", refl)
reply_ends (reply.Error code name key) =
    ends_behind (codes "ERROR ") _ (ends_behind (code_text code) _ (ends_behind (codes " ") _ (ends_behind (unwrap_or name (codes "-")) _ (ends_behind (codes " ") _ (option_map_or signed_decimal key (codes "-"), refl)))))
reply_ends (reply.Start name) = ends_behind (codes "START ") (path_name name ++ codes "\n") (path_name name, refl)
reply_ends (reply.Fill table count first last) = ends_behind (codes "FILL ") _ (four_words table (decimal count) (signed_decimal first) (signed_decimal last), refl)
reply_ends reply.Filled = (codes "FILLED", refl)
reply_ends (reply.Complete step) = ends_behind (codes "COMPLETE ") (decimal step ++ codes "\n") (decimal step, refl)
reply_ends (reply.Rollback step) = ends_behind (codes "ROLLBACK ") (decimal step ++ codes "\n") (decimal step, refl)
reply_ends (reply.Refused refusal) = ends_behind (codes "REFUSED ") (refusal_text refusal ++ codes "\n") (refusal_text refusal, refl)

line_ends : (entry : Entry) → EndsInNewline (line_of entry)
line_ends entry =
    ends_behind (decimal entry.number) _ (ends_behind (codes " ") _ (ends_behind (slice_index_or actors entry.actor []) _ (ends_behind (codes " ") (reply_text entry.reply) (reply_ends entry.reply))))

-- ---- who does what

-- A command is done by control.
abbrev ByItsActor : Entry → Type 0
ByItsActor entry = (entry.actor ≡ numbers.control) ⊎ ((path : List (List ℕ)) × (reading : Reading) × (entry.event ≡ Said path reading))

each_append : (h e : List Entry) → Each ByItsActor h → Each ByItsActor e → Each ByItsActor (h ++ e)
each_append [] e p q = q
each_append (entry ∷ h) e p q = (p.0, each_append h e p.1 q)

once_by : (what : Event) (entries : List Entry) → follow.Once numbers.control what entries → Each ByItsActor entries
once_by what [] h = tt
once_by what (entry ∷ []) h = (inl h.by, tt)
once_by what (entry ∷ next ∷ entries) h = absurd h

said_by : (path : List (List ℕ)) (reading : Reading) (entries : List Entry) → follow.Once numbers.lane (Said path reading) entries → Each ByItsActor entries
said_by path reading [] h = tt
said_by path reading (entry ∷ []) h = (inr (path, reading, h.event), tt)
said_by path reading (entry ∷ next ∷ entries) h = absurd h

up_to_by : (what : Event) (goes_on : Reply → Bool) (entries : List Entry) → follow.UpTo numbers.control what goes_on entries → Each ByItsActor entries
up_to_by what goes_on [] h = tt
up_to_by what goes_on (entry ∷ []) h = (inl h.0.by, tt)
up_to_by what goes_on (entry ∷ next ∷ entries) h = (inl h.0.by, up_to_by what goes_on (next ∷ entries) h.2)

does_by : (path : List (List ℕ)) (one : Task) (entries : List Entry) → follow.Does numbers path one entries → Each ByItsActor entries
does_by path (task.Say reading) entries h = said_by path reading entries h
does_by path (task.Start asked) entries h = once_by _ entries h
does_by path (task.Batch n) entries h = once_by _ entries h
does_by path task.Fill entries h = up_to_by _ _ entries h
does_by path task.Complete entries h = up_to_by _ _ entries h
does_by path task.Rollback entries h = up_to_by _ _ entries h

follows_by : (path : List (List ℕ)) (tasks : List Task) (entries : List Entry) → follow.Follows numbers path tasks entries → Each ByItsActor entries
follows_by path [] entries h = subst (Each ByItsActor) (sym h) tt
follows_by path (one ∷ tasks) entries (mine, rest, split, does, follows) =
    subst (Each ByItsActor) (sym split) (each_append mine rest (does_by path one mine does) (follows_by (follow.path_after path mine) tasks rest follows))

-- ---- the line of an entry that was refused

-- Some entries, and then the line of a command that was refused.
record HasRefused (history : List Entry) : Type 0 where
  done : List Entry
  number : ℕ
  refused : Refusal
  rest : List ℕ
  lines : lines_of history ≡ lines_of done ++ (numbered number (codes "control") (reply.Refused refused) ++ rest)

module _ (law : OnlyCommandsAreRefused) where
  by_control : (s : State) (entry : Entry) (t : State) (refused : Refusal) → Step s entry.event entry.reply t → entry.reply ≡ reply.Refused refused → ByItsActor entry → entry.actor ≡ numbers.control
  by_control s entry t refused step is (inl by) = by
  by_control s entry t refused step is (inr (path, reading, said)) =
      absurd (law s path reading refused t (subst (λ answer. Step s (Said path reading) answer t) is (subst (λ event. Step s event entry.reply t) said step)))

  refused_first : (s : State) (entry : Entry) (h : List Entry) (t : State) → Step s entry.event entry.reply t → ByItsActor entry → refuses entry.reply ≡ true → HasRefused (entry ∷ h)
  refused_first s entry h t step by is = by_reply entry.reply refl is
    where
      by_reply : (answer : Reply) → entry.reply ≡ answer → refuses answer ≡ true → HasRefused (entry ∷ h)
      by_reply (reply.Refused refused) is e =
          let control = by_control s entry t refused step is by in record {
            done = [];
            number = entry.number;
            refused = refused;
            rest = lines_of h;
            lines = ap (λ answer. numbered entry.number (slice_index_or actors entry.actor []) answer ++ lines_of h) is ∙ ap (λ actor. numbered entry.number (slice_index_or actors actor []) (reply.Refused refused) ++ lines_of h) control;
          }
      by_reply (reply.Insert n) is e = cc
      by_reply (reply.Update n) is e = cc
      by_reply (reply.Delete n) is e = cc
      by_reply (reply.Select rows) is e = cc
      by_reply reply.Set is e = cc
      by_reply (reply.Error code name key) is e = cc
      by_reply (reply.Start name) is e = cc
      by_reply (reply.Fill table count first last) is e = cc
      by_reply reply.Filled is e = cc
      by_reply (reply.Complete step) is e = cc
      by_reply (reply.Rollback step) is e = cc

  refused_in : (n : ℕ) (s : State) (h : List Entry) (t : State) → Run n s h t → Each ByItsActor h → has_refusal h ≡ true → HasRefused h
  refused_in n s [] t run by e = cc
  refused_in n s (entry ∷ h) t (number, middle, step, run) by e = by_test (refused_in (n + 1) middle h t run by.1) (refuses entry.reply) refl e
    where
      by_test : (has_refusal h ≡ true → HasRefused h) → (b : Bool) → refuses entry.reply ≡ b → (b || has_refusal h) ≡ true → HasRefused (entry ∷ h)
      by_test there true is e = refused_first s entry h middle step by.0 is
      by_test there false is e =
          let later = there e in record {
            done = entry ∷ later.done;
            number = later.number;
            refused = later.refused;
            rest = later.rest;
            lines = ap (λ z. line_of entry ++ z) later.lines ∙ sym (append_assoc (line_of entry) (lines_of later.done) _);
          }

  -- an end of status 1 has such a line
  refused_end : (words : List (List ℕ)) (s : State) (input output : Known) (end : End) (h shown : List Entry) (last : State) → Run 1 s h last → Because words s input end h shown → status_of end ≡ 1
      → Appends output.before output.after (lines_of shown ++ end_line end) → TellsRefusal output
  refused_end words s input output Refused h shown last run (form, (text, whole, (lines, reads, (tasks, are, follows))), same, some) one written =
      let found = refused_in 1 s h last run (follows_by _ tasks h follows) some in record {
        number = found.number;
        refusal = found.refused;
        before = lines_of found.done;
        whole = are_lines line_of line_ends found.done;
        after = found.rest;
        written = subst (Appends output.before output.after) (append-nil (lines_of shown) ∙ ap lines_of same ∙ found.lines) written;
      }
  refused_end words s input output (BadScript number) h shown last run because one written = record {
    number = 0;
    refusal = refusal.BadScript number;
    before = [];
    whole = inl refl;
    after = [];
    written = subst (Appends output.before output.after) (ap (λ h. lines_of h ++ end_line (BadScript number)) because.3 ∙ sym (append-nil (end_line (BadScript number)))) written;
  }
  refused_end words s input output Done h shown last run because one written = absurd (omega (arith, one))
  refused_end words s input output Usage h shown last run because one written = absurd (omega (arith, one))
  refused_end words s input output ReadFault h shown last run because one written = absurd (omega (arith, one))
  refused_end words s input output InputTooLong h shown last run because one written = absurd (omega (arith, one))
  refused_end words s input output WantOfMemory h shown last run because one written = absurd (omega (arith, one))

  pub refused_cause : (words : List (List ℕ)) (s : State) (input output : Known) (status : ℕ) → (h : List Entry) × Explains words s input output status h → status ≡ 1 → TellsRefusal output
  refused_cause words s input output status (h, ((last, (run, lane_run)), inl (end, shown, because, inl closes))) e = refused_end words s input output end h shown last run because (sym closes.0 ∙ e) closes.1
  refused_cause words s input output status (h, (history, inl (end, shown, because, inr cut))) e = absurd (omega (arith, cut.0))
  refused_cause words s input output status (h, (history, inr breaks)) e = absurd (omega (arith, breaks.1))
