-- Lines of entries that are written one after another.
use Rattle.std.proofs.Common.{◌≡◌, ℕ, List, [], ◌∷◌, ◌++◌, Option, Result, Ok, Err, refl, sym, ap, ◌∙◌, append_assoc, append-nil, inl, inr, arith, codes, decimal}
use Rattle.std.specs.Io.KnownBytes.{Appends}
use Rattle.std.proofs.lemmas.Grind.{flat_map-append}
use Rattle.pg_io.specs.Outside.{Known, Cut}
use Rattle.pg_io.specs.Laws.{appends_more, appends_kept, appends_none, rose_since}
use Rattle.machine.specs.declared.events.Entry.{Entry}
use Rattle.pgroll_top.specs.declared.ending.Stop.{Stop}
use Rattle.pgroll_top.specs.declared.ending.Stop.TheVariants.{WriteFault, NoMemory}
use Rattle.pgroll_top.specs.Work.{IsShown, line_of, lines_of}
use Rattle.pgroll_top.specs.Parts.{Shows, Tells}
use Rattle.pgroll_top.specs.Top.{end_line}
use Rattle.pgroll_top.specs.declared.ending.End.TheVariants.{BadScript}
use Rattle.mig_lens.specs.declared.faults.Refusal.TheVariants as refusal
use Rattle.machine.specs.declared.events.Reply.TheVariants.{Refused}
use Rattle.report.specs.Lines.{reply_text}
use Rattle.std.proofs.lemmas.Fmt.{decimal_digit}

pub lines_append : (h e : List Entry) → lines_of h ++ lines_of e ≡ lines_of (h ++ e)
lines_append h e = sym (flat_map-append line_of h e)

-- what was cut behind what was written
pub cut_after : (before middle now : Option (List ℕ)) (a b c : ℕ) (front whole all last : List ℕ) → Appends before middle front → b ≡ a → front ++ whole ≡ all
    → Cut (record { before = middle; after = now; faults_before = b; faults_after = c }) whole last
    → Cut (record { before = before; after = now; faults_before = a; faults_after = c }) all last
cut_after before middle now a b c front whole all last w quiet e cut = record {
  front = cut.front;
  missing = cut.missing;
  split = cut.split;
  some = cut.some;
  written = appends_more before middle now front (whole ++ cut.front) (all ++ cut.front) (sym (append_assoc front whole cut.front) ∙ ap (λ x. x ++ cut.front) e) w cut.written;
  failed = rose_since a b c (omega (arith, quiet)) cut.failed;
}

-- the line of one entry
pub tells_one : (output : Known) (entry : Entry) (result : Result (Unit {0}) Stop) → Shows output (line_of entry) result → Tells output result (entry ∷ [])
tells_one output entry (Ok done) shown = (appends_more output.before output.before output.after [] (line_of entry) (lines_of (entry ∷ [])) (sym (append-nil (line_of entry))) (appends_none output.before) shown.0, shown.1)
tells_one output entry (Err WriteFault) shown = ([], entry, refl, shown)
tells_one output entry (Err NoMemory) shown = ([], inr (entry, refl), appends_kept output.before output.before output.after [] (appends_none output.before) shown.0, shown.1)

-- why the work stopped is told the same way whatever it would have answered
pub tells_stop : (T U : Type 0) (output : Known) (stop : Stop) (entries : List Entry) → Tells {T = T} output (Err stop) entries → Tells {T = U} output (Err stop) entries
tells_stop T U output WriteFault entries tells = tells
tells_stop T U output NoMemory entries tells = tells

-- more lines behind those that were written
pub tells_more : {T : Type 0} (before middle now : Option (List ℕ)) (a b c : ℕ) (h e : List Entry) (result : Result T Stop)
    → Appends before middle (lines_of h) → b ≡ a
    → Tells (record { before = middle; after = now; faults_before = b; faults_after = c }) result e
    → Tells (record { before = before; after = now; faults_before = a; faults_after = c }) result (h ++ e)
tells_more before middle now a b c h e (Ok done) w quiet tells = (appends_more before middle now (lines_of h) (lines_of e) (lines_of (h ++ e)) (lines_append h e) w tells.0, tells.1 ∙ quiet)
tells_more before middle now a b c h e (Err WriteFault) w quiet (done, last, split, cut) =
    (h ++ done, last, ap (λ x. h ++ x) split ∙ sym (append_assoc h done (last ∷ [])), cut_after before middle now a b c (lines_of h) (lines_of done) (lines_of (h ++ done)) (line_of last) w quiet (lines_append h done) cut)
tells_more before middle now a b c h e (Err NoMemory) w quiet (shown, front, written, still) =
    (h ++ shown, more_shown front, appends_more before middle now (lines_of h) (lines_of shown) (lines_of (h ++ shown)) (lines_append h shown) w written, still ∙ quiet)
  where
    more_shown : IsShown shown e → IsShown (h ++ shown) (h ++ e)
    more_shown (inl same) = inl (ap (λ x. h ++ x) same)
    more_shown (inr (last, split)) = inr (last, ap (λ x. h ++ x) split ∙ sym (append_assoc h shown (last ∷ [])))

-- nothing is told
pub tells_none : (told : Option (List ℕ)) (a : ℕ) → Tells {T = Unit {0}} (record { before = told; after = told; faults_before = a; faults_after = a }) (Err NoMemory) []
tells_none told a = ([], inl refl, appends_none told, refl)

-- a piece of a line was cut short
pub cut_in : (before middle now : Option (List ℕ)) (a b c : ℕ) (front last more all : List ℕ) → Appends before middle front → b ≡ a → front ++ (last ++ more) ≡ all
    → Cut (record { before = middle; after = now; faults_before = b; faults_after = c }) [] last
    → Cut (record { before = before; after = now; faults_before = a; faults_after = c }) [] all
cut_in before middle now a b c front last more all w quiet e cut = record {
  front = front ++ cut.front;
  missing = cut.missing ++ more;
  split = sym e ∙ ap (λ x. front ++ (x ++ more)) cut.split ∙ ap (λ x. front ++ x) (append_assoc cut.front cut.missing more) ∙ sym (append_assoc front cut.front (cut.missing ++ more));
  some = λ none. cut.some (no_front cut.missing more none);
  written = appends_more before middle now front cut.front (front ++ cut.front) refl w cut.written;
  failed = rose_since a b c (omega (arith, quiet)) cut.failed;
}
  where
    no_front : (x y : List ℕ) → x ++ y ≡ [] → x ≡ []
    no_front [] y none = refl
    no_front (n ∷ x) y none = cc

-- the line that tells a bad line of an input
pub bad_line : (number : ℕ) → codes "0 control REFUSED P21 " ++ (decimal number ++ codes "\n") ≡ end_line (BadScript number)
bad_line number = ap (λ zero. zero ++ (codes " " ++ (codes "control" ++ (codes " " ++ reply_text (Refused (refusal.BadScript number)))))) (sym (decimal_digit 0 (omega arith)))
