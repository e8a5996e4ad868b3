-- One event over and over, till the task is done.
use Rattle.std.proofs.Common.{◌≡◌, ◌⊎◌, ℕ, Bool, true, false, List, [], ◌∷◌, ◌++◌, Option, Result, Ok, Err, refl, sym, append-nil, inl, inr}
use Rattle.std.specs.Io.KnownBytes.{Appends}
use Rattle.pg_io.specs.Outside.{Known}
use Rattle.pg_io.specs.Laws.{appends_none}
use Rattle.machine.specs.declared.events.Entry.{Entry}
use Rattle.machine.specs.declared.events.Event.{Event}
use Rattle.machine.specs.declared.events.Reply.{Reply}
use Rattle.machine.specs.Follows.{GoOn, UpTo, path_by}
use Rattle.machine.specs.Step.{LaneStep, Step}
use Rattle.roll_core.specs.Store.{Stored, meaning}
use Rattle.pgroll_top.specs.declared.ending.Stop.{Stop}
use Rattle.pgroll_top.specs.declared.ending.Stop.TheVariants.{NoMemory}
use Rattle.pgroll_top.specs.declared.lanes.Lane.{Lane}
use Rattle.pgroll_top.specs.Work.{line_of, lines_of, numbers}
use Rattle.pgroll_top.specs.Parts.{Advances, Shows, Tells}
use Rattle.pgroll_top.proofs.Following.{go_on_more, up_to_end}
use Rattle.pgroll_top.proofs.Telling.{tells_more, tells_one}
use Rattle.pgroll_top.proofs.Advancing.{advances_more, advances_none, advances_one, entry_of, lane_after}

module _ (what : Event) (goes_on : Reply → Bool) where
  -- How far it has come: each of the entries is this event, its line is written, and the task goes on.
  pub record Repeats (old now : Lane) (output : Known) (entries : List Entry) : Type 0 where
    pub advances : Advances old now entries
    pub go_on : GoOn numbers.control what goes_on entries
    pub written : Appends output.before output.after (lines_of entries)
    pub quiet : output.faults_after ≡ output.faults_before

  -- These entries are all the events of the task, or, where the work stopped, the first of them.
  abbrev pub ComesUpTo : Result (Unit {0}) Stop → List Entry → Type 0
  ComesUpTo (Ok done) entries = UpTo numbers.control what goes_on entries
  ComesUpTo (Err stop) entries = GoOn numbers.control what goes_on entries ⊎ ((mine : List Entry) × (rest : List Entry) × (entries ≡ mine ++ rest) × UpTo numbers.control what goes_on mine × (rest ≡ []))

  abbrev pub Repeated : Lane → Lane → Known → Result (Unit {0}) Stop → Type 0
  Repeated old new output result = (entries : List Entry) × Advances old new entries × Tells output result entries × ComesUpTo result entries

  pub repeats_none : (lane : Lane) (told : Option (List ℕ)) (a : ℕ) → Repeats lane lane (record { before = told; after = told; faults_before = a; faults_after = a }) []
  repeats_none lane told a = record { advances = advances_none lane; go_on = tt; written = appends_none told; quiet = refl }

  module _ (old mid new : Lane) (reply : Reply) (core : Stored) (before middle now : Option (List ℕ)) (a b c : ℕ) (entries : List Entry)
      (so_far : Repeats old mid (record { before = before; after = middle; faults_before = a; faults_after = b }) entries)
      (step : Step (meaning mid.core) what reply (meaning core)) (lane_step : LaneStep (meaning mid.core) what reply (meaning core)) (still : mid.path ≡ path_by mid.path what reply) (is : new ≡ lane_after mid core mid.path reply) where
    abbrev entry : Entry
    entry = entry_of mid numbers.control what reply

    advanced : Advances old new (entries ++ entry ∷ [])
    advanced = advances_more old mid new entries (entry ∷ []) so_far.advances (advances_one mid numbers.control what reply core mid.path new step lane_step still is)

    told : (result : Result (Unit {0}) Stop) → Shows (record { before = middle; after = now; faults_before = b; faults_after = c }) (line_of entry) result
        → Tells (record { before = before; after = now; faults_before = a; faults_after = c }) result (entries ++ entry ∷ [])
    told result shown = tells_more before middle now a b c entries (entry ∷ []) result so_far.written so_far.quiet (tells_one (record { before = middle; after = now; faults_before = b; faults_after = c }) entry result shown)

    -- once more
    pub repeats_more : (done : Unit {0}) → Shows (record { before = middle; after = now; faults_before = b; faults_after = c }) (line_of entry) (Ok done) → goes_on reply ≡ true
        → Repeats old new (record { before = before; after = now; faults_before = a; faults_after = c }) (entries ++ entry ∷ [])
    repeats_more done shown more = record {
      advances = advanced;
      go_on = go_on_more numbers.control what goes_on entries entry so_far.go_on (record { by = refl; event = refl }) more;
      written = (told (Ok done) shown).0;
      quiet = (told (Ok done) shown).1;
    }

    -- the last time
    pub repeated : (done : Unit {0}) → Shows (record { before = middle; after = now; faults_before = b; faults_after = c }) (line_of entry) (Ok done) → goes_on reply ≡ false
        → Repeated old new (record { before = before; after = now; faults_before = a; faults_after = c }) (Ok done)
    repeated done shown none = (entries ++ entry ∷ [], advanced, told (Ok done) shown, up_to_end numbers.control what goes_on entries entry so_far.go_on (record { by = refl; event = refl }) none)

    -- the line wasn't written
    pub repeat_stopped : (stop : Stop) → Shows (record { before = middle; after = now; faults_before = b; faults_after = c }) (line_of entry) (Err stop)
        → Repeated old new (record { before = before; after = now; faults_before = a; faults_after = c }) (Err stop)
    repeat_stopped stop shown = (entries ++ entry ∷ [], advanced, told (Err stop) shown, by_reply (goes_on reply) refl)
      where
        by_reply : (more : Bool) → goes_on reply ≡ more → ComesUpTo (Err stop) (entries ++ entry ∷ [])
        by_reply true e = inl (go_on_more numbers.control what goes_on entries entry so_far.go_on (record { by = refl; event = refl }) e)
        by_reply false e = inr (entries ++ entry ∷ [], [], sym (append-nil (entries ++ entry ∷ [])), up_to_end numbers.control what goes_on entries entry so_far.go_on (record { by = refl; event = refl }) e, refl)

  -- no further event was done, for want of memory
  pub repeat_wanting : (old now : Lane) (output : Known) (entries : List Entry) → Repeats old now output entries → Repeated old now output (Err NoMemory)
  repeat_wanting old now output entries so_far = (entries, so_far.advances, (entries, inl refl, so_far.written, so_far.quiet), inl so_far.go_on)
