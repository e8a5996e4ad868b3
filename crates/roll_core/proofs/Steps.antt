-- The engine's calls are steps of the machine, and leave what an engine stores; so does its beginning.
use Rattle.roll_core.proofs.Words.{Runs, seen, parts, meaning, IsState, OwnTable, map, ℕ, Form, ◌≡◌, ◌∙◌, List, [], ◌∷◌, true, Option, Result, Ok, Err, inl, inr, ap, refl, sym, subst, Each, Stop}
use Rattle.roll_core.proofs.Words.{Because, NoMemory, Event, Reply, State, Nothing, Outcome, after_of, reply_to, wrote_by, StepsKeepLaws, StepsKeepStates, leaves_all, lost_columns_of, LaneStep, Step}
use Rattle.roll_core.proofs.Words.{may_want, outcome_of, Former, Comes, RowsStored, SameForms, meant, reply_of, IsStored, IsStoredTable, Stored, StoredTable, form_in, lost_columns_by, CommandOutcome}
use Rattle.roll_core.proofs.Words.{Done, as_outcome, complete, start, ComesTo, Cmd, Start, command_outcome, event_of, AreKept, Goes, nil_from_length, ◌++◌, None, int_cmp, Value, RunsReachLawful}
use Rattle.roll_core.proofs.Words.{RunsReachStates, beginning, Rows, Own, first_stored, Below, Old, OwnFormer, former_seen, option_map}
use Rattle.roll_core.specs.declared.commands.Cmd.TheVariants.{Complete, Rollback}
use Rattle.roll_core.proofs.Words.{rollback}
use Rattle.roll_core.proofs.Words.finite
use Rattle.roll_core.proofs.Runs.{runs_of}

-- ---- the step

-- An event that is answered so is a step as one lane takes it.
pub lane_step : (event : Event) → may_want event ≡ true → (frame : State) (old new : List StoredTable) (result : Result Reply (Stop Reply))
    → Comes frame old (outcome_of (meant frame old) event) result new → LaneStep (meant frame old) event (reply_of result) (meant frame new)
lane_step event may frame old new (Ok reply) c =
    let s = meant frame old in
    let o = sym c.1 in
    (wrote_by (outcome_of s event), inl (c.2 ∙ ap reply_to o, refl, c.3 ∙ ap (after_of s) o))
lane_step event may frame old new (Err (Because reply)) c =
    let s = meant frame old in
    let o = sym c.0 in
    (wrote_by (outcome_of s event), inl (ap reply_to o, refl, ap (meant frame) c.1 ∙ ap (after_of s) o))
lane_step event may frame old new (Err NoMemory) c = (Nothing, inr (may, (refl, refl, ap (meant frame) c)))

pub said_looks : (frame : State) (old new : List StoredTable) (outcome : Outcome) (result : Result Reply (Stop Reply)) → Comes frame old outcome result new → leaves_all (reply_of result) ≡ true → new ≡ old
said_looks frame old new outcome (Ok reply) c h = c.4 h
said_looks frame old new outcome (Err (Because reply)) c h = c.1
said_looks frame old new outcome (Err NoMemory) c h = c

-- ---- what is stored afterwards

cons_same : {X : Type 0} (x y : X) (xs ys : List X) → ◌≡◌ {A = List X} (x ∷ xs) (y ∷ ys) → (x ≡ y) × (xs ≡ ys)
cons_same x y xs ys e = (cc, cc)

tables_stored : (frame : State) (former : Option Former) (before after old new : List StoredTable) → SameForms old new → Each (IsStoredTable (record { frame = frame; former = former; tables = before })) old → Each RowsStored new
    → Each (IsStoredTable (record { frame = frame; former = former; tables = after })) new
tables_stored frame former before after [] [] s h r = tt
tables_stored frame former before after [] (n ∷ new) s h r = cc
tables_stored frame former before after (o ∷ old) [] s h r = cc
tables_stored frame former before after (o ∷ old) (n ∷ new) s h r =
    let forms = λ (tables : List StoredTable). map {B = ℕ × Form} (λ table. (table.number, table.form)) tables in
    let same = cons_same {X = ℕ × Form} (n.number, n.form) (o.number, o.form) (forms new) (forms old) s in
    let number : n.number ≡ o.number = ap (λ (p : ℕ × Form). p.0) same.0 in
    let form : n.form ≡ o.form = ap (λ (p : ℕ × Form). p.1) same.0 in
    let lost = ap (lost_columns_of frame) number ∙ h.0.lost ∙ ap lost_columns_by (sym form) in
    (record { form = form ∙ h.0.form ∙ ap (form_in former frame) (sym number); lost = lost; rows = r.0 }, tables_stored frame former before after old new same.1 h.1 r.1)

-- After a step that leaves the forms it is what an engine stores.
still_stored : StepsKeepStates → StepsKeepLaws → (frame : State) (former : Option Former) (old new : List StoredTable) (event : Event) (reply : Reply)
    → IsStored (record { frame = frame; former = former; tables = old }) → Step (meant frame old) event reply (meant frame new) → SameForms old new → Each RowsStored new
    → IsStored (record { frame = frame; former = former; tables = new })
still_stored states laws frame former old new event reply is step f r = record {
  once = is.once;
  stands = states (meant frame old) event reply (meant frame new) step is.stands;
  lawful = laws (meant frame old) event reply (meant frame new) step is.stands is.lawful;
  former = is.former;
  tables = tables_stored frame former old new old new f is.tables r;
}

-- ---- calls over tables that were lent

pub runs_lent : Below → (frame : State) (former : Option OwnFormer) (items lent : List OwnTable) → lent ≡ items → IsStored (parts frame former items) → Runs frame (map seen lent)
runs_lent law frame former items lent v is = runs_of law (parts frame former lent) (subst (λ ts. IsStored (parts frame former ts)) (sym v) is)

pub stored_lent : StepsKeepStates → StepsKeepLaws → (frame : State) (former : Option OwnFormer) (items lent new back : List OwnTable) → lent ≡ items → back ≡ new → IsStored (parts frame former items) → (event : Event) (reply : Reply)
    → (IsState (meant frame (map seen lent)) → Step (meant frame (map seen lent)) event reply (meant frame (map seen new))) → SameForms (map seen lent) (map seen new) → Each RowsStored (map seen new) → IsStored (parts frame former back)
stored_lent states laws frame former items lent new back v b is event reply step f r =
    let was = subst (λ ts. IsStored (parts frame former ts)) (sym v) is in
    subst (λ ts. IsStored (parts frame former ts)) (sym b) (still_stored states laws frame (option_map former_seen former) (map seen lent) (map seen new) event reply was (step was.stands) f r)

pub step_lent : (R : State → Reply → State → Type 0) (frame : State) (former : Option OwnFormer) (items lent new back : List OwnTable) (stored : Stored) (reply told : Reply) → lent ≡ items → back ≡ new → parts frame former items ≡ stored → told ≡ reply
    → R (meant frame (map seen lent)) reply (meant frame (map seen new)) → R (meaning stored) told (meaning (parts frame former back))
step_lent R frame former items lent new back stored reply told v b is t h =
    let means = λ (ts : List OwnTable). meaning (parts frame former ts) in
    subst (R (meaning stored) told) (ap means (sym b)) (subst (λ s. R s told (means new)) (ap means v ∙ ap meaning is) (subst (λ r. R (means lent) r (means new)) (sym t) h))

pub same_lent : (frame : State) (former : Option OwnFormer) (items lent new back : List OwnTable) (stored : Stored) → lent ≡ items → back ≡ new → parts frame former items ≡ stored → map seen new ≡ map seen lent → parts frame former back ≡ stored
same_lent frame former items lent new back stored v b is same = ap (parts frame former) b ∙ ap (λ ts. record { frame = frame; former = option_map former_seen former; tables = ts }) same ∙ ap (parts frame former) v ∙ is

-- ---- steps

accepted : (s t : State) (outcome : CommandOutcome) (reply : Reply) (done : Done) → outcome ≡ Ok done → reply ≡ done.reply → t ≡ done.after → ComesTo s (as_outcome outcome) reply done.wrote t
accepted s t outcome reply done is r a = subst (λ o. ComesTo s (as_outcome o) reply done.wrote t) (sym is) (r, refl, a)

pub done_step : (old new : Stored) (cmd : Cmd) (reply : Reply) → Goes old (command_outcome (meaning old) cmd) (Ok reply) new → Step (meaning old) (event_of cmd) reply (meaning new)
done_step old new (Start asked) reply g = (g.0.wrote, inl (accepted (meaning old) (meaning new) (start (meaning old) asked) reply g.0 g.1 g.2 g.3))
done_step old new Complete reply g = (g.0.wrote, inl (accepted (meaning old) (meaning new) (complete (meaning old)) reply g.0 g.1 g.2 g.3))
done_step old new Rollback reply g = (g.0.wrote, inl (accepted (meaning old) (meaning new) (rollback (meaning old)) reply g.0 g.1 g.2 g.3))

-- ---- what an engine stores

pub record CommandsKeep : Type 0 where
  pub states : StepsKeepStates
  pub laws : StepsKeepLaws

pub whole : CommandsKeep → (old new : Stored) (cmd : Cmd) (reply : Reply) → IsStored old → AreKept new → Step (meaning old) (event_of cmd) reply (meaning new) → IsStored new
whole law old new cmd reply stored kept step = record {
  once = kept.once;
  stands = law.states (meaning old) (event_of cmd) reply (meaning new) step stored.stands;
  lawful = law.laws (meaning old) (event_of cmd) reply (meaning new) step stored.stands stored.lawful;
  former = kept.former;
  tables = kept.tables;
}

no_rows : (rows : Rows) → rows ≡ finite.empty → finite.entries rows ≡ []
no_rows rows e = ap finite.entries e ∙ nil_from_length (finite.entries {X = List Value} {R = int_cmp} finite.empty) (sym (finite.len-entries finite.empty) ∙ finite.len-empty int_cmp (List Value))

first_seen : (table : OwnTable) → table.number ≡ 1 → table.form ≡ Own Old → table.rows.rows ≡ finite.empty → ◌≡◌ {A = StoredTable} (seen table) (record { number = 1; form = Own Old; rows = [] })
first_seen table n f r = rw (n, f, no_rows table.rows.rows r) refl

pub first_is : (frame s : State) (items before : List OwnTable) (table : OwnTable) → s ≡ beginning → frame ≡ record s { tables = [] } → before ≡ [] → items ≡ before ++ (table ∷ []) → table.number ≡ 1 → table.form ≡ Own Old → table.rows.rows ≡ finite.empty → parts frame None items ≡ first_stored
first_is frame s items before table b f e i n w r =
    let is : frame ≡ record beginning { tables = [] } = f ∙ ap (λ (s : State). record s { tables = [] }) b in
    let all : items ≡ table ∷ [] = i ∙ ap (λ (ts : List OwnTable). ts ++ (table ∷ [])) e in
    ap (λ (fr : State). parts fr None items) is ∙ ap (parts (record beginning { tables = [] }) None) all
    ∙ ap (λ (t : StoredTable). record { frame = record beginning { tables = [] }; former = None; tables = t ∷ [] }) (first_seen table n w r)

pub first_stands : RunsReachStates → RunsReachLawful → IsStored first_stored
first_stands states laws =
    record {
      once = refl;
      stands = states 1 [] beginning refl;
      lawful = laws 1 [] beginning refl;
      former = refl;
      tables = (record { form = refl; lost = refl; rows = tt }, tt);
    }
