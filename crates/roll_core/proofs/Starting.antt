-- START leaves stored rows that mean what the machine leaves.
use Rattle.roll_core.proofs.Words.{begun_parts, ◌≡◌, ◌∙◌, ◌<◌, ◌++◌, ◌||◌, ℕ, List, [], ◌∷◌, Bool, true, false, Option, Some, None, Result, Ok, Err, inl, inr, map, ap, refl, sym, subst, if◌then◌else◌, AllByRecursion}
use Rattle.roll_core.proofs.Words.{arith, Each, is_some, list_any, map-append, map-id, map-map, nat_eq, nat_tests, option_map, option_map_or, option_or, row_fits, slice_get, and_then_ok, either_none, and_then, Value}
use Rattle.roll_core.proofs.Words.{Fate, Lens, Refusal, Migration, Plan, Table, has_mark, table_numbered, Kept, Stop, Because, NoMemory, Answers, guarded, without, shape_of, begun_row, Calm, Both, State}
use Rattle.roll_core.proofs.Words.{CommandOutcome, Done, Started, active_name, already, created_in, created_table, created_tables, machine_begun, may_not_start, numbers_of, planned, start_planned, start_read, started}
use Rattle.roll_core.proofs.Words.{taken, too_heavy, unfinished, HalfStands, IsState, NewerStands, NumbersAscend, RowsStand, StepsStand, is_known, may_lose, Shared, lens_among, table_on, New, Old, Pair}
use Rattle.roll_core.proofs.Words.{BeginningLeaves, BegunRowsHold, IsPair, IsBegunRow, IsPairedRow, new_half, new_view, Form, Own, Paired, Former, meaning, meant, AreKept, AreRun, Goes, begun_form}
use Rattle.roll_core.proofs.Words.{begun_frame, begun_table, shared_by, startable, stepped_row, HasFormer, IsStoredRow, IsStoredTable, StoredRow, Stored, StoredTable, form_in, kept, lost_columns_by}
use Rattle.roll_core.proofs.Words.{over_pair, pair_over, table_meant, Below}
use Rattle.roll_core.proofs.Words.{◌≤◌, ◌+◌, length, ok_same}
use Rattle.roll_core.proofs.Words.kind
use Rattle.roll_core.proofs.Words.reply_of
use Rattle.machine.specs.Migrate.{unplanned}
use Rattle.mig_lens.specs.declared.faults.PlanFault.{PlanFault}
use Rattle.mig_plan.specs.Plan.{plan_of}
use Rattle.trigger_pair.specs.Stored.{begun}
use Rattle.roll_core.proofs.Outcomes.{err_by, guarded_ok, left_of, without_ok}
use Rattle.roll_core.proofs.Stepped.{StepsTo, rows_next, no_form}
use Rattle.roll_core.proofs.Tables.{all_at, each_all, each_joined, each_mapped, each_of, each_place, got_mapped, none_lost, rest_ascends, rows_of-read, side_among}
use Rattle.roll_core.proofs.Runs.{both_pair, calm_none, shared_of}

-- ---- one row

row_begun : BegunRowsHold → (both : Shared) (row : StoredRow) → IsPair (pair_over both) → row_fits (shape_of both.old) row.1 ≡ true → kept (Paired (pair_over both)) (stepped_row (Paired (pair_over both)) row) ≡ begun_row both.lens (kept (Own Old) row)
row_begun law both row is fit =
    let pair = pair_over both in
    let stored = begun pair row.1 in
    let holds = law pair row.1 is fit in
    let f : List Value → Kept = λ old. record { key = row.0; halves = record { old = Some old; new = new_half pair stored }; lost = 0 } in
    let g : Bool → Kept = λ b. record { key = row.0; halves = record { old = Some row.1; new = if b then None else Some (new_view pair stored) }; lost = 0 } in
    let k : List Value → Kept = λ new. record { key = row.0; halves = record { old = Some row.1; new = if has_mark both.lens then None else Some new }; lost = 0 } in
    ap f holds.old_shown ∙ ap g holds.mark ∙ ap k holds.new_shown

row_is_stored : BeginningLeaves → (pair : Pair) (values : List Value) → IsPair pair → row_fits pair.old values ≡ true → IsPairedRow pair (begun pair values)
row_is_stored law pair values is fit =
    elim pair.layout.mark as (λ mark. IsBegunRow mark pair (begun pair values) → IsPairedRow pair (begun pair values)) [ true ↦ λ u. inr u | false ↦ λ f. inl f ] (law pair values is fit)

-- ---- the rows of a table

row_begins : Below → (both : Shared) (row : StoredRow) → IsPair (pair_over both) → row_fits (shape_of both.old) row.1 ≡ true
    → StepsTo (Paired (pair_over both)) (Paired (pair_over both)) (λ row. begun_row both.lens (kept (Own Old) row)) row
row_begins law both row is fit = (row_begun law.begun both row is fit, row_is_stored law.paired (pair_over both) row.1 is fit)

rows_begin : Below → (s : State) (number : ℕ) (both : Shared) (rows : List StoredRow) → IsPair (pair_over both) → table_on s Old number ≡ Some both.old → RowsStand s number (map (kept (Own Old)) rows)
    → Each (StepsTo (Paired (pair_over both)) (Paired (pair_over both)) (λ row. begun_row both.lens (kept (Own Old) row))) rows
rows_begin law s number both [] is on h = tt
rows_begin law s number both (row ∷ rows) is on h =
    let half : HalfStands (Some both.old) row.0 (Some row.1) = subst (λ table. HalfStands table row.0 (Some row.1)) on h.0.old in
    (row_begins law both row is half.0, rows_begin law s number both rows is on h.1)

-- ---- a table

-- What holds of the tables when START is accepted.
pub record Begins (frame : State) (plan : Plan) : Type 0 where
  pub lenses : (number : ℕ) → option_map (λ both. both.lens) (shared_by frame plan number) ≡ lens_among plan.fates number
  pub pairs : (number : ℕ) (both : Shared) → shared_by frame plan number ≡ Some both → IsPair (pair_over both)
  pub olds : (number : ℕ) (both : Shared) → shared_by frame plan number ≡ Some both → table_on frame Old number ≡ Some both.old
  pub nothing_lost : frame.lost_columns ≡ []

-- A table that stands in the form of one version.
record IsBegun (frame : State) (plan : Plan) (table : StoredTable) : Type 0 where
  means : table_meant (begun_table frame plan table) ≡ machine_begun plan.fates (table.number, map (kept (Own Old)) table.rows)
  rows : AllByRecursion (λ row. IsStoredRow (begun_form frame plan table.number) row.1) (begun_table frame plan table).rows
  lost : lost_columns_by (begun_form frame plan table.number) ≡ 0

is_begun : Below → (frame : State) (all : List StoredTable) (plan : Plan) (table : StoredTable) → Begins frame plan → RowsStand (meant frame all) table.number (map (kept (Own Old)) table.rows) → IsBegun frame plan table
is_begun law frame all plan table b stand =
    let number = table.number in
    let meant_by = λ (lens : Option Lens). option_map_or {U = ℕ × List Kept} (λ lens. (number, map (begun_row lens) (map (kept (Own Old)) table.rows))) lens (number, map (kept (Own Old)) table.rows) in
    let table_by : Form → StoredTable = λ form. record { number = number; form = form; rows = map (stepped_row form) table.rows } in
    let lens_of : Option Shared → Option Lens = option_map (λ both. both.lens) in
    elim (shared_by frame plan number) as (λ both. shared_by frame plan number ≡ both → IsBegun frame plan table) [
      | None ↦ λ e.
          let form : begun_form frame plan number ≡ Own Old = ap (over_pair Paired Old) e in
          let lens : lens_among plan.fates number ≡ None = sym (b.lenses number) ∙ ap lens_of e in
          let next = rows_next (Own Old) (Own Old) (kept (Own Old)) table.rows (each_all (λ row. (refl, tt)) table.rows) in
          record {
            means = ap (λ form. table_meant (table_by form)) form ∙ ap (λ (rows : List Kept). (number, rows)) next.0 ∙ ap meant_by (sym lens);
            rows = subst (λ form. AllByRecursion (λ row. IsStoredRow form row.1) (map (stepped_row form) table.rows)) (sym form) next.1;
            lost = ap lost_columns_by form;
          }
      | Some both ↦ λ e.
          let form : begun_form frame plan number ≡ Paired (pair_over both) = ap (over_pair Paired Old) e in
          let lens : lens_among plan.fates number ≡ Some both.lens = sym (b.lenses number) ∙ ap lens_of e in
          let next = rows_next (Paired (pair_over both)) (Paired (pair_over both)) (λ row. begun_row both.lens (kept (Own Old) row)) table.rows (rows_begin law (meant frame all) number both table.rows (b.pairs number both e) (b.olds number both e) stand) in
          record {
            means = ap (λ form. table_meant (table_by form)) form ∙ ap (λ (rows : List Kept). (number, rows)) (next.0 ∙ sym (map-map (begun_row both.lens) (kept (Own Old)) table.rows)) ∙ ap meant_by (sym lens);
            rows = subst (λ form. AllByRecursion (λ row. IsStoredRow form row.1) (map (stepped_row form) table.rows)) (sym form) next.1;
            lost = ap lost_columns_by form;
          }
    ] refl

-- ---- all tables

-- Each is stored as its version has it, which has it, and its rows stand.
record IsOwn (frame : State) (all : List StoredTable) (table : StoredTable) : Type 0 where
  form : table.form ≡ Own Old
  there : is_some (table_on frame Old table.number) ≡ true
  rows : RowsStand (meant frame all) table.number (map (kept (Own Old)) table.rows)

own_at : Below → (frame : State) (former : Option Former) (all : List StoredTable) → frame.mode ≡ Calm → frame.kind ≡ kind.Nothing → IsState (meant frame all)
    → (at : ℕ) (table : StoredTable) → slice_get all at ≡ Some table → IsStoredTable (record { frame = frame; former = former; tables = all }) table → IsOwn frame all table
own_at law frame former all m none stands at table e t =
    let s = meant frame all in
    let form : table.form ≡ Own Old = t.form ∙ no_form former frame table.number m none in
    let known = all_at (λ (table : ℕ × List Kept). is_known s table.0 ≡ true) s.tables at (table_meant table) (law.known s stands) (got_mapped table_meant all at table e) in
    let read = rows_of-read law frame all at table.number table stands (record { here = e; numbered = refl }) in
    record {
      form = form;
      there = left_of (is_some (table_on frame Old table.number)) (is_some (table_on frame New table.number)) known (ap is_some (calm_none frame table.number m));
      rows = subst (λ form. RowsStand s table.number (map (kept form) table.rows)) form (subst (RowsStand s table.number) read (law.rows s table.number stands).1);
    }

tables_mean : Below → (frame : State) (all : List StoredTable) (plan : Plan) → Begins frame plan → (tables : List StoredTable) → Each (IsOwn frame all) tables → map table_meant (map (begun_table frame plan) tables) ≡ map (machine_begun plan.fates) (map table_meant tables)
tables_mean law frame all plan b [] h = refl
tables_mean law frame all plan b (table ∷ tables) h =
    let here = (is_begun law frame all plan table b h.0.rows).means ∙ ap (λ form. machine_begun plan.fates (table.number, map (kept form) table.rows)) (sym h.0.form) in
    ap (λ (t : ℕ × List Kept). t ∷ map table_meant (map (begun_table frame plan) tables)) here ∙ ap (λ (ts : List (ℕ × List Kept)). machine_begun plan.fates (table_meant table) ∷ ts) (tables_mean law frame all plan b tables h.1)

-- The form of a table that the old version has, once the plan is begun.
is_form : (frame : State) (former : Option Former) (name : List ℕ) (plan : Plan) (number : ℕ) → is_some (table_on frame Old number) ≡ true → begun_form frame plan number ≡ form_in former (begun_frame frame name plan) number
is_form frame former name plan number there = ap (λ has. over_pair Paired (if has then Old else New) (shared_by frame plan number)) (sym there)

tables_stored : Below → (frame : State) (name : List ℕ) (former : Option Former) (all : List StoredTable) (plan : Plan) (new : List StoredTable) → Begins frame plan → (tables : List StoredTable) → Each (IsOwn frame all) tables
    → Each (IsStoredTable (record { frame = begun_frame frame name plan; former = former; tables = new })) (map (begun_table frame plan) tables)
tables_stored law frame name former all plan new b tables h = each_mapped (begun_table frame plan) _ (λ (table : StoredTable) own.
    let is = is_begun law frame all plan table b own.rows in record { form = is_form frame former name plan table.number own.there; lost = none_lost frame table.number b.nothing_lost ∙ sym is.lost; rows = is.rows }) tables h

-- ---- tables that are created

-- The created ones have greater numbers than those that stand.
above : (number : ℕ) (numbers : List ℕ) → NumbersAscend (number ∷ numbers) → Each (λ other. number < other) numbers
above number [] h = tt
above number (next ∷ numbers) h = let less = h.0 in (less, each_of (λ other (more : next < other). omega (arith, less, more)) numbers (above next numbers h.1))

right_each : (P : ℕ → Type 0) (xs ys : List ℕ) → Each P (xs ++ ys) → Each P ys
right_each P [] ys h = h
right_each P (x ∷ xs) ys h = right_each P xs ys h.1

each_two : {P Q R : ℕ → Type 0} → ((n : ℕ) → P n → Q n → R n) → (ns : List ℕ) → Each P ns → Each Q ns → Each R ns
each_two h [] p q = tt
each_two h (n ∷ ns) p q = (h n p.0 q.0, each_two h ns p.1 q.1)

apart : (standing created : List ℕ) → NumbersAscend (standing ++ created) → Each (λ number. list_any (nat_eq number) standing ≡ false) created
apart [] created h = each_all (λ number. refl) created
apart (first ∷ standing) created h =
    let rest = apart standing created (rest_ascends first (standing ++ created) h) in
    let greater = right_each (λ other. first < other) standing created (above first (standing ++ created) h) in
    each_two (λ number (less : first < number) (none : list_any (nat_eq number) standing ≡ false). let differ : nat_eq number first ≡ false = grind (arith, nat_tests) in ap (λ b. b || list_any (nat_eq number) standing) differ ∙ none) created greater rest

begun_numbers : (fates : List (ℕ × Fate)) (tables : List (ℕ × List Kept)) → map {B = ℕ} (λ table. table.0) (map (machine_begun fates) tables) ≡ map {B = ℕ} (λ table. table.0) tables
begun_numbers fates [] = refl
begun_numbers fates (table ∷ tables) =
    let same = elim (lens_among fates table.0) as (λ lens. (option_map_or {U = ℕ × List Kept} (λ lens. (table.0, map (begun_row lens) table.1)) lens table).0 ≡ table.0) [ None ↦ refl | Some lens ↦ refl ] in
    ap (λ (number : ℕ). number ∷ map {B = ℕ} (λ table. table.0) (map (machine_begun fates) tables)) same ∙ ap (λ (numbers : List ℕ). table.0 ∷ numbers) (begun_numbers fates tables)

started_numbers : (s : State) (name : List ℕ) (plan : Plan) → numbers_of (started s name plan) ≡ numbers_of s ++ created_in plan.fates
started_numbers s name plan =
    let number : ℕ × List Kept → ℕ = λ table. table.0 in
    map-append number (map (machine_begun plan.fates) s.tables) (created_tables plan.fates)
    ∙ ap (λ numbers. numbers ++ map number (created_tables plan.fates)) (begun_numbers plan.fates s.tables)
    ∙ ap (λ numbers. numbers_of s ++ numbers) (map-map number (λ (n : ℕ). (n, [])) (created_in plan.fates) ∙ map-id (created_in plan.fates))

-- The old version has none of them.
not_old : (s : State) (number : ℕ) → IsState s → list_any (nat_eq number) (numbers_of s) ≡ false → table_on s Old number ≡ None
not_old s number stands none =
    elim (table_on s Old number) as (λ table. table_on s Old number ≡ table → table ≡ None)
    [ None ↦ λ e. refl | Some table ↦ λ e. let some = side_among s stands Old number table e in let no : false ≡ true = sym none ∙ some in cc ] refl

created_apart : (s : State) (name : List ℕ) (plan : Plan) → IsState s → IsState (started s name plan) → Each (λ number. table_on s Old number ≡ None) (created_in plan.fates)
created_apart s name plan stands begun =
    each_of (λ number none. not_old s number stands none) (created_in plan.fates) (apart (numbers_of s) (created_in plan.fates) (subst NumbersAscend (started_numbers s name plan) begun.numbers))

created_stored : (frame : State) (name : List ℕ) (former : Option Former) (plan : Plan) (new : List StoredTable) → frame.lost_columns ≡ [] → (numbers : List ℕ) → Each (λ number. table_on frame Old number ≡ None) numbers
    → Each (IsStoredTable (record { frame = begun_frame frame name plan; former = former; tables = new })) (map created_table numbers)
created_stored frame name former plan new l numbers h = each_mapped created_table _ (λ (number : ℕ) none.
    record { form = sym (ap (λ (old : Option Table). over_pair Paired (if is_some old then Old else New) (shared_of (lens_among plan.fates number) (table_numbered plan.schema number) old)) none); lost = none_lost frame number l; rows = tt }) numbers h

-- ---- START

is_calm : (s : State) (m : Migration) → may_not_start s m ≡ None → s.mode ≡ Calm
is_calm s m h =
    let steps = either_none (unfinished s.kind) (option_or (already (active_name s.mode)) (taken s.version m.name)) h in
    elim s.mode as (λ mode. already (active_name mode) ≡ None → mode ≡ Calm) [ Calm ↦ λ h. refl | Both name schema fates ↦ λ h. cc ]
    (either_none (already (active_name s.mode)) (taken s.version m.name) steps.1).0

-- The numbers of the created tables fit 32 bits.
planned_by : (found : Result Plan PlanFault) (plan : Plan) → ◌≡◌ {A = Result Plan Refusal} (elim found [ Ok plan ↦ Ok plan | Err fault ↦ Err (unplanned fault) ]) (Ok plan) → found ≡ Ok plan
planned_by (Ok found) plan h = ap Ok (ok_same found plan h)
planned_by (Err fault) plan h = cc

pub numbers_fit : Below → (s : State) (m : Migration) (plan : Plan) → s.next_table ≤ 4294967295 → planned s m ≡ Ok plan → s.next_table + length (created_in plan.fates) ≤ 4294967295
numbers_fit law s m plan small h = law.fit s.schema s.next_table m plan small (planned_by (plan_of s.schema s.next_table m) plan h)

-- What START leaves.
pub record IsStarted (frame : State) (former : Option Former) (tables : List StoredTable) (name : List ℕ) (plan : Plan) : Type 0 where
  pub means : meaning (begun_parts name plan (record { frame = frame; former = former; tables = tables })) ≡ started (meant frame tables) name plan
  pub kept : AreKept (begun_parts name plan (record { frame = frame; former = former; tables = tables }))

begins : Below → (frame : State) (tables : List StoredTable) (name : List ℕ) (plan : Plan) → frame.lost_columns ≡ [] → IsState (started (meant frame tables) name plan) → Begins frame plan
begins law frame tables name plan l begun =
    let t = started (meant frame tables) name plan in
    record {
      lenses = λ number. law.lenses t name plan.schema plan.fates number begun refl;
      pairs = λ number both e. both_pair law t number both begun e;
      olds = λ number both e. (law.shared t number both begun e).old;
      nothing_lost = l;
    }

started_means : Below → (frame : State) (tables : List StoredTable) (name : List ℕ) (plan : Plan) → Begins frame plan → Each (IsOwn frame tables) tables
    → map table_meant (map (begun_table frame plan) tables ++ map created_table (created_in plan.fates)) ≡ map (machine_begun plan.fates) (map table_meant tables) ++ created_tables plan.fates
started_means law frame tables name plan b own =
    map-append table_meant (map (begun_table frame plan) tables) (map created_table (created_in plan.fates))
    ∙ ap (λ (ts : List (ℕ × List Kept)). ts ++ map table_meant (map created_table (created_in plan.fates))) (tables_mean law frame tables plan b tables own)
    ∙ ap (λ (ts : List (ℕ × List Kept)). map (machine_begun plan.fates) (map table_meant tables) ++ ts) (map-map table_meant created_table (created_in plan.fates))

pub is_started : Below → (frame : State) (former : Option Former) (tables : List StoredTable) (m : Migration) (plan : Plan) → IsState (meant frame tables) → AreKept (record { frame = frame; former = former; tables = tables })
    → may_not_start (meant frame tables) m ≡ None → planned (meant frame tables) m ≡ Ok plan → IsStarted frame former tables m.name plan
is_started law frame former tables m plan stands k may is =
    let s = meant frame tables in
    let begun = law.starts s m plan stands may is in
    let newer : NewerStands (started s m.name plan) m.name plan.schema plan.fates = begun.mode in
    let left : frame.left ≡ 0 = subst (λ by. StepsStand by s.left) newer.no_steps stands.steps in
    let none = stands.lost (ap (λ by. may_lose by s.left) newer.no_steps) in
    let b = begins law frame tables m.name plan none.columns begun in
    let had = elim former as (λ former. HasFormer frame former → HasFormer (begun_frame frame m.name plan) former) [ None ↦ λ h. h | Some former ↦ λ h. let more = h.0 in absurd (omega (arith, more, left)) ] k.former in
    let own = each_place (IsOwn frame tables) tables (λ at table e. own_at law frame former tables (is_calm s m may) newer.no_steps stands at table e (all_at (IsStoredTable (record { frame = frame; former = former; tables = tables })) tables at table k.tables e)) in
    let new = map (begun_table frame plan) tables ++ map created_table (created_in plan.fates) in
    record {
      means = ap (λ (ts : List (ℕ × List Kept)). record (begun_frame frame m.name plan) { tables = ts }) (started_means law frame tables m.name plan b own);
      kept = record {
        once = k.once;
        former = had;
        tables = each_joined (IsStoredTable (begun_parts m.name plan (record { frame = frame; former = former; tables = tables }))) (map (begun_table frame plan) tables) (map created_table (created_in plan.fates)) (tables_stored law frame m.name former tables plan new b tables own)
            (created_stored frame m.name former plan new none.columns (created_in plan.fates) (created_apart s m.name plan stands begun));
      };
    }

-- ---- the whole

pub startable_ok : (s : State) (m : Migration) (plan : Plan) → startable s m ≡ Ok plan → (may_not_start s m ≡ None) × (planned s m ≡ Ok plan) × (too_heavy s plan ≡ None)
startable_ok s m plan h =
    let may = guarded_ok (may_not_start s m) (and_then (planned s m) (λ plan. without (too_heavy s plan) plan)) plan h in
    let made = and_then_ok (planned s m) (λ plan. without (too_heavy s plan) plan) plan may.1 in
    let light = without_ok (too_heavy s made.0) made.0 plan made.2 in
    (may.0, made.1 ∙ ap Ok light.1, subst (λ plan. too_heavy s plan ≡ None) light.1 light.0)

abbrev began : State → Migration → Plan → Done
began s m plan = record { reply = reply_of.Start m.name; after = started s m.name plan; wrote = Started m }

pub start_refused : (s : State) (m : Migration) (refusal : Refusal) → startable s m ≡ Err refusal → start_read s m ≡ Err refusal
start_refused s m refusal h =
    elim (may_not_start s m) as (λ may. guarded may (and_then (planned s m) (λ plan. without (too_heavy s plan) plan)) ≡ Err refusal → guarded may (and_then (planned s m) (start_planned s m)) ≡ Err refusal)
    [ None ↦ λ h. err_by (planned s m) (too_heavy s) (began s m) refusal h | Some fault ↦ λ h. cc ] h

-- A refusal leaves all as it was stored.
pub stops : (stored : Stored) (outcome : CommandOutcome) (wanted : Result Plan Refusal) (stop : Stop Refusal) → Answers wanted (Err stop) → ((refusal : Refusal) → wanted ≡ Err refusal → outcome ≡ Err refusal) → Goes stored outcome (Err stop) stored
stops stored outcome wanted (Because refusal) h so = (so refusal h, refl)
stops stored outcome wanted NoMemory h so = refl

-- An accepted START goes as the machine's does, and keeps what an engine's parts are, whatever is kept of a version that is gone.
pub starts : Below → (frame : State) (former : Option Former) (tables : List StoredTable) (m : Migration) (plan : Plan) → AreRun frame tables → startable (meant frame tables) m ≡ Ok plan
    → Goes (record { frame = frame; former = former; tables = tables }) (start_read (meant frame tables) m) (Ok (reply_of.Start m.name)) (begun_parts m.name plan (record { frame = frame; former = former; tables = tables }))
    × (AreKept (record { frame = frame; former = former; tables = tables }) → AreKept (begun_parts m.name plan (record { frame = frame; former = former; tables = tables })))
starts law frame former tables m plan run by =
    let s = meant frame tables in
    let may = startable_ok s m plan by in
    let kept : AreKept (record { frame = frame; former = run.0; tables = tables }) = record { once = run.1.once; former = run.1.former; tables = run.1.tables } in
    ((began s m plan, rw (may.0, may.1, may.2) refl, refl, (is_started law frame run.0 tables m plan run.1.stands kept may.0 may.1).means), λ k. (is_started law frame former tables m plan run.1.stands k may.0 may.1).kept)
