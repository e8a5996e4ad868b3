-- Statements lead from a state that stands to one.
use Rattle.std.proofs.Common.{◌≡◌, ℕ, ◌≤◌, List, false, Some, None, Result, Ok, refl, sym, subst, nat_lt, arith, option_map, if◌then◌else◌}
use Rattle.std.specs.Option.{ok_or}
use Rattle.std.proofs.lemmas.Bool.Decides.{nat_tests}
use Rattle.sql_base.specs.Laws.{and_then_ok, either_none, ok_same}
use Rattle.row_rules.specs.Causes.{max_reply, row_error}
use Rattle.row_rules.specs.Changes.{changes, refused_together}
use Rattle.row_rules.specs.Settle.{delete_job, insert_job, query_error, update_job}
use Rattle.row_rules.specs.Show.{rows_shown}
use Rattle.row_rules.specs.Site.{Site, number_of, shape_of}
use Rattle.machine.specs.declared.events.Reading.{Reading}
use Rattle.machine.specs.Done.{answered}
use Rattle.machine.specs.Sites.{JobStands, TableStands}
use Rattle.machine.specs.Standing.{IsState}
use Rattle.machine.specs.State.{Found, row_count, rows_of, site_of, table_of, with_rows}
use Rattle.machine.specs.Statement.{Begun, Writes, Shows, Sets, begun, changed, error_reply, finished, long_insert, max_rows, no_table, on_table, refused_all, rows_after, settled, too_many, too_many_rows, writes, written}
use Rattle.machine.specs.Step.{line_outcome}
use Rattle.machine.specs.Words.{Cause, Deep, DeleteFrom, InsertInto, Job, Query, Read, Reply, Select, SetPath, SqlError, State, Stmt, Syntax, TooLong, UpdateOf, Wide, guarded, map_fault}
use Rattle.machine.proofs.Accepting.{guarded_ok, if_none, map_fault_ok, ok_or_ok}
use Rattle.machine.specs.Below.{Below}
use Rattle.machine.proofs.Changing.{changed_stands, rows_on_site}
use Rattle.machine.proofs.Outcomes.{Holds, Stands, holds_guarded, holds_then}
use Rattle.machine.proofs.Pairs.{found_stands}
use Rattle.machine.proofs.SettledJobs.{delete_stands, insert_stands, update_stands}

-- ---- the begin of a statement

-- The site is that of a table that stands.
pub record OfFound (s : State) (site : Site) : Type 0 where
  pub found : Found
  pub stands : TableStands s found
  pub is : site ≡ site_of s found

-- What was begun on a table of a state that stands.
abbrev pub BegunStands : State → Begun → Type 0
BegunStands s (Writes site what) = OfFound s site × JobStands (shape_of site.here) what
BegunStands s (Shows site items condition) = OfFound s site
BegunStands s Sets = Unit {0}

on_table_stands : (s : State) (path : List (List ℕ)) (name : List ℕ) (next : Site → Result Begun Reply) (b : Begun) → IsState s → on_table s path name next ≡ Ok b → ((found : Found) → TableStands s found → next (site_of s found) ≡ Ok b → BegunStands s b) → BegunStands s b
on_table_stands s path name next b stands h more =
    let step = and_then_ok (ok_or (table_of s path name) (no_table name)) (λ found. next (site_of s found)) b h in
    more step.0 (found_stands s path name step.0 stands (ok_or_ok (table_of s path name) (no_table name) step.0 step.1)) step.2

writes_stand : (s : State) (found : Found) (r : Result Job SqlError) (b : Begun) → TableStands s found → ((what : Job) → r ≡ Ok what → JobStands (shape_of found.table) what) → writes (site_of s found) r ≡ Ok b → BegunStands s b
writes_stand s found r b f j h =
    let step = and_then_ok (map_fault error_reply r) (λ what. Ok (Writes (site_of s found) what)) b h in
    subst (BegunStands s) (ok_same (Writes (site_of s found) step.0) b step.2) (record { found = found; stands = f; is = refl }, j step.0 (map_fault_ok error_reply r step.0 step.1))

pub begun_stands : Below → (s : State) (path : List (List ℕ)) (stmt : Stmt) (b : Begun) → IsState s → begun s path stmt ≡ Ok b → BegunStands s b
begun_stands below s path (InsertInto name names rows) b stands h =
    let next : Site → Result Begun Reply = λ site. writes site (insert_job site.here names rows) in
    let looked = guarded_ok (long_insert rows) (on_table s path name next) b h in
    on_table_stands s path name next b stands looked.1
    (λ found f e. writes_stand s found (insert_job found.table names rows) b f (λ what. insert_stands below.typed found.table names rows what f.well_formed) e)
begun_stands below s path (UpdateOf name sets condition) b stands h =
    on_table_stands s path name (λ site. writes site (update_job (shape_of site.here) sets condition)) b stands h
    (λ found f e. writes_stand s found (update_job (shape_of found.table) sets condition) b f (update_stands (shape_of found.table) sets condition) e)
begun_stands below s path (DeleteFrom name condition) b stands h =
    on_table_stands s path name (λ site. writes site (delete_job (shape_of site.here) condition)) b stands h
    (λ found f e. writes_stand s found (delete_job (shape_of found.table) condition) b f (delete_stands (shape_of found.table) condition) e)
begun_stands below s path (Query name items condition) b stands h =
    let next : Site → Result Begun Reply = λ site. guarded (option_map error_reply (query_error (shape_of site.here) items condition)) (Ok (Shows site items condition)) in
    on_table_stands s path name next b stands h
    (λ found f e. subst (BegunStands s) (ok_same (Shows (site_of s found) items condition) b (guarded_ok (option_map error_reply (query_error (shape_of found.table) items condition)) (Ok (Shows (site_of s found) items condition)) b e).1) (record { found = found; stands = f; is = refl }))
begun_stands below s path (SetPath names) b stands h = subst (BegunStands s) (ok_same Sets b h) tt

-- ---- its end

few_enough : (count : ℕ) → (if nat_lt max_rows count then Some too_many_rows else None) ≡ None → count ≤ max_rows
few_enough count h = let test : nat_lt max_rows count ≡ false = if_none (nat_lt max_rows count) too_many_rows h in grind (arith, nat_tests)

found_written : Below → (s : State) (what : Job) (found : Found) → IsState s → TableStands s found → JobStands (shape_of found.table) what → Holds Stands (written s (site_of s found) what)
found_written below s what found stands f j =
    let site = site_of s found in
    let rows = rows_of s (number_of found.table) in
    holds_then Stands (map_fault (λ (cause : Cause). error_reply (row_error cause)) (changes site what rows)) (settled s site what)
    (λ all made. holds_guarded Stands (refused_all s site what all) (Ok (changed s site what all))
    (λ none.
    let few = few_enough (row_count (with_rows s (number_of found.table) (rows_after s site all))) (either_none (option_map error_reply (refused_together site what rows all)) (too_many s site all) none).1 in
    changed_stands below s stands found f what rows all j (rows_on_site below s stands found f) (map_fault_ok (λ (cause : Cause). error_reply (row_error cause)) (changes site what rows) all made) few))

finished_stands : Below → (s : State) (b : Begun) → IsState s → BegunStands s b → Holds Stands (finished s b)
finished_stands below s (Writes site what) stands w =
    subst (λ site. Holds Stands (written s site what)) (sym w.0.is) (found_written below s what w.0.found stands w.0.stands (subst (λ site. JobStands (shape_of site.here) what) w.0.is w.1))
finished_stands below s (Shows site items condition) stands w =
    holds_then Stands (map_fault error_reply (rows_shown site items condition max_reply (rows_of s (number_of site.here)))) (λ rows. Ok (answered s (Select rows))) (λ rows e. stands)
finished_stands below s Sets stands w = stands

pub line_stands : Below → (s : State) (path : List (List ℕ)) (reading : Reading) → IsState s → Holds Stands (line_outcome s path reading)
line_stands below s path (Read stmt) stands = holds_then Stands (begun s path stmt) (finished s) (λ b e. finished_stands below s b stands (begun_stands below s path stmt b stands e))
line_stands below s path TooLong stands = tt
line_stands below s path Syntax stands = tt
line_stands below s path Wide stands = tt
line_stands below s path Deep stands = tt
