-- The begin of a statement over a frame is that over the state that it means.
use Rattle.roll_core.proofs.Words.{IfOk, Below, ◌≡◌, ◌∙◌, ℕ, List, [], ◌∷◌, Option, Result, Ok, Err, ap, refl, sym, subst, ok_or, option_map, option_or, and_then, Expr, Items, Stmt, Insert, Update}
use Rattle.roll_core.proofs.Words.{Delete, Query, SetPath, Job, guarded, condition_error, delete_job, insert_job, query_error, rows_inserted, sets_settled, update_job, SqlError, Site, number_of}
use Rattle.roll_core.proofs.Words.{shape_of, Reply, State, JobStands, TableStands, Found, site_of, table_of, table_on, table_through, Begun, Sets, Shows, Writes, begun, error_reply, long_insert}
use Rattle.roll_core.proofs.Words.{no_table, on_table, writes, New, Old, Side, IsSite, IsStatement, Runs, meant, StoredTable}
use Rattle.roll_core.proofs.Words.job
use Rattle.roll_core.proofs.Outcomes.{guarded_holds, then_holds, without_holds}

found_meant : (frame : State) (tables : List StoredTable) (path : List (List ℕ)) (name : List ℕ) → table_of (meant frame tables) path name ≡ table_of frame path name
found_meant frame tables [] name = refl
found_meant frame tables (named ∷ path) name = ap (option_or (table_through frame named name)) (found_meant frame tables path name)

on_meant : (frame : State) (tables : List StoredTable) (path : List (List ℕ)) (name : List ℕ) (next : Site → Result Begun Reply) → on_table (meant frame tables) path name next ≡ on_table frame path name next
on_meant frame tables path name next = ap (λ (o : Option Found). and_then (ok_or o (no_table name)) (λ found. next (site_of frame found))) (found_meant frame tables path name)

pub begun-meant : (frame : State) (tables : List StoredTable) (path : List (List ℕ)) (stmt : Stmt) → begun (meant frame tables) path stmt ≡ begun frame path stmt
begun-meant frame tables path (Insert name names rows) = ap (guarded (long_insert rows)) (on_meant frame tables path name (λ site. writes site (insert_job site.here names rows)))
begun-meant frame tables path (Update name sets condition) = on_meant frame tables path name (λ site. writes site (update_job (shape_of site.here) sets condition))
begun-meant frame tables path (Delete name condition) = on_meant frame tables path name (λ site. writes site (delete_job (shape_of site.here) condition))
begun-meant frame tables path (Query name items condition) = on_meant frame tables path name (λ site. guarded (option_map error_reply (query_error (shape_of site.here) items condition)) (Ok (Shows site items condition)))
begun-meant frame tables path (SetPath names) = refl

side_meant : (frame : State) (tables : List StoredTable) (side : Side) (number : ℕ) → table_on (meant frame tables) side number ≡ table_on frame side number
side_meant frame tables Old number = refl
side_meant frame tables New number = refl

pub stands_meant : (frame : State) (tables : List StoredTable) (found : Found) → TableStands (meant frame tables) found → TableStands frame found
stands_meant frame tables found h = record { on_side = sym (side_meant frame tables found.side (number_of found.table)) ∙ h.on_side; well_formed = h.well_formed }

pub stands_there : (frame : State) (tables : List StoredTable) (found : Found) → TableStands frame found → TableStands (meant frame tables) found
stands_there frame tables found h = record { on_side = side_meant frame tables found.side (number_of found.table) ∙ h.on_side; well_formed = h.well_formed }

pub shows_site : Below → (frame : State) (tables : List StoredTable) (path : List (List ℕ)) (stmt : Stmt) (site : Site) (items : Items) (condition : Option Expr) → Runs frame tables → begun frame path stmt ≡ Ok (Shows site items condition) → IsSite frame site
shows_site law frame tables path stmt site items condition runs e =
    let there = law.shows (meant frame tables) path stmt site items condition runs.stands (begun-meant frame tables path stmt ∙ e) in
    (there.0, there.1, stands_meant frame tables there.0 there.2)

-- ---- a statement's job isn't a batch's

abbrev SaidBy : Begun → Type 0
SaidBy (Writes site what) = IsStatement what
SaidBy (Shows site items condition) = Unit {0}
SaidBy Sets = Unit {0}

writes_said : (settled : Result Job SqlError) (site : Site) → IfOk settled IsStatement → IfOk (writes site settled) SaidBy
writes_said (Ok what) site h = h
writes_said (Err error) site h = tt

begun_said : (s : State) (path : List (List ℕ)) (stmt : Stmt) → IfOk (begun s path stmt) SaidBy
begun_said s path (Insert name names rows) = guarded_holds SaidBy (long_insert rows) _ (then_holds SaidBy (ok_or (table_of s path name) (no_table name)) _ (λ found.
    writes_said (insert_job found.table names rows) (site_of s found) (then_holds IsStatement (rows_inserted found.table names rows) _ (λ rows. tt))))
begun_said s path (Update name sets condition) = then_holds SaidBy (ok_or (table_of s path name) (no_table name)) _ (λ found.
    let shape = shape_of found.table in
    writes_said (update_job shape sets condition) (site_of s found) (then_holds IsStatement (sets_settled shape sets) _ (λ sets. without_holds IsStatement (condition_error shape condition) (job.Alter sets condition) tt)))
begun_said s path (Delete name condition) = then_holds SaidBy (ok_or (table_of s path name) (no_table name)) _ (λ found.
    let shape = shape_of found.table in writes_said (delete_job shape condition) (site_of s found) (without_holds IsStatement (condition_error shape condition) (job.Remove condition) tt))
begun_said s path (Query name items condition) = then_holds SaidBy (ok_or (table_of s path name) (no_table name)) _ (λ found. guarded_holds SaidBy (option_map error_reply (query_error (shape_of found.table) items condition)) _ tt)
begun_said s path (SetPath names) = tt

pub writes_site : Below → (frame : State) (tables : List StoredTable) (path : List (List ℕ)) (stmt : Stmt) (site : Site) (what : Job) → Runs frame tables → begun frame path stmt ≡ Ok (Writes site what)
    → IsSite frame site × JobStands (shape_of site.here) what × IsStatement what
writes_site law frame tables path stmt site what runs e =
    let there = law.writes (meant frame tables) path stmt site what runs.stands (begun-meant frame tables path stmt ∙ e) in
    ((there.0, there.1, stands_meant frame tables there.0 there.2), there.3, subst (λ r. IfOk r SaidBy) e (begun_said frame path stmt))
