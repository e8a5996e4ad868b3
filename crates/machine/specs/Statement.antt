-- What the machine answers to a statement, and what the statement leaves.
--
-- A statement has three sections. Its begin settles its table, its names and types and an INSERT's values, or answers it. Then its rows are made, one after another. Then all that was made is looked at together, and stands or is refused.
use Rattle.std.specs.Prelude.{ℕ, List, Option, Some, None, Result, Ok, codes, length, nat_lt, if◌then◌else◌}
use Rattle.std.specs.Option.{ok_or, option_map, option_or}
use Rattle.row_rules.specs.Causes.{max_reply, row_error}
use Rattle.row_rules.specs.Changes.{after_changes, changes, keys_changed, refused_together}
use Rattle.row_rules.specs.Settle.{delete_job, insert_job, query_error, update_job}
use Rattle.row_rules.specs.Show.{rows_shown}
use Rattle.row_rules.specs.Site.{Site, name_of, number_of, shape_of}
use Rattle.machine.specs.Done.{Done, Outcome, answered, wrote_rows}
use Rattle.machine.specs.State.{row_count, rows_of, site_of, table_of, with_rows}
use Rattle.machine.specs.Words.{C42601, C42P01, C53200, C54000, Change, Delete, DeleteFrom, Error, Expr, Insert, InsertInto, Items, Job, Query, Reply, Select, Set, SetPath, SqlError, State, Stmt, Update, UpdateOf, and_then, guarded, map_fault}
use Rattle.machine.specs.Words.job
use Rattle.machine.specs.Words.{Fill, Kept}
use Rattle.row_rules.specs.Rows.{greatest_key, least_key}

-- ---- limits, which are our own

-- the most rows in all tables
abbrev pub max_rows : ℕ
max_rows = 262144

-- the most rows of one INSERT
abbrev pub max_insert : ℕ
max_insert = 100

-- ---- refusals

abbrev pub error_reply : SqlError → Reply
error_reply error = Error error.code error.name error.key

-- The line reads as no statement.
abbrev pub syntax : Reply
syntax = Error C42601 None None

-- A limit of this name is passed.
abbrev pub over_limit : List ℕ → Reply
over_limit name = Error C54000 (Some name) None

-- The path finds no table of this name.
abbrev pub no_table : List ℕ → Reply
no_table name = Error C42P01 (Some name) None

-- There would be more rows than there may be.
abbrev pub too_many_rows : Reply
too_many_rows = over_limit (codes "rows")

-- Memory is wanting.
abbrev pub no_memory : Reply
no_memory = Error C53200 None None

-- ---- the begin of a statement

-- What a statement is once its begin is over: a job on the rows of a site, or a question about them; or it sets the path.
pub data Begun : Type 0 where
  Writes : Site → Job → Begun
  Shows : Site → Items → Option Expr → Begun
  Sets : Begun

abbrev pub writes : Site → Result Job SqlError → Result Begun Reply
writes site settled = and_then (map_fault error_reply settled) (λ job. Ok (Writes site job))

-- The table that the path finds, or the refusal; then what comes next on its site.
abbrev pub on_table : State → List (List ℕ) → List ℕ → (Site → Result Begun Reply) → Result Begun Reply
on_table s path name next = and_then (ok_or (table_of s path name) (no_table name)) (λ found. next (site_of s found))

-- An INSERT has at most so many rows.
abbrev pub long_insert : List (List Expr) → Option Reply
long_insert rows = if nat_lt max_insert (length rows) then Some (over_limit (codes "insert")) else None

abbrev pub begun : State → List (List ℕ) → Stmt → Result Begun Reply
begun s path (InsertInto name names rows) = guarded (long_insert rows) (on_table s path name (λ site. writes site (insert_job site.here names rows)))
begun s path (UpdateOf name sets condition) = on_table s path name (λ site. writes site (update_job (shape_of site.here) sets condition))
begun s path (DeleteFrom name condition) = on_table s path name (λ site. writes site (delete_job (shape_of site.here) condition))
begun s path (Query name items condition) =
    on_table s path name (λ site. guarded (option_map error_reply (query_error (shape_of site.here) items condition)) (Ok (Shows site items condition)))
begun s path (SetPath names) = Ok Sets

-- ---- rows that are written

-- The reply to a job that wrote these rows. A batch tells the table's name, the number of rows, and the least and the greatest of their keys.
abbrev pub written_reply : Site → Job → List Change → Reply
written_reply site (job.Put rows) all = Insert (length all)
written_reply site (job.Alter sets condition) all = Update (length all)
written_reply site (job.Remove condition) all = Delete (length all)
written_reply site job.Fill all = Fill (name_of site.here) (length all) (least_key (keys_changed all)) (greatest_key (keys_changed all))

-- The rows of a table after these changes.
abbrev pub rows_after : State → Site → List Change → List Kept
rows_after s site all = after_changes all (rows_of s (number_of site.here))

-- The changes stand.
abbrev pub changed : State → Site → Job → List Change → Done
changed s site job all = record {
  reply = written_reply site job all;
  after = with_rows s (number_of site.here) (rows_after s site all);
  wrote = wrote_rows (number_of site.here) (keys_changed all);
}

-- There would be more rows in all tables than there may be.
abbrev pub too_many : State → Site → List Change → Option Reply
too_many s site all =
    if nat_lt max_rows (row_count (with_rows s (number_of site.here) (rows_after s site all))) then Some too_many_rows else None

-- Why the rows of a statement aren't accepted together.
abbrev pub refused_all : State → Site → Job → List Change → Option Reply
refused_all s site job all =
    option_or (option_map error_reply (refused_together site job (rows_of s (number_of site.here)) all)) (too_many s site all)

abbrev pub settled : State → Site → Job → List Change → Outcome
settled s site job all = guarded (refused_all s site job all) (Ok (changed s site job all))

abbrev pub written : State → Site → Job → Outcome
written s site job =
    and_then (map_fault (λ cause. error_reply (row_error cause)) (changes site job (rows_of s (number_of site.here)))) (settled s site job)

-- ---- rows that are shown

abbrev pub shown : State → Site → Items → Option Expr → Outcome
shown s site items condition =
    and_then (map_fault error_reply (rows_shown site items condition max_reply (rows_of s (number_of site.here))))
    (λ rows. Ok (answered s (Select rows)))

-- ---- statements

abbrev pub finished : State → Begun → Outcome
finished s (Writes site job) = written s site job
finished s (Shows site items condition) = shown s site items condition
finished s Sets = Ok (answered s Set)

abbrev pub answer : State → List (List ℕ) → Stmt → Outcome
answer s path stmt = and_then (begun s path stmt) (finished s)
