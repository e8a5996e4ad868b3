-- No statement is answered a command's refusal.
use Rattle.std.proofs.Common.{inl, inr, ℕ, List, Bool, true, false, if◌then◌else◌, codes, length, nat_lt, Option, Some, None, Result, Ok, Err, sym, subst, option_map}
use Rattle.std.specs.Option.{ok_or, option_or}
use Rattle.sql_base.specs.Outcome.{and_then}
use Rattle.row_rules.specs.Causes.{max_reply, row_error}
use Rattle.row_rules.specs.Changes.{changes, refused_together}
use Rattle.row_rules.specs.Settle.{delete_job, insert_job, query_error, update_job}
use Rattle.row_rules.specs.Show.{rows_shown}
use Rattle.row_rules.specs.Site.{Site, number_of, shape_of}
use Rattle.machine.specs.declared.events.Reading.{Reading}
use Rattle.machine.specs.Done.{Outcome, Wrote, answered}
use Rattle.machine.specs.Laws.{OnlyCommandsAreRefused}
use Rattle.machine.specs.State.{Found, row_count, with_rows, rows_of, site_of, table_of}
use Rattle.machine.specs.Statement.{max_insert, max_rows, over_limit, rows_after, too_many_rows, Begun, Writes, Shows, Sets, begun, changed, error_reply, finished, no_table, on_table, settled, writes, written_reply}
use Rattle.machine.specs.Step.{ComesTo, line_outcome}
use Rattle.machine.specs.Words.{Cause, Change, Deep, DeleteFrom, InsertInto, Job, Query, Read, Refused, Reply, Select, SetPath, SqlError, State, Stmt, Syntax, TooLong, UpdateOf, Wide, guarded, map_fault}
use Rattle.machine.specs.Words.job

-- It isn't a command's refusal.
abbrev IsAnswer : Reply → Type 0
IsAnswer (Refused refusal) = ⊥
IsAnswer _ = Unit {0}

-- What comes instead of a value isn't one.
abbrev Fails : {T : Type 0} → Result T Reply → Type 0
Fails (Ok value) = Unit {0}
Fails (Err reply) = IsAnswer reply

-- Neither is the reply of an outcome.
abbrev Answers : Outcome → Type 0
Answers (Ok done) = IsAnswer done.reply
Answers (Err reply) = IsAnswer reply

answers_then : {T : Type 0} (r : Result T Reply) (next : T → Outcome) → Fails r → ((x : T) → Answers (next x)) → Answers (and_then r next)
answers_then (Ok x) next f h = h x
answers_then (Err reply) next f h = f

fails_then : {T U : Type 0} (r : Result T Reply) (next : T → Result U Reply) → Fails r → ((x : T) → Fails (next x)) → Fails (and_then r next)
fails_then (Ok x) next f h = h x
fails_then (Err reply) next f h = f

fails_as : {T E : Type 0} (reply : E → Reply) → ((fault : E) → IsAnswer (reply fault)) → (r : Result T E) → Fails (map_fault reply r)
fails_as reply h (Ok value) = tt
fails_as reply h (Err fault) = h fault

fails_guarded : {E T : Type 0} (reply : E → Reply) → ((fault : E) → IsAnswer (reply fault)) → (fault : Option E) (next : Result T Reply) → Fails next → Fails (guarded (option_map reply fault) next)
fails_guarded reply h None next f = f
fails_guarded reply h (Some fault) next f = h fault

-- ---- the begin of a statement

on_table_fails : (s : State) (path : List (List ℕ)) (name : List ℕ) (next : Site → Result Begun Reply) → ((site : Site) → Fails (next site)) → Fails (on_table s path name next)
on_table_fails s path name next h = fails_then (ok_or (table_of s path name) (no_table name)) (λ found. next (site_of s found)) (found (table_of s path name)) (λ found. h (site_of s found))
  where
    found : (o : Option Found) → Fails (ok_or o (no_table name))
    found None = tt
    found (Some table) = tt

writes_fail : (site : Site) (r : Result Job SqlError) → Fails (writes site r)
writes_fail site r = fails_then (map_fault error_reply r) (λ what. Ok (Writes site what)) (fails_as error_reply (λ error. tt) r) (λ what. tt)

begun_fails : (s : State) (path : List (List ℕ)) (stmt : Stmt) → Fails (begun s path stmt)
begun_fails s path (InsertInto name names rows) =
    by_length (nat_lt max_insert (length rows))
  where
    by_length : (long : Bool) → Fails (guarded (if long then Some (over_limit (codes "insert")) else None) (on_table s path name (λ site. writes site (insert_job site.here names rows))))
    by_length true = tt
    by_length false = on_table_fails s path name (λ site. writes site (insert_job site.here names rows)) (λ site. writes_fail site (insert_job site.here names rows))
begun_fails s path (UpdateOf name sets condition) = on_table_fails s path name (λ site. writes site (update_job (shape_of site.here) sets condition)) (λ site. writes_fail site (update_job (shape_of site.here) sets condition))
begun_fails s path (DeleteFrom name condition) = on_table_fails s path name (λ site. writes site (delete_job (shape_of site.here) condition)) (λ site. writes_fail site (delete_job (shape_of site.here) condition))
begun_fails s path (Query name items condition) =
    on_table_fails s path name (λ site. guarded (option_map error_reply (query_error (shape_of site.here) items condition)) (Ok (Shows site items condition)))
    (λ site. fails_guarded error_reply (λ error. tt) (query_error (shape_of site.here) items condition) (Ok (Shows site items condition)) tt)
begun_fails s path (SetPath names) = tt

-- ---- its end

written_is : (site : Site) (what : Job) (all : List Change) → IsAnswer (written_reply site what all)
written_is site (job.Put rows) all = tt
written_is site (job.Alter sets condition) all = tt
written_is site (job.Remove condition) all = tt
written_is site job.Fill all = tt

settled_answers : (s : State) (site : Site) (what : Job) (all : List Change) → Answers (settled s site what all)
settled_answers s site what all = by_fault (refused_together site what (rows_of s (number_of site.here)) all) (nat_lt max_rows (row_count (with_rows s (number_of site.here) (rows_after s site all))))
  where
    by_fault : (error : Option SqlError) (many : Bool) → Answers (guarded (option_or (option_map error_reply error) (if many then Some too_many_rows else None)) (Ok (changed s site what all)))
    by_fault (Some error) many = tt
    by_fault None true = tt
    by_fault None false = written_is site what all

finished_answers : (s : State) (b : Begun) → Answers (finished s b)
finished_answers s (Writes site what) =
    answers_then (map_fault (λ (cause : Cause). error_reply (row_error cause)) (changes site what (rows_of s (number_of site.here)))) (settled s site what)
    (fails_as (λ (cause : Cause). error_reply (row_error cause)) (λ cause. tt) (changes site what (rows_of s (number_of site.here)))) (settled_answers s site what)
finished_answers s (Shows site items condition) =
    answers_then (map_fault error_reply (rows_shown site items condition max_reply (rows_of s (number_of site.here)))) (λ rows. Ok (answered s (Select rows)))
    (fails_as error_reply (λ error. tt) (rows_shown site items condition max_reply (rows_of s (number_of site.here)))) (λ rows. tt)
finished_answers s Sets = tt

-- ---- the law

line_answers : (s : State) (path : List (List ℕ)) (reading : Reading) → Answers (line_outcome s path reading)
line_answers s path (Read stmt) = answers_then (begun s path stmt) (finished s) (begun_fails s path stmt) (finished_answers s)
line_answers s path TooLong = tt
line_answers s path Syntax = tt
line_answers s path Wide = tt
line_answers s path Deep = tt

comes_to_answer : (s : State) (outcome : Outcome) (reply : Reply) (wrote : Wrote) (t : State) → Answers outcome → ComesTo s outcome reply wrote t → IsAnswer reply
comes_to_answer s (Ok done) reply wrote t a c = subst IsAnswer (sym c.0) a
comes_to_answer s (Err refused) reply wrote t a c = subst IsAnswer (sym c.0) a

pub only_commands_are_refused : OnlyCommandsAreRefused
only_commands_are_refused s path reading refusal t (wrote, inl c) = comes_to_answer s (line_outcome s path reading) (Refused refusal) wrote t (line_answers s path reading) c
only_commands_are_refused s path reading refusal t (wrote, inr c) = cc (c.1.0)
