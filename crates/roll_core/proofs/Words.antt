-- The words of the proofs, for the heads of their files.
pub use Rattle.std.proofs.Common.{Bool, Bor, Equal, Err, Greater, Less, List, None, Ok, OnErr, Option, Ordering, Result, Some, [], add-one, ap, append_assoc, arith, cond, drop, false, filter, find, if◌then◌else◌, inl, inr, int_cmp, int_eq, is_some, le_of_eq, length, map, min, nat_eq, nat_lt, not, option_and_then, option_map, refl, rules, subst, suc, sym, take, true, zero, zero-add, ℕ, ℤ, ◌&&◌, ◌++◌, ◌+◌, ◌-◌, ◌<◌, ◌==◌, ◌^◌, ◌||◌, ◌∙◌, ◌∷◌, ◌≡◌, ◌≤◌, ◌⊎◌}
pub use Rattle.std.proofs.lemmas.Bool.Decides.{Decides-int_eq, nat_tests}
pub use Rattle.std.proofs.lemmas.Grind.{common_steps}
pub use Rattle.std.proofs.lemmas.List.{take_all, get_or-take, get_or_append_left, length-map, map-append, map-id, map-set, nil_from_length, take_at}
pub use Rattle.std.proofs.lemmas.Option.{slice_get-get_or, slice_get-map, slice_get_within}
pub use Rattle.std.proofs.lemmas.Simd.{map-map}
pub use Rattle.std.proofs.lemmas.List.Sums.{sum_by-cons}
pub use Rattle.std.specs.Cmp.{int_cmp_total, int_eq_equiv}
pub use Rattle.std.specs.FinMap.{is_sorted, put}
pub use Rattle.std.specs.FinMap.Entries.{below_all, by_order, by_order as picked, where_key}
pub use Rattle.std.specs.List.{AllByRecursion, AllByRecursion as Each, cons_option, enumerate_from, filter_map, list_all, list_any, zip}
pub use Rattle.std.specs.Option.{ok_or, option_copied, option_map_or, option_or}
pub use Rattle.std.specs.Ordering.{eq_by_cmp, is_eq, is_lt, match_ordering, ordering_reverse}
pub use Rattle.std.specs.Prelude.{IfOk, T, unwrap_or, vec_capacity, vec_len, slice_get, slice_index_or, slice_set, sum_by}
pub use Rattle.machine.specs.Done.{CommandOutcome, Done, Nothing, Outcome, Started, after_of, answered, as_outcome, reply_to, wrote_by}
pub use Rattle.machine.specs.Follows.{goes_on_filling}
pub use Rattle.machine.specs.Laws.{RowsOnSites, RowsStandBy, RunsReachLawful, RunsReachStates, StepsKeepLaws, StepsKeepStates, leaves_all}
pub use Rattle.machine.specs.Migrate.{Ending, active_name, bad_batch, batch, begun_table as machine_begun, by_completing, by_rolling_back, complete, created_tables, fill_keys, finish, first_of, has_heavy, has_missing, least_batch, least_fill, lost_columns_in, lost_in_table, lost_value, lost_weight, may_not_fill, may_not_start, not_valid, numbers_of, phase_of, planned, refused_batch, roll_back, rollback, shown_on, standing_alone, start, start_planned, start_read, started, staying_row, staying_table, stepped, stepped_back, table_without_loss, tidied, tidied_back, too_heavy, unfilled_tables, without_loss}
pub use Rattle.machine.specs.Sites.{BesideStands, ChangeAgrees, ChangeStands, HalvesAgree, JobStands, OfPut, PairStands, SiteRow, SiteStands, TableStands, may_miss_beside, new_table_by, table_by}
pub use Rattle.machine.specs.Standing.{is_known, Ascends, HalfStands, IsState, ModeStands, NewStands, NewerStands, NumbersAscend, RowsStand, StepsStand, TablesStand, may_lose}
pub use Rattle.machine.specs.State.{Found, Shared, beginning, beside_on, filling_site, lens_among, lens_between, lost_columns_of, missing_keys, newer_schema, row_count, rows_of, shared, site_of, table_of, table_on, table_through, with_rows}
pub use Rattle.machine.specs.Statement.{Begun, Sets, Shows, Writes, begun, changed as changed_by, error_reply, finished, long_insert, max_rows, no_table, on_table, too_many_rows, writes, written_reply}
pub use Rattle.machine.specs.Step.{ComesTo, LaneStep, Step, may_want, outcome_of}
pub use Rattle.machine.specs.Words.{Cause, Cell, Change, Expr, Fate, Halves, Items, Job, Kept, Kind, Lens, Migration, New, Null, Old, Plan, Query, Refusal, Schema, SetPath, Shape, Side, SqlError, Stmt, Table, Value, and_then, every, first_some, guarded, map_fault, table_numbered, without}
pub use Rattle.machine.specs.declared.events.Event.{Event}
pub use Rattle.machine.specs.declared.events.Event.TheVariants.{Fill, Said}
pub use Rattle.machine.specs.declared.events.Reading.TheVariants.{Stmt as Read}
pub use Rattle.machine.specs.declared.events.Reply.{Reply}
pub use Rattle.machine.specs.declared.events.Reply.TheVariants.{Complete, Filled, Rollback, Select, Set}
pub use Rattle.machine.specs.declared.states.Mode.{Mode}
pub use Rattle.machine.specs.declared.states.Mode.TheVariants.{Both, Calm}
pub use Rattle.machine.specs.declared.states.State.{State}
pub use Rattle.mig_lens.specs.Laws.{IsSchema, Joins}
pub use Rattle.mig_lens.specs.Layout.{has_mark}
pub use Rattle.mig_lens.specs.Plan.{created_in}
pub use Rattle.mig_lens.specs.Lens.{IsWellFormed, fits, is_carried_from, is_carry, unfilled}
pub use Rattle.mig_lens.specs.declared.columns.Cell.TheVariants.{Carry, Make, Still}
pub use Rattle.mig_lens.specs.declared.faults.Refusal.TheVariants.{NotFilled, Unfinished}
pub use Rattle.phase_steps.specs.Laws.{LaidBefore, LaidRowsShowFitting, LeftRowsKeep, PairedRowsAreLaid, ReturnedRowsKeep, shadows_before, shadows_shown}
pub use Rattle.phase_steps.specs.Phases.{already, inactive, may_fill, may_start, taken, unfinished}
pub use Rattle.phase_steps.specs.Rows.{IsLaidRow, is_shadow, left_row, left_value, returned_row, trimmed}
pub use Rattle.row_rules.specs.Accept.{clashes, has_key, is_taken, key_cause, keys_of, sound, times, total_weight, wrong}
pub use Rattle.row_rules.specs.Causes.{heavy_statement, max_reply, max_total, row_error, taken_key, value_cause}
pub use Rattle.row_rules.specs.Changes.{after_change, after_changes, altered, altered_halves, altered_row, cause_together, changes, filled_row, keys_changed, matching, new_keys_cause, new_row, passes, put_all as put_each, put_row, refused_together, remade, row_passed, rows_put}
pub use Rattle.row_rules.specs.InReach.{AltersWithin, HasHalf, ReachesOne, RemovesWithin, ShowKeys, SideStands}
pub use Rattle.row_rules.specs.Outcome.{Answers}
pub use Rattle.row_rules.specs.Reach.{row_alone, row_of, rows_reached}
pub use Rattle.row_rules.specs.Rows.{missing_keys as keys_missing, rows_at}
pub use Rattle.row_rules.specs.Settle.{condition_error, delete_job, insert_job, query_error, rows_inserted, sets_settled, update_job}
pub use Rattle.row_rules.specs.Show.{rows_shown}
pub use Rattle.row_rules.specs.Site.{Beside, Site, half, half_beside, halves_on, is_missing, key_of, name_of, number_of, other, other_half, shape_of, shown, touched, touched_by}
pub use Rattle.row_rules.specs.Steps.{begun_row, invalid as broken_constraint}
pub use Rattle.row_rules.specs.declared.kinds.Change.TheVariants.{Put, Remove}
pub use Rattle.row_rules.specs.declared.stops.Stop.{Stop}
pub use Rattle.row_rules.specs.declared.stops.Stop.TheVariants.{Because, NoMemory}
pub use Rattle.row_store.specs.Laws.{RemovedIsLeftOut}
pub use Rattle.row_store.specs.Stored.{Rows}
pub use Rattle.sql_base.specs.Fit.{row_fits}
pub use Rattle.sql_base.specs.Laws.{and_false, and_then_ok, both, columns_fit, columns_long, either_none, ok_same, row_long, some_same}
pub use Rattle.sql_base.specs.Weight.{value_weight}
pub use Rattle.sql_base.specs.declared.stmts.Stmt.TheVariants.{Delete, Insert, Update}
pub use Rattle.sql_eval.specs.Row.{least}
pub use Rattle.trigger_pair.specs.Laws.{Agree, BeginningLeaves, BegunRowsHold, FilledRowsAreLong, IsPair, PairsAreLong, UnfilledRowsAreBegun}
pub use Rattle.trigger_pair.specs.Rows.{IsBegunRow, IsFilledRow, IsPairedRow, IsUnfilledRow}
pub use Rattle.trigger_pair.specs.Stored.{begun as begun_values, is_marked, mark_value, new_half, new_view, old_view, places, shadow_values, stored_row}
pub use Rattle.trigger_pair.specs.declared.pairs.Pair.{Pair}
pub use Rattle.roll_core.specs.Batch.{Fills, FillsThrough, FirstUnfilled, batch_at, batch_changes, changes_at, is_paired, is_unfilled, number_at}
pub use Rattle.roll_core.specs.Below.{Below}
pub use Rattle.roll_core.specs.Changing.{meant_change, meant_changes, with_stored, changed, put_all, put_stored, rows_after, stored_change, with_changes}
pub use Rattle.roll_core.specs.Engine.{command_outcome, event_of, first_stored}
pub use Rattle.roll_core.specs.Running.{Comes, FormSuits, IsSite, IsStatement, LeftBy, ReturnedBy, RowsStored, Runs, SameForms, accepted, job_reach, meant, numbers_in, refused_all, reply_of, stored_count, too_many, too_many_error}
pub use Rattle.roll_core.specs.Seen.{former_seen, parts, row_count as own_count, seen}
pub use Rattle.roll_core.specs.Stepping.{MayLeave, NoneMissing, stays_new, AreKept, AreRun, Goes, begun_parts, begun_form, begun_frame, begun_table, created_table, form_without, former_by, former_of, goes, shared_by, stays, without_tables, invalid_in, left_by, left_form, left_frame, left_parts, left_table, lost_by, lost_columns, may_not_complete, not_filled_in, startable, stepped_row, stepped_values, tidied_back_frame, tidied_back_parts, tidied_form, tidied_number, tidied_parts, tidied_table}
pub use Rattle.roll_core.specs.Store.{halves_of, Former, FormerStands, HasFormer, IsAlone, IsStored, IsStoredRow, IsStoredTable, Stored, StoredRow, StoredTable, both_again, both_before, calm_form, form_in, former_pair, gone_side, kept, lost_columns_by, lost_of, meaning, over_pair, pair_over, newer_schema as newer_of, older_schema as older_of, rows_meant, side_alone, stored_values, table_meant, tables_taken}
pub use Rattle.roll_core.specs.declared.changing.StoredChange.{StoredChange}
pub use Rattle.roll_core.specs.declared.commands.Cmd.{Cmd}
pub use Rattle.roll_core.specs.declared.commands.Cmd.TheVariants.{Start}
pub use Rattle.roll_core.specs.declared.forms.Form.{Form}
pub use Rattle.roll_core.specs.declared.forms.Form.TheVariants.{Left, Own, Paired, Returned, Trimmed}
pub use Rattle.roll_core.specs.declared.store.Former.{Former as OwnFormer}
pub use Rattle.roll_core.specs.Seen.{OwnTable}
pub use Rattle.std.specs.FinMap as finite
pub use Rattle.row_rules.specs.declared.kinds.Job.TheVariants as job
pub use Rattle.mig_lens.specs.declared.faults.Kind.TheVariants as kind
pub use Rattle.machine.specs.Migrate as migrate
pub use Rattle.machine.specs.Plain as plain
pub use Rattle.machine.specs.declared.events.Reply.TheVariants as reply_of
pub use Rattle.row_rules.specs.Site as sites
pub use Rattle.machine.specs.Statement as statement
