use Rattle.roll_core.proofs.laws.laws_below.Goals as goal

pub returns : goal.returns
returns c = record {
  starts = c.tables_stand.ensures.starts;
  fit = c.created_tables_are_numbered.ensures.fit;
  halves = c.tables_stand.ensures.filled;
  known = c.tables_stand.ensures.known;
  both = c.tables_stand.ensures.both;
  lenses = c.tables_stand.ensures.lenses;
  writes = c.sites_stand.ensures.writes;
  shows = c.sites_stand.ensures.shows;
  shared = c.sites_stand.ensures.shared;
  filling = c.sites_stand.ensures.filling;
  rows = c.sites_stand.ensures.rows;
  own_rows = c.tables_stand.ensures.rows;
  on_site = c.sites_stand.ensures.on_site;
  changes = c.sites_stand.ensures.changes;
  agree = c.carried_columns_agree.ensures;
  keys = c.standing_rows_show_their_keys.ensures;
  removed = c.changes_keep_order.ensures.removed;
  long = c.pairs_are_long.ensures;
  holds = c.stored_rows_hold.ensures;
  begun = c.begun_rows_hold.ensures;
  paired = c.stored_rows_are_paired.ensures.begun;
  filled_long = c.paired_rows_are_long.ensures.filled;
  unfilled = c.paired_rows_are_long.ensures.unfilled;
  paired_laid = c.rows_fit_their_places.ensures.begun;
  laid_long = c.rows_fit_their_places.ensures.long;
  laid_shown = c.rows_fit_their_places.ensures.shown;
  trimmed_long = c.rows_fit_their_places.ensures.trimmed_long;
  trimmed_shown = c.rows_fit_their_places.ensures.trimmed_shown;
  shown = c.left_rows_show_what_was_written.ensures.shown;
  kept = c.left_rows_show_what_was_written.ensures.kept;
  laid = c.rows_are_stored_by_the_step.ensures.laid;
  trims = c.completing_changes_no_view.ensures.trimmed;
  trimmed = c.rows_are_stored_by_the_step.ensures.trimmed;
  returned = c.returned_rows_show_what_was_written.ensures.shown;
  returned_kept = c.returned_rows_show_what_was_written.ensures.kept;
}
