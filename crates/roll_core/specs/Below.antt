-- The laws of the layers below that the engine's promises rest on.
use Rattle.row_rules.specs.InReach.{StandingShowKeys}
use Rattle.machine.specs.Laws.{BothAreShared, ChangesAgree, ChangesKeep, FilledRowsHaveHalves, FillingStands, RowsOnSites, RowsStandBy, SharedByLenses, SharedStands, ShowsStand, StartsStand, TablesAreKnown, TablesHaveTheirRows, WritesStand}
use Rattle.mig_plan.specs.Laws.{PlannedNumbersFit}
use Rattle.row_store.specs.Laws.{RemovedIsLeftOut}
use Rattle.trigger_pair.specs.Laws.{BeginningLeaves, BegunRowsHold, FilledRowsAreLong, PairsAreLong, StoredRowsHold, UnfilledRowsAreBegun}
use Rattle.phase_steps.specs.Laws.{LaidRowsAreLong, LaidRowsShowFitting, LeftRowsAreLaid, LeftRowsKeep, LeftRowsShow, PairedRowsAreLaid}
use Rattle.phase_steps.specs.Laws.{ReturnedRowsKeep, ReturnedRowsShow, TrimmedRowsAreLong, TrimmedRowsShowFitting}
use Rattle.phase_steps.specs.Laws.{TrimmingKeepsView, TrimmingLeavesTrimmed}

pub record Below : Type 0 where
  -- migrations
  pub starts : StartsStand
  pub fit : PlannedNumbersFit
  pub halves : FilledRowsHaveHalves
  -- the versions' tables
  pub known : TablesAreKnown
  pub both : BothAreShared
  pub lenses : SharedByLenses
  -- sites, and what is done to their rows
  pub writes : WritesStand
  pub shows : ShowsStand
  pub shared : SharedStands
  pub filling : FillingStands
  pub rows : RowsStandBy
  pub own_rows : TablesHaveTheirRows
  pub on_site : RowsOnSites
  pub changes : ChangesKeep
  pub agree : ChangesAgree
  pub keys : StandingShowKeys
  -- stored rows
  pub removed : RemovedIsLeftOut
  pub long : PairsAreLong
  pub holds : StoredRowsHold
  pub begun : BegunRowsHold
  pub paired : BeginningLeaves
  pub filled_long : FilledRowsAreLong
  pub unfilled : UnfilledRowsAreBegun
  pub paired_laid : PairedRowsAreLaid
  pub laid_long : LaidRowsAreLong
  pub laid_shown : LaidRowsShowFitting
  pub trimmed_long : TrimmedRowsAreLong
  pub trimmed_shown : TrimmedRowsShowFitting
  pub shown : LeftRowsShow
  pub kept : LeftRowsKeep
  pub laid : LeftRowsAreLaid
  pub trims : TrimmingKeepsView
  pub trimmed : TrimmingLeavesTrimmed
  pub returned : ReturnedRowsShow
  pub returned_kept : ReturnedRowsKeep
