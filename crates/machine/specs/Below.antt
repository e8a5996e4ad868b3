-- The laws of the layers below that the laws of this one rest on.
use Rattle.sql_eval.specs.Laws.{TypedIsSound}
use Rattle.mig_lens.specs.Laws.{BackwardCarries, BackwardFits, ForwardCarries, ForwardFits}
use Rattle.row_rules.specs.Laws.{ChangesKeepOrder, ValidRowsHaveNoCause}
use Rattle.mig_plan.specs.Laws.{CreatedTablesAreNumbered, PlannedFatesStand, PlansKeepSchemas, PlansStayBelow, TablesHaveFates}

pub record Below : Type 0 where
  pub typed : TypedIsSound
  pub forward : ForwardFits
  pub backward : BackwardFits
  pub forward_carries : ForwardCarries
  pub backward_carries : BackwardCarries
  -- rows
  pub order : ChangesKeepOrder
  pub valid : ValidRowsHaveNoCause
  -- plans
  pub schemas : PlansKeepSchemas
  pub fates : PlannedFatesStand
  pub all : TablesHaveFates
  pub numbered : CreatedTablesAreNumbered
  pub next : PlansStayBelow
