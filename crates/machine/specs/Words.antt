-- The words of the machine, for the heads of its other files.
pub use Rattle.sql_base.specs.declared.codes.Code.{Code}
pub use Rattle.sql_base.specs.declared.codes.Code.TheVariants.{C22003, C42601, C42P01, C53200, C54000}
pub use Rattle.sql_base.specs.declared.exprs.Expr.{Expr}
pub use Rattle.sql_base.specs.declared.shapes.Column.{Column}
pub use Rattle.sql_base.specs.declared.shapes.Schema.{Schema}
pub use Rattle.sql_base.specs.declared.shapes.Shape.{Shape}
pub use Rattle.sql_base.specs.declared.stmts.Items.{Items}
pub use Rattle.sql_base.specs.declared.stmts.Stmt.{Stmt}
pub use Rattle.sql_base.specs.declared.stmts.Stmt.TheVariants.{Insert as InsertInto, Update as UpdateOf, Delete as DeleteFrom, Query, SetPath}
pub use Rattle.sql_base.specs.declared.values.Ty.{Ty}
pub use Rattle.sql_base.specs.declared.values.Ty.TheVariants.{Bigint, Text}
pub use Rattle.sql_base.specs.declared.values.Value.{Value}
pub use Rattle.sql_base.specs.declared.values.Value.TheVariants.{Null}
pub use Rattle.sql_base.specs.Outcome.{and_then, every}
pub use Rattle.mig_lens.specs.declared.columns.Cell.{Cell}
pub use Rattle.mig_lens.specs.declared.columns.Lens.{Lens}
pub use Rattle.mig_lens.specs.declared.columns.Side.{Side}
pub use Rattle.mig_lens.specs.declared.columns.Side.TheVariants.{Old, New}
pub use Rattle.mig_lens.specs.declared.faults.Kind.{Kind}
pub use Rattle.mig_lens.specs.declared.faults.Kind.TheVariants.{Nothing}
pub use Rattle.mig_lens.specs.declared.faults.Kind.TheVariants as kind
pub use Rattle.mig_lens.specs.declared.faults.Refusal.{Refusal}
pub use Rattle.mig_lens.specs.declared.migrations.Migration.{Migration}
pub use Rattle.mig_lens.specs.declared.plans.Fate.{Fate}
pub use Rattle.mig_lens.specs.declared.plans.Plan.{Plan}
pub use Rattle.mig_lens.specs.Plan.{Table, table_numbered, lens_in}
pub use Rattle.row_rules.specs.declared.kinds.Cause.{Cause}
pub use Rattle.row_rules.specs.declared.kinds.Change.{Change}
pub use Rattle.row_rules.specs.declared.kinds.Change.TheVariants.{Put, Remove}
pub use Rattle.row_rules.specs.declared.kinds.Halves.{Halves}
pub use Rattle.row_rules.specs.declared.kinds.Job.{Job}
pub use Rattle.row_rules.specs.declared.kinds.Job.TheVariants as job
pub use Rattle.row_rules.specs.declared.kinds.Kept.{Kept}
pub use Rattle.row_rules.specs.declared.kinds.SqlError.{SqlError}
pub use Rattle.row_rules.specs.Outcome.{first_some, guarded, map_fault, without}
pub use Rattle.machine.specs.declared.events.Asked.{Asked}
pub use Rattle.machine.specs.declared.events.Asked.TheVariants.{Read as Migrates, Refused as NotRead}
pub use Rattle.machine.specs.declared.events.Event.{Event}
pub use Rattle.machine.specs.declared.events.Event.TheVariants as event
pub use Rattle.machine.specs.declared.events.Reading.{Reading}
pub use Rattle.machine.specs.declared.events.Reading.TheVariants.{Stmt as Read, TooLong, Syntax, Wide, Deep}
pub use Rattle.machine.specs.declared.events.Reply.{Reply}
pub use Rattle.machine.specs.declared.events.Reply.TheVariants.{Insert, Update, Delete, Select, Set, Error, Start, Fill, Filled, Complete, Rollback, Refused}
pub use Rattle.machine.specs.declared.states.Mode.{Mode}
pub use Rattle.machine.specs.declared.states.Mode.TheVariants.{Calm, Both}
pub use Rattle.machine.specs.declared.states.State.{State}
