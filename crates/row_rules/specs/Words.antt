-- The words of the layer, for the heads of its other files.
pub use Rattle.sql_base.specs.declared.codes.Code.{Code}
pub use Rattle.sql_base.specs.declared.codes.Code.TheVariants.{C0A000, C22003, C22012, C22P02, C23502, C23505, C23514, C42601, C42701, C42703, C42804, C53200, C54000}
pub use Rattle.sql_base.specs.declared.exprs.Expr.{Expr}
pub use Rattle.sql_base.specs.declared.faults.EvalFault.{EvalFault}
pub use Rattle.sql_base.specs.declared.faults.EvalFault.TheVariants.{DivZero, Range, BadText, TooLong, NoMemory}
pub use Rattle.sql_base.specs.declared.faults.RowFault.{RowFault}
pub use Rattle.sql_base.specs.declared.faults.RowFault.TheVariants as row_fault_of
pub use Rattle.sql_base.specs.declared.faults.TypeFault.{TypeFault}
pub use Rattle.sql_base.specs.declared.faults.TypeFault.TheVariants as type_fault
pub use Rattle.sql_base.specs.declared.shapes.Column.{Column}
pub use Rattle.sql_base.specs.declared.shapes.Shape.{Shape}
pub use Rattle.sql_base.specs.declared.shapes.Unique.{Unique}
pub use Rattle.sql_base.specs.declared.stmts.Items.{Items}
pub use Rattle.sql_base.specs.declared.stmts.Items.TheVariants.{All, Listed}
pub use Rattle.sql_base.specs.declared.values.Ty.{Ty}
pub use Rattle.sql_base.specs.declared.values.Ty.TheVariants.{Boolean}
pub use Rattle.sql_base.specs.declared.values.Value.{Value}
pub use Rattle.sql_base.specs.declared.values.Value.TheVariants.{Int, Null}
pub use Rattle.sql_base.specs.Outcome.{and_then, every}
pub use Rattle.sql_base.specs.Weight.{weight}
pub use Rattle.sql_eval.specs.Eval.{eval}
pub use Rattle.sql_eval.specs.Row.{clash, least, row_fault}
pub use Rattle.sql_eval.specs.Typing.{type_of}
pub use Rattle.mig_lens.specs.declared.columns.Lens.{Lens}
pub use Rattle.mig_lens.specs.declared.columns.Side.{Side}
pub use Rattle.mig_lens.specs.declared.columns.Side.TheVariants.{Old, New}
pub use Rattle.mig_lens.specs.Layout.{has_mark}
pub use Rattle.mig_lens.specs.Lens.{backward, forward, unfilled}
pub use Rattle.mig_lens.specs.Plan.{Table, key_name}
pub use Rattle.row_rules.specs.declared.kinds.Change.{Change}
pub use Rattle.row_rules.specs.declared.kinds.Change.TheVariants.{Put, Remove}
pub use Rattle.row_rules.specs.declared.kinds.Job.{Job}
pub use Rattle.row_rules.specs.declared.kinds.Job.TheVariants as job
pub use Rattle.row_rules.specs.declared.kinds.Cause.{Cause}
pub use Rattle.row_rules.specs.declared.kinds.Halves.{Halves}
pub use Rattle.row_rules.specs.declared.kinds.Kept.{Kept}
pub use Rattle.row_rules.specs.declared.kinds.SqlError.{SqlError}
