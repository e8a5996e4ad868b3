use Rattle.std.proofs.Common.{arith}
use Rattle.mig_plan.specs.Plan.{plan_of}
use Rattle.machine.proofs.Starting.{has_plan}
use Rattle.machine.proofs.start.start_read.Goals as goal

pub start_planned-requires : goal.start_planned-requires
start_planned-requires c =
    let s = c.args.s.now in
    let m = c.args.m.now in
    let plan = c.in_ok-plan.plan in
    let made = has_plan (plan_of s.schema s.next_table m) plan c.in_ok-plan.ensures in
    let fits = c.created_tables_are_numbered.ensures.fit s.schema s.next_table m plan (omega arith) made in
    omega (arith, fits)
