use Rattle.pgroll_top.proofs.Causes.{usage_cause, read_cause, write_cause, long_cause, complete, complete_long, complete_usage, complete_script, write_told, read_told}
use Rattle.pgroll_top.proofs.Refusals.{refused_cause}
use Rattle.pgroll_top.proofs.command.top.Goals as goal

pub returns-clause-usage : goal.returns-clause-usage
returns-clause-usage g c = usage_cause _ _ _ _ _ c.perform.ensures.history

pub returns-clause-read_fault : goal.returns-clause-read_fault
returns-clause-read_fault g c = read_cause _ _ _ _ _ c.perform.ensures.history

pub returns-clause-write_fault : goal.returns-clause-write_fault
returns-clause-write_fault g c = write_cause _ _ _ _ _ c.perform.ensures.history

pub returns-clause-too_long : goal.returns-clause-too_long
returns-clause-too_long g c = long_cause _ _ _ _ _ c.perform.ensures.history

pub returns-clause-complete : goal.returns-clause-complete
returns-clause-complete g c = complete _ _ _ _ _ c.perform.ensures.history

pub returns-clause-complete_long : goal.returns-clause-complete_long
returns-clause-complete_long g c = complete_long _ _ _ _ _ c.perform.ensures.history

pub returns-clause-complete_usage : goal.returns-clause-complete_usage
returns-clause-complete_usage g c = complete_usage _ _ _ _ _ c.perform.ensures.history

pub returns-clause-write_told : goal.returns-clause-write_told
returns-clause-write_told g c = write_told _ _ _ _ _ c.perform.ensures.history

pub returns-clause-read_told : goal.returns-clause-read_told
returns-clause-read_told g c = read_told _ _ _ _ _ c.perform.ensures.history

pub returns-clause-refused : goal.returns-clause-refused
returns-clause-refused g c = refused_cause c.only_commands_are_refused.ensures _ _ _ _ _ c.perform.ensures.history

pub returns-clause-complete_script : goal.returns-clause-complete_script
returns-clause-complete_script g c = complete_script _ _ _ _ _ c.perform.ensures.history
