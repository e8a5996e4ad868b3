use Rattle.machine.proofs.PuttingRows.{frames_tell, keeping_rows_may_be_put, put_rows_keep_states}
use Rattle.machine.proofs.laws.rows_put_keep_states.Goals as goal

pub returns-clause-kept : goal.returns-clause-kept
returns-clause-kept c = put_rows_keep_states c.laws_below.ensures

pub returns-clause-all : goal.returns-clause-all
returns-clause-all c = keeping_rows_may_be_put c.laws_below.ensures

pub returns-clause-frames : goal.returns-clause-frames
returns-clause-frames c = frames_tell
