use Rattle.roll_core.proofs.Words.{◌∙◌, List, ap, former_by, former_seen, left_frame, lost_columns, map, option_map, seen}
use Rattle.roll_core.specs.Seen.{OwnTable as StoredTable}
use Rattle.roll_core.proofs.Stepped.{same_parts}
use Rattle.roll_core.proofs.leaving.leave.Goals as goal

pub returns : goal.returns
returns c =
    let gone = c.args.gone in
    let frame = c.args.frame.now in
    let is_frame = c.left_frame.ensures.frame ∙ ap (λ lost. left_frame gone lost frame) (c.in_ok-lost.ensures ∙ ap (λ (ts : List StoredTable). lost_columns gone frame.mode (map seen ts)) c.deref.ensures.value) in
    let is_former = c.left_frame.ensures.former ∙ ap (former_by gone frame frame.mode) c.in_ok-going.ensures.going in
    let is = same_parts c.left_frame.new.frame _ (option_map former_seen c.left_frame.result) _ (map seen c.part.new.tables.items) _ is_frame is_former c.in_ok-going.ensures.staying in
    record { stored = is; err = tt }
