use Rattle.std.proofs.Common.{◌≡◌, ◌++◌, length}
use Rattle.row_gen.specs.Draws.{state_after}
use Rattle.row_gen.specs.Listing.{keys_of, text_of}
use Rattle.row_gen.specs.Steps.{statements_from}
use Rattle.row_gen.proofs.Turns.{keys_from}
use Rattle.row_gen.proofs.making.push_statements.Given as goal

abbrev pub invariant-loop-key : goal.invariant-loop-key
invariant-loop-key l = record {
  text : l.out.items ++ text_of (statements_from l.draws.state l.rows (keys_from l.key l.rows l.lanes l.lane))
      ≡ l.initial.out.items ++ text_of (statements_from l.initial.draws.state l.rows (keys_of l.rows l.lanes l.lane));
  state : state_after l.draws.state (length (keys_from l.key l.rows l.lanes l.lane))
      ≡ state_after l.initial.draws.state (length (keys_of l.rows l.lanes l.lane));
}
