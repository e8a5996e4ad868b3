use Rattle.std.proofs.Common.{◌≡◌, ◌+◌, ◌/◌, [], ◌++◌, arith, sym, ap, ◌∙◌, append-nil}
use Rattle.row_gen.specs.Draws.{next_state}
use Rattle.row_gen.specs.Listing.{statement}
use Rattle.row_gen.specs.Steps.{line_text}
use Rattle.row_gen.proofs.Turns.{keys_from, no_more_keys, one_less_key, one_more_draw, one_more_statement}
use Rattle.row_gen.proofs.making.push_statements.Goals as goal
use Rattle.row_gen.proofs.making.push_statements.Goals.{then-key-lanes+in_ok-statement+in_ok-push_line, else-key-lanes}

pub loop-key-preserved : goal.loop-key-preserved
loop-key-preserved c =
    let s = c.loop-key.draws.state in
    let k = c.loop-key.key in
    elim c.if-key-lanes.branch [
      | then-key-lanes+in_ok-statement+in_ok-push_line w ↦
          let same : w.as_str.result.now ≡ statement c.args.rows k (next_state s / 65536) =
          w.as_str.ensures.value ∙ w.in_ok-statement.ensures
          ∙ ap (λ d. statement c.args.rows k d) (w.draw-draw.ensures.drawn ∙ ap (λ n. n / 65536) w.draw-draw.ensures.state) in
          let pushed = w.in_ok-push_line.ensures ∙ ap (λ l. c.loop-key.out.items ++ line_text l) same in
          rw (w.out-is, w.draws-is, w.draw-draw.ensures.state) (record {
            text = one_more_statement _ c.loop-key.out.items w.push_line.new.out.items s k c.args.rows c.args.lanes c.args.lane c.loop-key-test.true w.if-key-lanes.true pushed c.loop-key.invariant.text;
            state = one_more_draw s k c.args.rows c.args.lanes c.args.lane c.loop-key-test.true w.if-key-lanes.true ∙ c.loop-key.invariant.state;
          })
      | else-key-lanes w ↦
          let keys = one_less_key k c.args.rows c.args.lanes c.args.lane c.loop-key-test.true w.if-key-lanes.false in
          rw (w.out-is, w.draws-is, ← keys) c.loop-key.invariant
    ]

pub returns : goal.returns
returns c =
    let last : c.loop-key.key ≡ c.args.rows + 1 = omega arith in
    let keys : keys_from c.loop-key.key c.args.rows c.args.lanes c.args.lane ≡ [] =
    ap (λ k. keys_from k c.args.rows c.args.lanes c.args.lane) last ∙ no_more_keys c.args.rows c.args.lanes c.args.lane in
    let text = rw keys at c.loop-key.invariant.text in
    let state = rw keys at c.loop-key.invariant.state in
    record { text = sym (append-nil c.loop-key.out.items) ∙ text; state = state }
