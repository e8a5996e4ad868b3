use Rattle.std.proofs.Common.{sym, eqb, arith, eq-eqb}
use Rattle.std.proofs.lemmas.List.Sums.{position_or_len_is}
use Rattle.script_text.proofs.splitting.place_of.Goals as goal

pub returns-then-byte-wanted-clause-place : goal.returns-then-byte-wanted-clause-place
returns-then-byte-wanted-clause-place c =
    sym (position_or_len_is (λ b. eqb b c.args.wanted) c.args.bytes.now c.loop-at.at 0 (omega arith) c.loop-at.invariant (λ _. eq-eqb _ _ c.if-byte-wanted.true))

pub returns-clause-place : goal.returns-clause-place
returns-clause-place c =
    sym (position_or_len_is (λ b. eqb b c.args.wanted) c.args.bytes.now _ 0 (omega arith) (λ k h. c.loop-at.invariant k (omega arith)) (λ h. absurd (omega arith)))
