use Rattle.std.proofs.Common.{◌≡◌, ◌+◌, ◌++◌, length, take, drop, rules, ap, sym, ◌∙◌}
use Rattle.pg_io.specs.Replay.{seen_of}
use Rattle.pg_io.specs.declared.recorded.Call.TheVariants.{Wrote}
use Rattle.pg_io.proofs.Replayed.{replay_push}
use Rattle.pg_io.proofs.recorded.MemDisk.put.Goals as goal

pub keep-requires : goal.keep-requires
keep-requires c =
    let at = c.args.at in
    let v : c.in_ok-bytes.bytes.items ≡ c.args.bytes.now = search rules in
    let old = c.deref.ensures.value ∙ c.self.invariant ∙ ap seen_of c.self.view_is in
    c.in_ok-next.ensures ∙ (λ i. take at (old i) ++ sym v i ++ drop (at + length (sym v i)) (old i)) ∙ sym (replay_push c.args.self.now.first c.args.self.now.calls (Wrote at c.in_ok-bytes.bytes))

pub returns-clause-put : goal.returns-clause-put
returns-clause-put c =
    let v : c.in_ok-bytes.bytes.items ≡ c.args.bytes.now = search rules in
    (c.in_ok-bytes.bytes, v, c.in_ok-keep.ensures.kept)
