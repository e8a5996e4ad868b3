use Rattle.std.proofs.Common.{◌≡◌, List, ℕ, take, rules, ap, sym, ◌∙◌}
use Rattle.pg_io.specs.Replay.{seen_of}
use Rattle.pg_io.specs.declared.recorded.Call.TheVariants.{Cut}
use Rattle.pg_io.proofs.Replayed.{replay_push}
use Rattle.pg_io.proofs.recorded.MemDisk.shorten.Goals as goal

pub keep-requires : goal.keep-requires
keep-requires c =
    let now : c.in_ok-next.next.items ≡ take c.args.len c.self.inside.bytes.items = search rules in
    now ∙ ap (λ (l : List ℕ). take c.args.len l) (c.self.invariant ∙ ap seen_of c.self.view_is) ∙ sym (replay_push c.args.self.now.first c.args.self.now.calls (Cut c.args.len))
