use Rattle.std.proofs.Common.{◌≡◌, ◌+◌, ◌++◌, [], ◌∷◌, ℕ, List, length, rules, sym, ◌∙◌, ap, arith}
use Rattle.journal.specs.Records.{front}
use Rattle.journal.proofs.Appending.{front-size}
use Rattle.journal.proofs.memory.MemKeeperKeeper.append.Goals as goal

pub invariant_of-self : goal.invariant_of-self
invariant_of-self c =
    let items : c.push.new.self.items ≡ c.self.inside.records.items ++ c.args.body.now ∷ [] = search rules in
    let grown : c.self.inside.gate + (5 + length c.args.body.now) ≡ length (front (c.self.inside.records.items ++ c.args.body.now ∷ [])) = omega (arith, c.self.invariant, front-size c.self.inside.records.items c.args.body.now) in
    grown ∙ ap (λ (l : List (List ℕ)). length (front l)) (sym items)
