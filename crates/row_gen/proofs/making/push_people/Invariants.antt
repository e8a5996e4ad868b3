use Rattle.std.proofs.Common.{◌≡◌, ◌+◌, ◌-◌, ◌++◌}
use Rattle.row_gen.specs.Listing.{text_of}
use Rattle.row_gen.specs.Steps.{people_from}
use Rattle.row_gen.proofs.making.push_people.Given as goal

abbrev pub invariant-loop-key : goal.invariant-loop-key
invariant-loop-key l =
    l.out.items ++ text_of (people_from l.draws.state l.key (l.rows + 1 - l.key))
    ≡ l.initial.out.items ++ text_of (people_from l.initial.draws.state 1 l.rows)
