use Rattle.std.proofs.Common.{◌≡◌, List, ◌++◌}
use Rattle.mig_json.proofs.Pairs.{Entry, Done}
use Rattle.mig_json.proofs.objects.read_pairs.Given as goal

abbrev pub invariant-loop-key : goal.invariant-loop-key
invariant-loop-key l = (done : List Entry) × (l.map.entries ≡ done ++ l.key-iterator) × Done l.member l.at l.path done l.pairs
