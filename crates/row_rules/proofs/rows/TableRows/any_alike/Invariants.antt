use Rattle.std.proofs.Common.{◌≡◌, drop}
use Rattle.std.specs.List.{list_any}
use Rattle.row_rules.specs.Accept.{other_alike}
use Rattle.row_rules.proofs.rows.TableRows.any_alike.Given as goal

abbrev pub invariant-loop-at : goal.invariant-loop-at
invariant-loop-at g l =
    list_any (other_alike l.unique l.side l.values l.keys) (drop l.at (g.Self.TableRows.rows l.self))
    ≡ list_any (other_alike l.unique l.side l.values l.keys) (g.Self.TableRows.rows l.self)
