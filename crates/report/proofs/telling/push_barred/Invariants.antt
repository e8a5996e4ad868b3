use Rattle.std.proofs.Common.{◌≡◌, ◌++◌, codes, drop}
use Rattle.std.specs.List.{flat_map}
use Rattle.sql_text.specs.Printing.{value_text}
use Rattle.report.proofs.telling.push_barred.Given as goal

abbrev pub invariant-loop-value : goal.invariant-loop-value
invariant-loop-value l =
    l.out.items ++ flat_map (λ next. codes "|" ++ value_text next) (drop l.value-index l.values)
    ≡ l.fn.out.items ++ flat_map (λ next. codes "|" ++ value_text next) l.values
