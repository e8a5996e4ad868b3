-- Which rows of the layout are rows of both versions. That these are rows of the layout is a law of phase_steps.
use Rattle.std.specs.Prelude.{List}
use Rattle.sql_base.specs.declared.values.Value.{Value}
use Rattle.trigger_pair.specs.declared.pairs.Pair.{Pair}
use Rattle.trigger_pair.specs.Laws.{IsPair}
use Rattle.trigger_pair.specs.Rows.{IsPairedRow}
use Rattle.phase_steps.specs.Rows.{IsLaidRow}
use Rattle.row_fit.specs.Marks.{FitsMark, mark_of}

-- A row of the layout that is as its mark says is filled, or still to be filled.
abbrev pub RowsFitByTheirMarks : Type 0
RowsFitByTheirMarks =
    (pair : Pair) (stored : List Value) → IsPair pair → IsLaidRow pair stored →
    FitsMark pair stored (mark_of pair stored) → IsPairedRow pair stored

-- Each such row is as its mark says.
abbrev pub RowsAreAsMarked : Type 0
RowsAreAsMarked =
    (pair : Pair) (stored : List Value) → IsPair pair → IsPairedRow pair stored →
    FitsMark pair stored (mark_of pair stored)
