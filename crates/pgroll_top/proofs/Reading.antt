-- Each line reads as something.
use Rattle.std.proofs.Common.{◌≡◌, ◌≤◌, ◌<◌, ◌⊎◌, inl, inr, refl, Bool, true, false, ℕ, List, length, arith}
use Rattle.std.specs.Prelude.{nat_lt}
use Rattle.sql_base.specs.declared.stmts.Stmt.{Stmt}
use Rattle.sql_parse.specs.declared.faults.ParseFault.{ParseFault}
use Rattle.sql_parse.specs.declared.faults.ParseFault.TheVariants as parse
use Rattle.sql_parse.specs.Grammar.{IsStmt}
use Rattle.sql_parse.specs.Laws.{TextsReadOrFail}
use Rattle.sql_parse.specs.Reading as grammar
use Rattle.machine.specs.declared.events.Reading.{Reading}
use Rattle.machine.specs.declared.events.Reading.TheVariants.{Stmt as Read, TooLong, Syntax, Wide, Deep}
use Rattle.pgroll_top.specs.Work.{HasFault, ReadsAs, max_statement}

-- Each line reads as a statement or has a first fault, by the grammar.
abbrev pub LinesReadOrFail : Type 0
LinesReadOrFail = TextsReadOrFail IsStmt grammar.stmt_depth

is_long : (limit n : ℕ) → nat_lt limit n ≡ true → limit < n
is_long limit n is = grind arith

is_short : (limit n : ℕ) → nat_lt limit n ≡ false → n ≤ limit
is_short limit n is = grind arith

by_fault : (line : List ℕ) (fault : ParseFault) → HasFault line fault → (reading : Reading) × ReadsAs line reading
by_fault line (parse.Syntax at) has = (Syntax, (at, has))
by_fault line (parse.Wide at) has = (Wide, (at, has))
by_fault line parse.Deep has = (Deep, has)
by_fault line parse.NoMemory has = absurd (has.1.0 refl)

pub some_reading : LinesReadOrFail → (line : List ℕ) → (reading : Reading) × ReadsAs line reading
some_reading law line = by_length (nat_lt max_statement (length line)) refl
  where
    by_text : length line ≤ max_statement → ((stmt : Stmt) × grammar.ReadsAs IsStmt grammar.stmt_depth line stmt) ⊎ ((fault : ParseFault) × grammar.Fails IsStmt grammar.stmt_depth line fault)
        → (reading : Reading) × ReadsAs line reading
    by_text short (inl (stmt, reads)) = (Read stmt, (short, reads))
    by_text short (inr (fault, fails)) = by_fault line fault (short, fails)

    by_length : (long : Bool) → nat_lt max_statement (length line) ≡ long → (reading : Reading) × ReadsAs line reading
    by_length true is = (TooLong, is_long max_statement (length line) is)
    by_length false is = by_text (is_short max_statement (length line) is) (law line)
