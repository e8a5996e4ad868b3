use Rattle.std.proofs.Common.{inl, inr}
use Rattle.sql_parse.specs.Reading.{stmt_depth}
use Rattle.sql_text.specs.Lexing.{lexed, tokens_of}
use Rattle.sql_parse.specs.Grammar.{IsStmt}
use Rattle.sql_parse.proofs.Through.{one_statement}
use Rattle.sql_parse.proofs.Once.{fault_once}
use Rattle.sql_parse.proofs.Decided.{stmt_decided, stmt_never}
use Rattle.sql_parse.proofs.laws.statements_read_or_fail.Goals as goal

pub returns : goal.returns
returns c = record {
  either = λ text. elim (stmt_decided (lexed 0 0 text) (c.tokens_end.ensures text)) [ inl read ↦ inl (read.0, (read.1, read.2)) | inr fails ↦ inr (fails.0, (fails.1, fails.2)) ];
  never_both = λ text a f reads fails. stmt_never (lexed 0 0 text) a f reads.0 reads.1 fails.0 fails.1;
  reads_once = λ text a b h k. one_statement (tokens_of text) a b h.0 k.0;
  fails_once = λ text f g h k. fault_once IsStmt stmt_depth (lexed 0 0 text) f g h.0 k.0 h.1 k.1;
}
