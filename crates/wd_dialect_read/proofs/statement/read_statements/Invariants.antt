use Rattle.std.proofs.Common.{◌≡◌, ◌-◌, length, map}
use Rattle.wd_lex.specs.Lexed.{kinds_of}
use Rattle.wd_read_cursor.specs.Cursor.{many, with_front}
use Rattle.wd_dialect_read.specs.Said.{statement_said}
use Rattle.wd_dialect_read.specs.Reading.{statement_if, statements_at}
use Rattle.wd_dialect_read.proofs.statement.read_statements.Given as goal

abbrev pub invariant-loop : goal.invariant-loop
invariant-loop l = with_front (map statement_said l.statements.items) (many statement_if (length l.fn.tokens - l.counter) (kinds_of l.rest)) ≡ statements_at (kinds_of l.fn.tokens)
