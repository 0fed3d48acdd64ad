use Rattle.std.proofs.Common.{◌≡◌, ◌-◌, length}
use Rattle.wd_lex.specs.Lexed.{kinds_of}
use Rattle.wd_read_cursor.specs.Cursor.{many, with_front}
use Rattle.wd_read_statements.specs.Reading.{rule_if, rules_at}
use Rattle.wd_read_statements.proofs.reader.read_rules.Given as goal

abbrev pub invariant-loop : goal.invariant-loop
invariant-loop l = with_front l.rules.items (many rule_if (length l.fn.tokens - l.counter) (kinds_of l.rest)) ≡ rules_at (kinds_of l.fn.tokens)
