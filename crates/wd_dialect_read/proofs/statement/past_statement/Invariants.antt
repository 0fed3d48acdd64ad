use Rattle.std.proofs.Common.{◌≡◌, length}
use Rattle.wd_lex.specs.Lexed.{kinds_of}
use Rattle.wd_dialect_read.specs.Reading.{past_statement}
use Rattle.wd_dialect_read.proofs.statement.past_statement.Given as goal

abbrev pub invariant-loop-rest : goal.invariant-loop-rest
invariant-loop-rest l = past_statement (kinds_of l.rest) ≡ past_statement (kinds_of l.fn.tokens)

abbrev pub decreases-loop-rest : goal.decreases-loop-rest
decreases-loop-rest l = length l.rest
