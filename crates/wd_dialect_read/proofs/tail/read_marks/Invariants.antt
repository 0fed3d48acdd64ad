use Rattle.std.proofs.Common.{◌≡◌, ◌+◌, ◌≤◌, length}
use Rattle.wd_lex.specs.Lexed.{kinds_of}
use Rattle.wd_dialect_read.specs.Reading.{tail_from, with_marks}
use Rattle.wd_dialect_read.proofs.tail.read_marks.Given as goal

abbrev pub invariant-loop-rest : goal.invariant-loop-rest
invariant-loop-rest l = record {
  read : with_marks l.marks.items (tail_from l.depth (kinds_of l.rest)) ≡ tail_from 0 (kinds_of l.fn.tokens);
  shallow : l.depth + length l.rest ≤ length l.fn.tokens;
}

abbrev pub decreases-loop-rest : goal.decreases-loop-rest
decreases-loop-rest l = length l.rest
