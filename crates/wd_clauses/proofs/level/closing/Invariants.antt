use Rattle.std.proofs.Common.{◌≡◌, ◌+◌, ◌≤◌, length}
use Rattle.wd_clauses.specs.Reach.{closing_from}
use Rattle.wd_clauses.proofs.level.closing.Given as goal

abbrev pub invariant-loop-rest : goal.invariant-loop-rest
invariant-loop-rest l = record {
  found : closing_from l.depth l.place l.rest ≡ closing_from 0 0 l.fn.tokens;
  shallow : l.depth + length l.rest ≤ length l.fn.tokens;
  within : l.place + length l.rest ≡ length l.fn.tokens;
}

abbrev pub decreases-loop-rest : goal.decreases-loop-rest
decreases-loop-rest l = length l.rest
