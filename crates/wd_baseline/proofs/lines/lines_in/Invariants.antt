use Rattle.std.proofs.Common.{◌+◌, ◌≤◌, length}
use Rattle.wd_baseline.proofs.Reading.{AreReadUpTo}
use Rattle.wd_baseline.proofs.lines.lines_in.Given as goal

abbrev pub invariant-loop-rest : goal.invariant-loop-rest
invariant-loop-rest l = record {
  read : AreReadUpTo l.fn.bytes l.rest l.found.items;
  within : length l.found.items + length l.rest ≤ length l.fn.bytes;
}

abbrev pub decreases-loop-rest : goal.decreases-loop-rest
decreases-loop-rest l = length l.rest
