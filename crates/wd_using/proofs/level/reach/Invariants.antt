use Rattle.std.proofs.Common.{◌≡◌, ◌+◌, ◌≤◌, length}
use Rattle.wd_using.specs.Reach.{reach_from}
use Rattle.wd_using.proofs.level.reach.Given as goal

abbrev pub invariant-loop-rest : goal.invariant-loop-rest
invariant-loop-rest l = record {
  found : reach_from l.extent l.depth l.count l.rest ≡ reach_from l.extent 0 0 l.fn.tokens;
  shallow : l.depth + length l.rest ≤ length l.fn.tokens;
  within : l.count + length l.rest ≡ length l.fn.tokens;
}

abbrev pub decreases-loop-rest : goal.decreases-loop-rest
decreases-loop-rest l = length l.rest
