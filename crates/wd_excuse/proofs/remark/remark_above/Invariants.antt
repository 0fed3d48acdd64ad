use Rattle.std.proofs.Common.{◌-◌, ◌≤◌, length}
use Rattle.wd_excuse.proofs.Walk.{IsSilentUpTo}
use Rattle.wd_excuse.proofs.remark.remark_above.Given as goal

abbrev pub invariant-loop-len : goal.invariant-loop-len
invariant-loop-len l = record {
  silent : IsSilentUpTo l.text l.fn.is_first l.at l.is_above;
  within : l.at ≤ length l.text;
}

abbrev pub decreases-loop-len : goal.decreases-loop-len
decreases-loop-len l = length l.text - l.at
