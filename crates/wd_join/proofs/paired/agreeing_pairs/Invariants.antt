use Rattle.std.proofs.Common.{◌≡◌, ◌≤◌, length, take}
use Rattle.wd_join.specs.Matching.{matching}
use Rattle.wd_joined.specs.Pairs.{rows_paired}
use Rattle.wd_join.proofs.paired.agreeing_pairs.Given as goal

abbrev pub invariant-loop-i : goal.invariant-loop-i
invariant-loop-i l = record {
  pairs : rows_paired l.left l.right l.pairs.items ≡ matching l.columns (take l.i l.left) l.right;
  within : length l.pairs.items ≤ l.most;
}
