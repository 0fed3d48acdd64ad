use Rattle.std.proofs.Common.{◌≡◌, ◌-◌, ◌≤◌, length, drop}
use Rattle.wd_lex.specs.Reading as reading
use Rattle.wd_excuse.proofs.gap.comment_len.Given as goal

abbrev pub invariant-loop-at : goal.invariant-loop-at
invariant-loop-at l = record {
  same : reading.comment_end l.depth l.at (drop l.at l.bytes) ≡ reading.comment_end 0 2 (drop 2 l.bytes);
  within : l.at ≤ length l.bytes;
  deep : l.depth ≤ l.at;
}

abbrev pub decreases-loop-at : goal.decreases-loop-at
decreases-loop-at l = length l.bytes - l.at
