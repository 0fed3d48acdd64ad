use Rattle.std.proofs.Common.{◌≡◌, ℕ, ◌<◌, ◌≤◌, length, get_or}
use Rattle.wd_partition.specs.Indexed.{by_partition}
use Rattle.wd_partition.specs.Runs.{ends_at}
use Rattle.wd_partition.proofs.runs.partition_ends.Given as goal

abbrev pub invariant-loop-i : goal.invariant-loop-i
invariant-loop-i l = record {
  long : length l.ends.items ≡ length l.indexed.positions.now;
  each : (k : ℕ) → l.i ≤ k → k < length l.indexed.positions.now → get_or l.ends.items k 0 ≡ ends_at (by_partition l.indexed) l.indexed.positions.now (get_or l.indexed.positions.now k 0);
  following : l.i < length l.indexed.positions.now → l.end ≡ ends_at (by_partition l.indexed) l.indexed.positions.now (get_or l.indexed.positions.now l.i 0);
}
