use Rattle.std.proofs.Common.{◌≡◌, ℕ, ◌+◌, map, take, get_or}
use Rattle.wd_partition.specs.Indexed.{by_partition}
use Rattle.wd_partition.specs.Runs.{starts_at}
use Rattle.wd_partition.proofs.runs.partition_starts.Given as goal

abbrev pub invariant-loop-i : goal.invariant-loop-i
invariant-loop-i l = record {
  items : l.starts.items ≡ map (starts_at (by_partition l.indexed) l.indexed.positions.now) (take l.i l.indexed.positions.now);
  before : (k : ℕ) → k + 1 ≡ l.i → l.start ≡ starts_at (by_partition l.indexed) l.indexed.positions.now (get_or l.indexed.positions.now k 0);
}
