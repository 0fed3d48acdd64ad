use Rattle.std.proofs.Common.{◌≡◌, length, map}
use Rattle.wd_distinct_counts.specs.Counts.{is_among}
use Rattle.wd_distinct_counts.proofs.count.is_among.Given as goal

abbrev pub invariant-loop-columns : goal.invariant-loop-columns
invariant-loop-columns l = is_among l.fn.column (map (λ other. other.now) l.columns) ≡ is_among l.fn.column (map (λ other. other.now) l.initial.columns)

abbrev pub decreases-loop-columns : goal.decreases-loop-columns
decreases-loop-columns l = length l.columns
