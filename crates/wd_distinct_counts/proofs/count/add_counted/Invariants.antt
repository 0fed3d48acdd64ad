use Rattle.std.proofs.Common.{◌≡◌, ◌++◌, length}
use Rattle.std.specs.Prelude.{option_map}
use Rattle.wd_distinct_counts.specs.Counts.{counted}
use Rattle.wd_distinct_counts.proofs.count.add_counted.Given as goal

abbrev pub invariant-loop-rest : goal.invariant-loop-rest
invariant-loop-rest l = l.written.items ++ counted (option_map (λ table. table.now) l.fn.table) l.last l.rest ≡ l.initial.written.items ++ counted (option_map (λ table. table.now) l.fn.table) l.fn.before l.fn.tokens

abbrev pub decreases-loop-rest : goal.decreases-loop-rest
decreases-loop-rest l = length l.rest
