use Rattle.std.proofs.Common.{◌≡◌, length}
use Rattle.std.specs.Prelude.{option_map}
use Rattle.wd_distinct_counts.specs.Counts.{column_in}
use Rattle.wd_distinct_counts.proofs.count.column_in.Given as goal

abbrev pub invariant-loop-rest : goal.invariant-loop-rest
invariant-loop-rest l = column_in (option_map (λ column. column.now) l.column) l.last l.rest ≡ column_in (option_map (λ column. column.now) l.fn.so_far) l.fn.before l.fn.tokens

abbrev pub decreases-loop-rest : goal.decreases-loop-rest
decreases-loop-rest l = length l.rest
