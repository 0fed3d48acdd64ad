use Rattle.std.proofs.Common.{◌≡◌, length, map}
use Rattle.wd_natural.specs.Written.{has_column}
use Rattle.wd_natural.proofs.write.has_column.Given as goal

abbrev pub invariant-loop-columns : goal.invariant-loop-columns
invariant-loop-columns l = has_column l.name (map (λ column. column.now) l.columns) ≡ has_column l.name (map (λ column. column.now) l.initial.columns)

abbrev pub decreases-loop-columns : goal.decreases-loop-columns
decreases-loop-columns l = length l.columns
