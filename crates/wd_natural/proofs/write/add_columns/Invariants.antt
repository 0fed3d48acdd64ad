use Rattle.std.proofs.Common.{◌≡◌, ◌++◌, length, map}
use Rattle.wd_natural.proofs.write.add_columns.Given as goal

abbrev pub invariant-loop-columns : goal.invariant-loop-columns
invariant-loop-columns l = map (λ column. column.now) l.left.items ++ map (λ column. column.now) l.columns ≡ map (λ column. column.now) l.initial.left.items ++ map (λ column. column.now) l.initial.columns

abbrev pub decreases-loop-columns : goal.decreases-loop-columns
decreases-loop-columns l = length l.columns
