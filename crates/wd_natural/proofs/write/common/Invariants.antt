use Rattle.std.proofs.Common.{◌≡◌, ◌++◌, length, map}
use Rattle.wd_natural.specs.Written.{common}
use Rattle.wd_natural.proofs.write.common.Given as goal

abbrev pub invariant-loop-rest : goal.invariant-loop-rest
invariant-loop-rest l = map (λ name. name.now) l.names.items ++ common (map (λ column. column.now) l.fn.left) (map (λ column. column.now) l.rest) ≡ common (map (λ column. column.now) l.fn.left) (map (λ column. column.now) l.fn.columns)

abbrev pub decreases-loop-rest : goal.decreases-loop-rest
decreases-loop-rest l = length l.rest
