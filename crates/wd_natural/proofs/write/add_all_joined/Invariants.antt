use Rattle.std.proofs.Common.{◌≡◌, ◌++◌, [], length, map}
use Rattle.wd_natural.specs.Named.{natural_table}
use Rattle.wd_natural.specs.Written.{all_joined}
use Rattle.wd_natural.proofs.write.add_all_joined.Given as goal

abbrev pub invariant-loop-rest : goal.invariant-loop-rest
invariant-loop-rest l = l.written.items ++ all_joined (map (λ column. column.now) l.left.items) (map natural_table l.rest) ≡ l.initial.written.items ++ all_joined [] (map natural_table l.fn.tables)

abbrev pub decreases-loop-rest : goal.decreases-loop-rest
decreases-loop-rest l = length l.rest
