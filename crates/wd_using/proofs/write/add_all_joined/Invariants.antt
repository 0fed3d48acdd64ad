use Rattle.std.proofs.Common.{◌≡◌, ◌++◌, length, map}
use Rattle.wd_using.specs.Named.{joined_table, merged_column}
use Rattle.wd_using.specs.Written.{all_joined}
use Rattle.wd_using.proofs.write.add_all_joined.Given as goal

abbrev pub invariant-loop-rest : goal.invariant-loop-rest
invariant-loop-rest l = l.written.items ++ all_joined (map merged_column l.fn.merged) (map joined_table l.rest) ≡ l.initial.written.items ++ all_joined (map merged_column l.fn.merged) (map joined_table l.fn.tables)

abbrev pub decreases-loop-rest : goal.decreases-loop-rest
decreases-loop-rest l = length l.rest
