use Rattle.std.proofs.Common.{◌≡◌, ◌++◌, length, map}
use Rattle.wd_using.specs.Merged.{names_in}
use Rattle.wd_using.specs.Named.{joined_table}
use Rattle.wd_using.proofs.merge.names_in.Given as goal

abbrev pub invariant-loop-rest : goal.invariant-loop-rest
invariant-loop-rest l = map (λ name. name.now) l.names.items ++ names_in (map joined_table l.rest) ≡ names_in (map joined_table l.fn.tables)

abbrev pub decreases-loop-rest : goal.decreases-loop-rest
decreases-loop-rest l = length l.rest
