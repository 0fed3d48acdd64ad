use Rattle.std.proofs.Common.{◌≡◌, length, map}
use Rattle.wd_using.specs.Merged.{first_with}
use Rattle.wd_using.specs.Named.{joined_table}
use Rattle.wd_using.proofs.merge.first_with.Given as goal

abbrev pub invariant-loop-left : goal.invariant-loop-left
invariant-loop-left l = first_with l.fn.name (map joined_table l.left) ≡ first_with l.fn.name (map joined_table l.fn.tables)

abbrev pub decreases-loop-left : goal.decreases-loop-left
decreases-loop-left l = length l.left
