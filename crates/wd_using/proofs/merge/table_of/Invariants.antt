use Rattle.std.proofs.Common.{◌≡◌, length, map}
use Rattle.wd_using.specs.Merged.{table_of}
use Rattle.wd_using.specs.Named.{merged_column}
use Rattle.wd_using.proofs.merge.table_of.Given as goal

abbrev pub invariant-loop-left : goal.invariant-loop-left
invariant-loop-left l = table_of l.fn.name (map merged_column l.left) ≡ table_of l.fn.name (map merged_column l.fn.merged)

abbrev pub decreases-loop-left : goal.decreases-loop-left
decreases-loop-left l = length l.left
