use Rattle.std.proofs.Common.{take}
use Rattle.wd_partition.specs.Seen.{AreSeen}
use Rattle.wd_partition.proofs.once.has_each_once.Given as goal

abbrev pub invariant-loop-position : goal.invariant-loop-position
invariant-loop-position l = AreSeen l.count (take l.position-index l.list) l.marks.items
