use Rattle.std.proofs.Common.{◌≡◌, length, map}
use Rattle.wd_distinct_on.specs.Named.{named_item}
use Rattle.wd_distinct_on.specs.Keys.{value_or}
use Rattle.wd_distinct_on.proofs.key.value_or.Given as goal

abbrev pub invariant-loop-left : goal.invariant-loop-left
invariant-loop-left l = value_or l.fn.own l.fn.name (map named_item l.left) ≡ value_or l.fn.own l.fn.name (map named_item l.fn.items)

abbrev pub decreases-loop-left : goal.decreases-loop-left
decreases-loop-left l = length l.left
