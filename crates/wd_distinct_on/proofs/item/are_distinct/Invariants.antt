use Rattle.std.proofs.Common.{◌≡◌, length, map}
use Rattle.wd_distinct_on.specs.Named.{named_item}
use Rattle.wd_distinct_on.specs.Items.{are_distinct}
use Rattle.wd_distinct_on.proofs.item.are_distinct.Given as goal

abbrev pub invariant-loop-items : goal.invariant-loop-items
invariant-loop-items l = are_distinct (map named_item l.items) ≡ are_distinct (map named_item l.initial.items)

abbrev pub decreases-loop-items : goal.decreases-loop-items
decreases-loop-items l = length l.items
