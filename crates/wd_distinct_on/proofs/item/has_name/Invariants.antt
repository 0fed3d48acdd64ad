use Rattle.std.proofs.Common.{◌≡◌, length, map}
use Rattle.wd_distinct_on.specs.Named.{named_item}
use Rattle.wd_distinct_on.specs.Items.{has_name}
use Rattle.wd_distinct_on.proofs.item.has_name.Given as goal

abbrev pub invariant-loop-items : goal.invariant-loop-items
invariant-loop-items l = has_name l.name (map named_item l.items) ≡ has_name l.name (map named_item l.initial.items)

abbrev pub decreases-loop-items : goal.decreases-loop-items
decreases-loop-items l = length l.items
