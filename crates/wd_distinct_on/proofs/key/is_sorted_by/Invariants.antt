use Rattle.std.proofs.Common.{◌≡◌, length, map}
use Rattle.wd_distinct_on.specs.Named.{sort_key}
use Rattle.wd_distinct_on.specs.Keys.{is_sorted_by}
use Rattle.wd_distinct_on.proofs.key.is_sorted_by.Given as goal

abbrev pub invariant-loop-orders : goal.invariant-loop-orders
invariant-loop-orders l = is_sorted_by (sort_key l.fn.key) (map sort_key l.orders) ≡ is_sorted_by (sort_key l.fn.key) (map sort_key l.initial.orders)

abbrev pub decreases-loop-orders : goal.decreases-loop-orders
decreases-loop-orders l = length l.orders
