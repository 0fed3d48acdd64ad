use Rattle.std.proofs.Common.{◌≡◌, length, map}
use Rattle.wd_distinct_on.specs.Named.{sort_key}
use Rattle.wd_distinct_on.specs.Keys.{all_among}
use Rattle.wd_distinct_on.proofs.key.all_among.Given as goal

abbrev pub invariant-loop-orders : goal.invariant-loop-orders
invariant-loop-orders l = all_among (map sort_key l.orders) (map sort_key l.fn.keys) ≡ all_among (map sort_key l.initial.orders) (map sort_key l.fn.keys)

abbrev pub decreases-loop-orders : goal.decreases-loop-orders
decreases-loop-orders l = length l.orders
