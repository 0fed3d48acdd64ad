use Rattle.std.proofs.Common.{◌≡◌, length, map}
use Rattle.wd_distinct_on.specs.Named.{sort_key}
use Rattle.wd_distinct_on.specs.Keys.{all_sorted}
use Rattle.wd_distinct_on.proofs.key.all_sorted.Given as goal

abbrev pub invariant-loop-keys : goal.invariant-loop-keys
invariant-loop-keys l = all_sorted (map sort_key l.keys) (map sort_key l.fn.orders) ≡ all_sorted (map sort_key l.initial.keys) (map sort_key l.fn.orders)

abbrev pub decreases-loop-keys : goal.decreases-loop-keys
decreases-loop-keys l = length l.keys
