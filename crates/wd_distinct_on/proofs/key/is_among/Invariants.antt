use Rattle.std.proofs.Common.{◌≡◌, length, map}
use Rattle.wd_distinct_on.specs.Named.{sort_key}
use Rattle.wd_distinct_on.specs.Keys.{is_among}
use Rattle.wd_distinct_on.proofs.key.is_among.Given as goal

abbrev pub invariant-loop-keys : goal.invariant-loop-keys
invariant-loop-keys l = is_among (sort_key l.fn.order) (map sort_key l.keys) ≡ is_among (sort_key l.fn.order) (map sort_key l.initial.keys)

abbrev pub decreases-loop-keys : goal.decreases-loop-keys
decreases-loop-keys l = length l.keys
