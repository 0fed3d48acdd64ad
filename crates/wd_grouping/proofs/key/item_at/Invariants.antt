use Rattle.std.proofs.Common.{◌≡◌, length, map}
use Rattle.wd_grouping.specs.Keys.{item_at}
use Rattle.wd_grouping.proofs.key.item_at.Given as goal

abbrev pub invariant-loop-rest : goal.invariant-loop-rest
invariant-loop-rest l = item_at l.left (map (λ item. item.now) l.rest) ≡ item_at l.fn.ordinal (map (λ item. item.now) l.fn.items)

abbrev pub decreases-loop-rest : goal.decreases-loop-rest
decreases-loop-rest l = length l.rest
