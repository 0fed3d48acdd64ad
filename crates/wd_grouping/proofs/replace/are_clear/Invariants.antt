use Rattle.std.proofs.Common.{◌≡◌, length, map}
use Rattle.wd_grouping.specs.Replaced.{are_clear}
use Rattle.wd_grouping.specs.Named.{group_key}
use Rattle.wd_grouping.proofs.replace.are_clear.Given as goal

abbrev pub invariant-loop-rest : goal.invariant-loop-rest
invariant-loop-rest l = are_clear (map group_key l.fn.keys) (map (λ item. item.now) l.rest) ≡ are_clear (map group_key l.fn.keys) (map (λ item. item.now) l.fn.items)

abbrev pub decreases-loop-rest : goal.decreases-loop-rest
decreases-loop-rest l = length l.rest
