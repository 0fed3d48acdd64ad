use Rattle.std.proofs.Common.{◌≡◌, length, map}
use Rattle.wd_grouping.specs.Replaced.{have_star}
use Rattle.wd_grouping.proofs.replace.have_star.Given as goal

abbrev pub invariant-loop-items : goal.invariant-loop-items
invariant-loop-items l = have_star (map (λ item. item.now) l.items) ≡ have_star (map (λ item. item.now) l.initial.items)

abbrev pub decreases-loop-items : goal.decreases-loop-items
decreases-loop-items l = length l.items
