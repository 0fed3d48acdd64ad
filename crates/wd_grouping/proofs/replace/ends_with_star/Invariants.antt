use Rattle.std.proofs.Common.{◌≡◌, length}
use Rattle.wd_grouping.specs.Replaced.{ends_with_star}
use Rattle.wd_grouping.proofs.replace.ends_with_star.Given as goal

abbrev pub invariant-loop-rest : goal.invariant-loop-rest
invariant-loop-rest l = ends_with_star l.rest ≡ ends_with_star l.fn.item

abbrev pub decreases-loop-rest : goal.decreases-loop-rest
decreases-loop-rest l = length l.rest
