use Rattle.std.proofs.Common.{◌≡◌, length}
use Rattle.wd_moments.specs.Items.{holds_range}
use Rattle.wd_moments.proofs.item.holds_range.Given as goal

abbrev pub invariant-loop-rest : goal.invariant-loop-rest
invariant-loop-rest l = holds_range l.rest ≡ holds_range l.fn.tokens

abbrev pub decreases-loop-rest : goal.decreases-loop-rest
decreases-loop-rest l = length l.rest
