use Rattle.std.proofs.Common.{◌≡◌, length}
use Rattle.wd_moments.specs.Items.{holds_amount}
use Rattle.wd_moments.proofs.item.holds_amount.Given as goal

abbrev pub invariant-loop-rest : goal.invariant-loop-rest
invariant-loop-rest l = holds_amount l.rest ≡ holds_amount l.fn.tokens

abbrev pub decreases-loop-rest : goal.decreases-loop-rest
decreases-loop-rest l = length l.rest
