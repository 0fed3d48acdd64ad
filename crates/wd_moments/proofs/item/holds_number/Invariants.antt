use Rattle.std.proofs.Common.{◌≡◌, length}
use Rattle.wd_moments.specs.Items.{holds_number}
use Rattle.wd_moments.proofs.item.holds_number.Given as goal

abbrev pub invariant-loop-rest : goal.invariant-loop-rest
invariant-loop-rest l = holds_number l.rest ≡ holds_number l.fn.tokens

abbrev pub decreases-loop-rest : goal.decreases-loop-rest
decreases-loop-rest l = length l.rest
