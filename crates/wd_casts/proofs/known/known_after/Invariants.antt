use Rattle.std.proofs.Common.{◌≡◌, length}
use Rattle.wd_casts.specs.Known.{known_after}
use Rattle.wd_casts.proofs.known.known_after.Given as goal

abbrev pub invariant-loop-rest : goal.invariant-loop-rest
invariant-loop-rest l = known_after l.known l.rest ≡ known_after l.fn.first l.fn.casts

abbrev pub decreases-loop-rest : goal.decreases-loop-rest
decreases-loop-rest l = length l.rest
