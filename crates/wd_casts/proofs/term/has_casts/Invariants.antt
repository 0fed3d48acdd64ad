use Rattle.std.proofs.Common.{◌≡◌, length}
use Rattle.wd_casts.specs.Terms.{has_casts}
use Rattle.wd_casts.proofs.term.has_casts.Given as goal

abbrev pub invariant-loop-rest : goal.invariant-loop-rest
invariant-loop-rest l = has_casts l.rest ≡ has_casts l.fn.tokens

abbrev pub decreases-loop-rest : goal.decreases-loop-rest
decreases-loop-rest l = length l.rest
