use Rattle.std.proofs.Common.{◌≡◌, length}
use Rattle.wd_clashes.specs.Unlike.{is_simple}
use Rattle.wd_clashes.proofs.unlike.is_simple.Given as goal

abbrev pub invariant-loop-rest : goal.invariant-loop-rest
invariant-loop-rest l = is_simple l.rest ≡ is_simple l.fn.tokens

abbrev pub decreases-loop-rest : goal.decreases-loop-rest
decreases-loop-rest l = length l.rest
