use Rattle.std.proofs.Common.{◌≡◌, length}
use Rattle.wd_clashes.specs.Comparisons.{closes}
use Rattle.wd_clashes.proofs.comparison.closes.Given as goal

abbrev pub invariant-loop-rest : goal.invariant-loop-rest
invariant-loop-rest l = closes l.rest ≡ closes l.fn.tokens

abbrev pub decreases-loop-rest : goal.decreases-loop-rest
decreases-loop-rest l = length l.rest
