use Rattle.std.proofs.Common.{◌≡◌, length}
use Rattle.wd_clashes.specs.Comparisons.{says}
use Rattle.wd_clashes.proofs.comparison.says.Given as goal

abbrev pub invariant-loop-rest : goal.invariant-loop-rest
invariant-loop-rest l = says l.unit l.rest ≡ says l.unit l.fn.tokens

abbrev pub decreases-loop-rest : goal.decreases-loop-rest
decreases-loop-rest l = length l.rest
