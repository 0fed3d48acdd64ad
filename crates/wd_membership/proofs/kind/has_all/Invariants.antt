use Rattle.std.proofs.Common.{◌≡◌, length}
use Rattle.wd_membership.specs.Kinds.{has_all}
use Rattle.wd_membership.proofs.kind.has_all.Given as goal

abbrev pub invariant-loop-rest : goal.invariant-loop-rest
invariant-loop-rest l = has_all l.last l.rest ≡ has_all l.fn.before l.fn.tokens

abbrev pub decreases-loop-rest : goal.decreases-loop-rest
decreases-loop-rest l = length l.rest
