use Rattle.std.proofs.Common.{◌≡◌, length}
use Rattle.wd_casts.specs.Walked.{cast_by}
use Rattle.wd_casts.proofs.walk.cast_by.Given as goal

abbrev pub invariant-loop-rest : goal.invariant-loop-rest
invariant-loop-rest l = cast_by l.known l.rest l.operand.items ≡ cast_by l.initial.known l.fn.casts l.initial.operand.items

abbrev pub decreases-loop-rest : goal.decreases-loop-rest
decreases-loop-rest l = length l.rest
