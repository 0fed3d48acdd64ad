use Rattle.std.proofs.Common.{◌≡◌, ◌+◌, length}
use Rattle.wd_operands.specs.Operands.{signs_from}
use Rattle.wd_operands.proofs.operand.signs_length.Given as goal

abbrev pub invariant-loop-rest : goal.invariant-loop-rest
invariant-loop-rest l = record {
  signs : signs_from l.count l.rest ≡ signs_from 0 l.fn.tokens;
  counted : l.count + length l.rest ≡ length l.fn.tokens;
}

abbrev pub decreases-loop-rest : goal.decreases-loop-rest
decreases-loop-rest l = length l.rest
