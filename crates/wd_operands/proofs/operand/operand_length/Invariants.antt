use Rattle.std.proofs.Common.{◌≡◌, ◌+◌, ◌-◌, length}
use Rattle.wd_operands.specs.Operands.{links_from, operand_length}
use Rattle.wd_operands.proofs.operand.operand_length.Given as goal

abbrev pub invariant-loop : goal.invariant-loop
invariant-loop l = record {
  links : links_from (length l.fn.tokens - l.counter) l.count l.rest ≡ operand_length l.fn.tokens;
  counted : l.count + length l.rest ≡ length l.fn.tokens;
}
