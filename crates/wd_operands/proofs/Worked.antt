-- Brackets and operands whose length is read off by hand.
use Rattle.std.proofs.Common.{refl}
use Rattle.wd_operands.specs.Examples.{OperandsComeOut}
use Rattle.wd_operands.specs.Nests.{nest_from, nest_length}
use Rattle.wd_operands.specs.Operands.{brackets_length, call_length, call_tail_length, constant_length, factor_length, filter_length, link_length, links_from, name_length, operand_length, over_length, primary_length, signs_from, window_length}

pub operands_come_out : OperandsComeOut
unfolding nest_from nest_length brackets_length call_length call_tail_length constant_length factor_length filter_length link_length links_from name_length operand_length over_length primary_length signs_from window_length
operands_come_out = record {
  closed = λ at. refl;
  nested = λ at. refl;
  never_closed = λ at. refl;
  other_kind = λ at. refl;
  chain = λ at. refl;
  call = λ at. refl;
  typed = λ at. refl;
  ends_before_sign = λ at. refl;
  no_name = λ at. refl;
}
