-- Tests, calls and CASE whose expansion is read off by hand.
use Rattle.std.proofs.Common.{refl}
use Rattle.wd_operands.specs.Nests.{nest_from, nest_length}
use Rattle.wd_operands.specs.Operands.{brackets_length, call_length, call_tail_length, constant_length, factor_length, filter_length, link_length, links_from, name_length, operand_length, over_length, primary_length, signs_from, window_length}
use Rattle.wd_equations.specs.Calls.{begins_arms, begins_value, call_at, case_after, coalesce_after, filter_after, filter_word, filtered, is_all, named_call, null_if_after}
use Rattle.wd_equations.specs.Equations.{each}
use Rattle.wd_equations.specs.Examples.{EquationsComeOut}
use Rattle.wd_equations.specs.Expanded.{expanded, pieces_tokens, place_at, step, walked, written}
use Rattle.wd_equations.specs.Parts.{part_from, parts_of}
use Rattle.wd_equations.specs.Tests.{among_after, begins_list, begins_query, begins_symmetry, between_after, distinct_after, is_after, is_test, test_after, test_at, truth_after, word_test, word_test_at}
use Rattle.wd_operands.specs.Parts.{brackets_at, nest_at, operand_at}
use Rattle.wd_equations.specs.Tokens.{goes_on, past}

pub equations_come_out : EquationsComeOut
unfolding nest_from nest_length brackets_length call_length call_tail_length constant_length factor_length filter_length link_length links_from name_length operand_length over_length primary_length signs_from window_length begins_arms begins_value call_at case_after coalesce_after filter_after filter_word filtered is_all named_call null_if_after each expanded pieces_tokens place_at step walked written part_from parts_of among_after begins_list begins_query begins_symmetry between_after distinct_after is_after is_test test_after test_at truth_after word_test word_test_at brackets_at goes_on nest_at operand_at past
equations_come_out = record {
  between = λ at. refl;
  not_in = λ at. refl;
  coalesce = λ at. refl;
  simple_case = λ at. refl;
  count_all = λ at. refl;
  average_stays = λ at. refl;
  compared_stays = λ at. refl;
  symmetric_stays = λ at. refl;
}
