use Rattle.std.proofs.Common.{◌≡◌, [], ◌∷◌, refl, arith}
use Rattle.wd_laws.specs.examples.Literals.{n}
use Rattle.wd_laws.proofs.examples.groups_come_out.Goals as goal

pub returns : goal.returns
returns c = record {
  run_rollup_with_grouping = refl;
  run_rollup_over_no_rows = refl;
  run_having_more_than_one_row = refl;
  run_running_sum_of_sums = refl;
  numbering_of_a_rollup = refl;
  numbering_of_a_rollup_by_grouping = refl;
  numbering_of_groups_by_their_count = λ h. (let e : 1 ≡ 0 = h (n 1 ∷ n 1 ∷ []) in omega arith);
  run_a_repeated_set = refl;
  cube_of_two_columns = refl;
  grouping_without_calls = refl;
  grouping_of_no_rows = refl;
  a_total_that_64_bits_hold = refl;
  a_total_out_of_range = refl;
}
