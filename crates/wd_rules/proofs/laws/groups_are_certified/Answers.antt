use Rattle.std.proofs.Common.{refl}
use Rattle.wd_rules.proofs.Valid.{valid}
use Rattle.wd_rules.proofs.laws.groups_are_certified.Goals as goal

pub returns : goal.returns
returns c = record {
  rollup_fits = refl;
  cube_fits = refl;
  column_in_no_set = refl;
  grouping_of_others = refl;
  grouping_of_nothing = refl;
  having = valid _ _ _ refl;
  earlier_version = refl;
  version_first = refl;
  sum_of_sums = valid _ _ _ refl;
  nothing_given = refl;
  rollup_alone = refl;
  key_given = refl;
  rollup_told_apart = valid _ _ _ refl;
  groups_by_count = refl;
  one_set = refl;
  repeated_set = refl;
}
