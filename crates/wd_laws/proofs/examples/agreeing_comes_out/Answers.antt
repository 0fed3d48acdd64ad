-- Which outcomes are one answer: by rearrangement, or by a row that one of them has more often.
use Rattle.std.proofs.Common.{◌≡◌, [], ◌∷◌, refl, arith}
use Rattle.wd_value.specs.declared.value.Value.TheVariants.{Null}
use Rattle.wd_value.specs.Rows.{same_row}
use Rattle.wd_value.proofs.Perms.{flip, Perm-count_by}
use Rattle.wd_laws.specs.examples.Literals.{n}
use Rattle.wd_laws.proofs.examples.agreeing_comes_out.Goals as goal

pub returns : goal.returns
returns c = record {
  refute_numbering_with_ties = λ h. (let e : 1 ≡ 0 = h (n 1 ∷ n 1 ∷ []) in omega arith);
  refute_two_answers_that_are_one_multiset = λ x. Perm-count_by (same_row x) (flip (Null ∷ n 1 ∷ []) (Null ∷ n 2 ∷ []) []);
  run_first_rows_with_ties_records_reversed = λ x. Perm-count_by (same_row x) (flip (n 1 ∷ n 10 ∷ []) (n 2 ∷ n 10 ∷ []) []);
  limit_that_cuts_through_ties = λ h. (let e : 1 ≡ 0 = h (n 1 ∷ n 10 ∷ []) in omega arith);
  rows_that_stand_more_often = λ h. (let e : 2 ≡ 1 = h (n 1 ∷ []) in omega arith);
  null_in_both = λ x. refl;
  the_same_fault = refl;
  another_fault = λ h. cc;
  rows_and_a_fault = λ h. h;
}
