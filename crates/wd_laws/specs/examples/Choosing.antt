-- Worked examples of choices: the orderings that a plan allows.
use Rattle.std.specs.Prelude.{[], ◌∷◌}
use Rattle.wd_value.specs.Bags.{positions}
use Rattle.wd_plan.specs.Choices.{IsValidChoice}
use Rattle.wd_plan.specs.Plans.{PlanTree}
use Rattle.wd_laws.specs.examples.Literals.{ascending, row_number, over, call, window, select, scan_t, four_rows, two_groups, zero_and_greatest}
use Rattle.wd_laws.specs.examples.Functions.{numbered_by_v}
use Rattle.wd_laws.specs.examples.Limits.{second_by_v, limit_of_limited}
use Rattle.wd_laws.specs.examples.Faults.{numbered_over_a_fault, limited_over_a_fault}

-- SELECT id, ROW_NUMBER() OVER (PARTITION BY g ORDER BY id) FROM t
abbrev pub numbered_in_groups : PlanTree
numbered_in_groups =
    select (0 ∷ 2 ∷ [])
    (window (over (1 ∷ []) (ascending 0 ∷ []) ∷ []) (call 0 row_number ∷ [])
    (select (0 ∷ 1 ∷ []) scan_t))

-- Which choices are valid.
pub record ChoicesComeOut : Type 0 where
  -- ORDER BY v: the rows are in the order of v, with NULL last.
  pub check_choice_identity : IsValidChoice numbered_by_v four_rows (positions 4 ∷ [])
  -- Rows that tie may be in any order.
  pub check_choice_ties_exchanged : IsValidChoice numbered_by_v four_rows ((1 ∷ 0 ∷ 2 ∷ 3 ∷ []) ∷ [])
  -- A greater key can't come before a lesser one.
  pub check_choice_unsorted_ordering : ¬ IsValidChoice numbered_by_v four_rows ((2 ∷ 0 ∷ 1 ∷ 3 ∷ []) ∷ [])
  -- In ascending order NULL can't come first.
  pub null_before_a_value : ¬ IsValidChoice numbered_by_v four_rows ((3 ∷ 0 ∷ 1 ∷ 2 ∷ []) ∷ [])
  -- Every position appears once: none is missing.
  pub check_choice_short_ordering : ¬ IsValidChoice numbered_by_v four_rows (positions 3 ∷ [])
  -- No position appears twice.
  pub ordering_that_repeats_a_position : ¬ IsValidChoice numbered_by_v four_rows ((0 ∷ 0 ∷ 2 ∷ 3 ∷ []) ∷ [])
  -- Each class has an ordering.
  pub check_choice_missing_ordering : ¬ IsValidChoice numbered_by_v four_rows []
  -- No ordering is left over.
  pub check_choice_surplus_ordering : ¬ IsValidChoice numbered_by_v four_rows (positions 4 ∷ [] ∷ [])
  -- Rows of different partitions may be in any order, also mixed.
  pub partitions_in_any_order : IsValidChoice numbered_in_groups two_groups ((1 ∷ 0 ∷ 2 ∷ 4 ∷ 3 ∷ []) ∷ [])
  -- Within a partition a greater key can't come before a lesser one.
  pub partition_out_of_order : ¬ IsValidChoice numbered_in_groups two_groups ((1 ∷ 2 ∷ 0 ∷ 4 ∷ 3 ∷ []) ∷ [])
  -- A Limit has an ordering too, here under DESC.
  pub limit_in_order : IsValidChoice second_by_v four_rows ((3 ∷ 2 ∷ 0 ∷ 1 ∷ []) ∷ [])
  -- Under DESC NULL comes first.
  pub limit_out_of_order : ¬ IsValidChoice second_by_v four_rows ((2 ∷ 1 ∷ 0 ∷ 3 ∷ []) ∷ [])
  -- Of rows that tie on v the second key, id, decides.
  pub second_key_out_of_order : ¬ IsValidChoice limit_of_limited four_rows ((3 ∷ 2 ∷ 1 ∷ 0 ∷ []) ∷ (2 ∷ 0 ∷ 1 ∷ []) ∷ [])
  -- The upper ordering is of the lower Limit's three rows, not of the table's four.
  pub ordering_of_another_input : ¬ IsValidChoice limit_of_limited four_rows ((3 ∷ 2 ∷ 1 ∷ 0 ∷ []) ∷ (2 ∷ 1 ∷ 0 ∷ 3 ∷ []) ∷ [])
  -- Where the input is a fault, the ordering is the empty list.
  pub empty_ordering_of_a_limit_over_a_fault : IsValidChoice limited_over_a_fault zero_and_greatest ([] ∷ [])
  -- Any other ordering is invalid.
  pub ordering_of_a_limit_over_a_fault : ¬ IsValidChoice limited_over_a_fault zero_and_greatest (positions 2 ∷ [])
  -- The ordering of a Window over a fault is the empty list too.
  pub empty_ordering_over_a_fault : IsValidChoice numbered_over_a_fault zero_and_greatest ([] ∷ [])
  -- Any other ordering is invalid.
  pub ordering_over_a_fault : ¬ IsValidChoice numbered_over_a_fault zero_and_greatest (positions 2 ∷ [])
