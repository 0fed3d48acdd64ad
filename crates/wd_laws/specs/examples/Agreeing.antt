-- Worked examples of outcomes that agree, and of outcomes that do not.
use Rattle.std.specs.Prelude.{[], ◌∷◌, Ok, Err}
use Rattle.wd_value.specs.declared.value.Value.TheVariants.{Null}
use Rattle.wd_value.specs.declared.value.Fault.TheVariants.{DivisionByZero, OutOfRange}
use Rattle.wd_value.specs.Bags.{positions}
use Rattle.wd_value.specs.Rows.{Instance}
use Rattle.wd_plan.specs.Outcomes.{outcome, Agree}
use Rattle.wd_plan.specs.Plans.{PlanTree}
use Rattle.wd_laws.specs.examples.Literals.{n, ascending, row_number, over, call, window, select, scan_t, four_rows, four_rows_reversed, zero_and_greatest, only, a, b}
use Rattle.wd_laws.specs.examples.Functions.{numbered_by_v}
use Rattle.wd_laws.specs.examples.Limits.{first_with_ties, least_two, two_columns}
use Rattle.wd_laws.specs.examples.Faults.{two_outputs}

-- two rows that tie on v
abbrev pub two_rows_that_tie : Instance
two_rows_that_tie = only ((n 1 ∷ a ∷ Null ∷ n 1 ∷ []) ∷ (n 2 ∷ b ∷ Null ∷ n 2 ∷ []) ∷ [])

-- SELECT id, ROW_NUMBER() OVER (ORDER BY v) FROM t
abbrev pub numbered_ids : PlanTree
numbered_ids =
    select (0 ∷ 2 ∷ [])
    (window (over [] (ascending 1 ∷ []) ∷ []) (call 0 row_number ∷ [])
    (select (0 ∷ 2 ∷ []) scan_t))

-- Which outcomes are one answer: the same rows, each equally often, or the same fault.
pub record AgreeingComesOut : Type 0 where
  -- Shown with their ids, rows that tie are numbered in two ways: two answers.
  pub refute_numbering_with_ties : ¬ Agree (outcome numbered_ids two_rows_that_tie (positions 2 ∷ []))
      (outcome numbered_ids two_rows_that_tie ((1 ∷ 0 ∷ []) ∷ []))
  -- Shown with their keys alone, they are numbered in one way: answers are compared as multisets, not as lists.
  pub refute_two_answers_that_are_one_multiset : Agree (outcome numbered_by_v two_rows_that_tie (positions 2 ∷ []))
      (outcome numbered_by_v two_rows_that_tie ((1 ∷ 0 ∷ []) ∷ []))
  -- The first rows with ties of the same table, its records last to first.
  pub run_first_rows_with_ties_records_reversed : Agree (outcome first_with_ties four_rows (positions 4 ∷ []))
      (outcome first_with_ties four_rows_reversed ((2 ∷ 3 ∷ 1 ∷ 0 ∷ []) ∷ []))
  -- A Limit that cuts between rows that tie may take either: two answers.
  pub limit_that_cuts_through_ties : ¬ Agree (outcome least_two two_columns ((3 ∷ 0 ∷ 2 ∷ 1 ∷ []) ∷ []))
      (outcome least_two two_columns ((3 ∷ 2 ∷ 0 ∷ 1 ∷ []) ∷ []))
  -- A row that appears twice is not the same as a row that appears once.
  pub rows_that_stand_more_often : ¬ Agree (Ok ((n 1 ∷ []) ∷ (n 1 ∷ []) ∷ [])) (Ok ((n 1 ∷ []) ∷ []))
  -- NULL is the same as NULL.
  pub null_in_both : Agree (Ok ((Null ∷ n 1 ∷ []) ∷ [])) (Ok ((Null ∷ n 1 ∷ []) ∷ []))
  -- Two outcomes with the same fault are one answer.
  pub the_same_fault : Agree (outcome two_outputs zero_and_greatest []) (Err DivisionByZero)
  -- With different faults they are two.
  pub another_fault : ¬ Agree (Err DivisionByZero) (Err OutOfRange)
  -- Rows, even none, and a fault are two answers too.
  pub rows_and_a_fault : ¬ Agree (Ok []) (Err DivisionByZero)
