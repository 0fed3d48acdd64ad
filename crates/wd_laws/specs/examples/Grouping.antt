-- Worked examples of groups: grouping sets, aggregates and GROUPING, and windows over groups.
use Rattle.std.specs.Prelude.{◌≡◌, ℕ, List, [], ◌∷◌, Ok, Err}
use Rattle.wd_value.specs.declared.value.Value.TheVariants.{Null}
use Rattle.wd_value.specs.declared.value.Fault.TheVariants.{OutOfRange}
use Rattle.wd_value.specs.Bags.{positions}
use Rattle.wd_value.specs.Rows.{Instance}
use Rattle.wd_plan.specs.declared.expression.ComparisonOp.TheVariants.{Greater}
use Rattle.wd_plan.specs.declared.function.Aggregate.TheVariants as of_rows
use Rattle.wd_plan.specs.Expressions.{Column, Compare}
use Rattle.wd_plan.specs.Outcomes.{Agree, outcome}
use Rattle.wd_plan.specs.Plans.{GroupCall, OfRows, Grouping, PlanTree, Filter, Group, Over}
use Rattle.wd_laws.specs.examples.Literals.{n, num, ascending, descending, row_number, sum, over, call, window, select, scan_t, only, row, four_rows, two_groups, greatest_and_more, a, b, c, d}

-- these grouping sets of the first N columns, with these calls for each group
abbrev pub group : ℕ → List (List ℕ) → List GroupCall → PlanTree → PlanTree
group columns sets calls input = Over (Group (record { columns = columns; sets = sets; calls = calls })) input

abbrev pub count_of_rows : GroupCall
count_of_rows = OfRows of_rows.CountRows

-- SELECT g, COUNT(*) AS c, SUM(v) AS s, GROUPING(g) AS m FROM t GROUP BY ROLLUP (g)
abbrev pub rolled_up : PlanTree
rolled_up =
    select (0 ∷ 1 ∷ 2 ∷ 3 ∷ [])
    (group 1 ((0 ∷ []) ∷ [] ∷ []) (count_of_rows ∷ OfRows (of_rows.Sum 1) ∷ Grouping (0 ∷ []) ∷ [])
    (select (1 ∷ 2 ∷ []) scan_t))

-- SELECT v, COUNT(*) AS c FROM t GROUP BY v HAVING COUNT(*) > 1
abbrev pub more_than_one : PlanTree
more_than_one =
    select (0 ∷ 1 ∷ [])
    (Over (Filter (Compare Greater (Column 1) (num 1)))
    (group 1 ((0 ∷ []) ∷ []) (count_of_rows ∷ [])
    (select (2 ∷ []) scan_t)))

-- SELECT g, SUM(SUM(v)) OVER (ORDER BY g) AS s FROM t GROUP BY g
abbrev pub running_sum_of_sums : PlanTree
running_sum_of_sums =
    select (0 ∷ 2 ∷ [])
    (window (over [] (ascending 0 ∷ []) ∷ []) (call 0 (sum 1) ∷ [])
    (select (0 ∷ 1 ∷ [])
    (group 1 ((0 ∷ []) ∷ []) (OfRows (of_rows.Sum 1) ∷ [])
    (select (1 ∷ 2 ∷ []) scan_t))))

-- SELECT g, COUNT(*) AS c, ROW_NUMBER() OVER (ORDER BY g) AS n FROM t GROUP BY ROLLUP (g)
abbrev pub numbered_rollup : PlanTree
numbered_rollup =
    select (0 ∷ 1 ∷ 2 ∷ [])
    (window (over [] (ascending 0 ∷ []) ∷ []) (call 0 row_number ∷ [])
    (select (0 ∷ 1 ∷ [])
    (group 1 ((0 ∷ []) ∷ [] ∷ []) (count_of_rows ∷ [])
    (select (1 ∷ []) scan_t))))

-- SELECT g, COUNT(*) AS c, ROW_NUMBER() OVER (ORDER BY GROUPING(g), g) AS n FROM t GROUP BY ROLLUP (g)
abbrev pub numbered_rollup_told_apart : PlanTree
numbered_rollup_told_apart =
    select (0 ∷ 1 ∷ 3 ∷ [])
    (window (over [] (ascending 2 ∷ ascending 0 ∷ []) ∷ []) (call 0 row_number ∷ [])
    (select (0 ∷ 1 ∷ 2 ∷ [])
    (group 1 ((0 ∷ []) ∷ [] ∷ []) (count_of_rows ∷ Grouping (0 ∷ []) ∷ [])
    (select (1 ∷ []) scan_t))))

-- SELECT v, ROW_NUMBER() OVER (ORDER BY COUNT(*) DESC) AS n FROM t GROUP BY v
abbrev pub numbered_by_count : PlanTree
numbered_by_count =
    select (0 ∷ 2 ∷ [])
    (window (over [] (descending 1 ∷ []) ∷ []) (call 0 row_number ∷ [])
    (select (0 ∷ 1 ∷ [])
    (group 1 ((0 ∷ []) ∷ []) (count_of_rows ∷ [])
    (select (2 ∷ []) scan_t))))

-- SELECT g FROM t GROUP BY GROUPING SETS ((g), (g))
abbrev pub twice_the_same : PlanTree
twice_the_same = select (0 ∷ []) (group 1 ((0 ∷ []) ∷ (0 ∷ []) ∷ []) [] (select (1 ∷ []) scan_t))

-- SELECT g, v, COUNT(u), MIN(v), MAX(v), GROUPING(g, v) FROM t GROUP BY CUBE (g, v)
abbrev pub cube : PlanTree
cube =
    select (0 ∷ 1 ∷ 2 ∷ 3 ∷ 4 ∷ 5 ∷ [])
    (group 2 ((0 ∷ 1 ∷ []) ∷ (0 ∷ []) ∷ (1 ∷ []) ∷ [] ∷ []) (OfRows (of_rows.Count 2) ∷ OfRows (of_rows.Min 1) ∷ OfRows (of_rows.Max 1) ∷ Grouping (0 ∷ 1 ∷ []) ∷ [])
    (select (1 ∷ 2 ∷ 3 ∷ []) scan_t))

-- SELECT g FROM t GROUP BY g
abbrev pub grouped_alone : PlanTree
grouped_alone = select (0 ∷ []) (group 1 ((0 ∷ []) ∷ []) [] (select (1 ∷ []) scan_t))

-- SELECT SUM(v) FROM t
abbrev pub sum_of_all : PlanTree
sum_of_all = select (0 ∷ []) (group 0 ([] ∷ []) (OfRows (of_rows.Sum 0) ∷ []) (select (2 ∷ []) scan_t))

-- SELECT g, SUM(v) FROM t GROUP BY GROUPING SETS ((g), ())
abbrev pub sums_of_groups_and_all : PlanTree
sums_of_groups_and_all = select (0 ∷ 1 ∷ []) (group 1 ((0 ∷ []) ∷ [] ∷ []) (OfRows (of_rows.Sum 1) ∷ []) (select (1 ∷ 2 ∷ []) scan_t))

-- the greatest number of 64 bits, and 1
abbrev pub past_the_greatest : Instance
past_the_greatest = only (row 1 a (n 9223372036854775807) ∷ row 2 b (n 1) ∷ [])

-- one row of each of two values
abbrev pub one_of_each : Instance
one_of_each = only ((n 1 ∷ a ∷ n 1 ∷ n 1 ∷ []) ∷ (n 2 ∷ b ∷ n 2 ∷ n 2 ∷ []) ∷ [])

-- The rows of groups.
pub record GroupsComeOut : Type 0 where
  -- The sets in order, the groups of each in the order of their first rows; a column outside the set is NULL, which GROUPING tells.
  pub run_rollup_with_grouping : outcome rolled_up four_rows []
      ≡ Ok ((a ∷ n 1 ∷ n 10 ∷ n 0 ∷ []) ∷ (b ∷ n 1 ∷ n 10 ∷ n 0 ∷ []) ∷ (c ∷ n 1 ∷ n 20 ∷ n 0 ∷ []) ∷ (d ∷ n 1 ∷ Null ∷ n 0 ∷ []) ∷ (Null ∷ n 4 ∷ n 40 ∷ n 1 ∷ []) ∷ [])
  -- Over no rows the empty set has one group and the other sets none.
  pub run_rollup_over_no_rows : outcome rolled_up (only []) []
      ≡ Ok ((Null ∷ n 0 ∷ Null ∷ n 1 ∷ []) ∷ [])
  -- HAVING keeps groups.
  pub run_having_more_than_one_row : outcome more_than_one four_rows []
      ≡ Ok ((n 10 ∷ n 2 ∷ []) ∷ [])
  -- A window is over the groups.
  pub run_running_sum_of_sums : outcome running_sum_of_sums four_rows (positions 4 ∷ [])
      ≡ Ok ((a ∷ n 10 ∷ []) ∷ (b ∷ n 20 ∷ []) ∷ (c ∷ n 40 ∷ []) ∷ (d ∷ n 40 ∷ []) ∷ [])
  -- Numbers over a rollup; where g is never NULL the rows are told apart, but g alone does not show it.
  pub numbering_of_a_rollup : outcome numbered_rollup four_rows (positions 5 ∷ [])
      ≡ Ok ((a ∷ n 1 ∷ n 1 ∷ []) ∷ (b ∷ n 1 ∷ n 2 ∷ []) ∷ (c ∷ n 1 ∷ n 3 ∷ []) ∷ (d ∷ n 1 ∷ n 4 ∷ []) ∷ (Null ∷ n 4 ∷ n 5 ∷ []) ∷ [])
  pub numbering_of_a_rollup_by_grouping : outcome numbered_rollup_told_apart four_rows (positions 5 ∷ [])
      ≡ Ok ((a ∷ n 1 ∷ n 1 ∷ []) ∷ (b ∷ n 1 ∷ n 2 ∷ []) ∷ (c ∷ n 1 ∷ n 3 ∷ []) ∷ (d ∷ n 1 ∷ n 4 ∷ []) ∷ (Null ∷ n 4 ∷ n 5 ∷ []) ∷ [])
  -- Groups with the same number of rows tie: two answers.
  pub numbering_of_groups_by_their_count : ¬ Agree (outcome numbered_by_count one_of_each (positions 2 ∷ [])) (outcome numbered_by_count one_of_each ((1 ∷ 0 ∷ []) ∷ []))
  -- A repeated set repeats its rows.
  pub run_a_repeated_set : outcome twice_the_same four_rows []
      ≡ Ok ((a ∷ []) ∷ (b ∷ []) ∷ (c ∷ []) ∷ (d ∷ []) ∷ (a ∷ []) ∷ (b ∷ []) ∷ (c ∷ []) ∷ (d ∷ []) ∷ [])
  -- The last argument of GROUPING has the lowest bit; a NULL in a grouping column is a group of its own.
  pub cube_of_two_columns : outcome cube two_groups []
      ≡ Ok ((a ∷ n 10 ∷ n 0 ∷ n 10 ∷ n 10 ∷ n 0 ∷ []) ∷ (b ∷ n 20 ∷ n 0 ∷ n 20 ∷ n 20 ∷ n 0 ∷ []) ∷ (a ∷ n 5 ∷ n 0 ∷ n 5 ∷ n 5 ∷ n 0 ∷ []) ∷ (b ∷ Null ∷ n 0 ∷ Null ∷ Null ∷ n 0 ∷ [])
      ∷ (a ∷ Null ∷ n 0 ∷ n 5 ∷ n 10 ∷ n 1 ∷ []) ∷ (b ∷ Null ∷ n 0 ∷ n 20 ∷ n 20 ∷ n 1 ∷ [])
      ∷ (Null ∷ n 10 ∷ n 0 ∷ n 10 ∷ n 10 ∷ n 2 ∷ []) ∷ (Null ∷ n 20 ∷ n 0 ∷ n 20 ∷ n 20 ∷ n 2 ∷ []) ∷ (Null ∷ n 5 ∷ n 0 ∷ n 5 ∷ n 5 ∷ n 2 ∷ []) ∷ (Null ∷ Null ∷ n 0 ∷ Null ∷ Null ∷ n 2 ∷ [])
      ∷ (Null ∷ Null ∷ n 0 ∷ n 5 ∷ n 20 ∷ n 3 ∷ []) ∷ [])
  -- Without calls each group shows only its columns; over no rows there is no group.
  pub grouping_without_calls : outcome grouped_alone two_groups []
      ≡ Ok ((a ∷ []) ∷ (b ∷ []) ∷ [])
  pub grouping_of_no_rows : outcome grouped_alone (only []) []
      ≡ Ok []
  -- A total is exact: no running total is a fault.
  pub a_total_that_64_bits_hold : outcome sum_of_all greatest_and_more []
      ≡ Ok ((n 9223372036854775807 ∷ []) ∷ [])
  -- The fault of one group is the step's.
  pub a_total_out_of_range : outcome sums_of_groups_and_all past_the_greatest []
      ≡ Err OutOfRange
