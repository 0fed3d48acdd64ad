-- Worked examples of window functions.
use Rattle.std.specs.Prelude.{◌≡◌, [], ◌∷◌, Ok}
use Rattle.wd_value.specs.declared.value.Value.TheVariants.{Null}
use Rattle.wd_value.specs.Bags.{positions}
use Rattle.wd_plan.specs.declared.window.Bound.TheVariants.{Preceding, CurrentRow, Following}
use Rattle.wd_plan.specs.declared.window.FrameMode.TheVariants.{Rows, Range, Groups}
use Rattle.wd_plan.specs.declared.window.Frame.{Frame}
use Rattle.wd_plan.specs.declared.expression.ComparisonOp.TheVariants.{Equal}
use Rattle.wd_plan.specs.Expressions.{Column, Compare}
use Rattle.wd_plan.specs.Outcomes.{outcome}
use Rattle.wd_plan.specs.Plans.{PlanTree, Filter, Over}
use Rattle.wd_laws.specs.examples.Literals.{n, minus, num, ascending, descending, row_number, rank, dense_rank, ntile, lag, lead, first_value, last_value, nth_value, count_rows, count, sum, min, max, over, between, call, call_in, window, select, scan_t, four_rows, two_groups, greatest_and_more, row, only, a, b, c, d}
use Rattle.wd_plan.specs.declared.window.Exclusion.TheVariants as exclude

-- ROWS BETWEEN 1 PRECEDING AND CURRENT ROW
abbrev pub two_rows : Frame
two_rows = between Rows (Preceding 1) CurrentRow

-- SELECT v, ROW_NUMBER() OVER (ORDER BY v) FROM t
abbrev pub numbered_by_v : PlanTree
numbered_by_v =
    select (0 ∷ 1 ∷ [])
    (window (over [] (ascending 0 ∷ []) ∷ []) (call 0 row_number ∷ [])
    (select (2 ∷ []) scan_t))

-- SELECT id, RANK() OVER w, DENSE_RANK() OVER w, COUNT(*) OVER (w RANGE BETWEEN 5 PRECEDING AND 10 FOLLOWING), LAG(id, 2, -1) OVER w
-- FROM t WINDOW w AS (ORDER BY v)
abbrev pub ranked : PlanTree
ranked =
    select (0 ∷ 2 ∷ 3 ∷ 4 ∷ 5 ∷ [])
    (window (over [] (ascending 1 ∷ []) ∷ []) (call 0 rank ∷ call 0 dense_rank ∷ call_in (between Range (Preceding 5) (Following 10)) 0 count_rows ∷ call 0 (lag 0 2 (minus 1)) ∷ [])
    (select (0 ∷ 2 ∷ []) scan_t))

-- SELECT id, SUM(v) OVER (ORDER BY v GROUPS BETWEEN 1 PRECEDING AND CURRENT ROW EXCLUDE TIES), LAST_VALUE(id) OVER (ORDER BY v) FROM t
abbrev pub without_ties : PlanTree
without_ties =
    select (0 ∷ 2 ∷ 3 ∷ [])
    (window (over [] (ascending 1 ∷ []) ∷ []) (call_in (record { mode = Groups; start = Preceding 1; end = CurrentRow; exclusion = exclude.Ties }) 0 (sum 1) ∷ call 0 (last_value 0) ∷ [])
    (select (0 ∷ 2 ∷ []) scan_t))

-- SELECT NTILE(4) OVER (ORDER BY id) FROM t
abbrev pub dealt : PlanTree
dealt = select (1 ∷ []) (window (over [] (ascending 0 ∷ []) ∷ []) (call 0 (ntile 4) ∷ []) (select (0 ∷ []) scan_t))

-- SELECT id, LEAD(v, 1, 0) OVER (ORDER BY id) FROM t
abbrev pub led : PlanTree
led =
    select (0 ∷ 2 ∷ [])
    (window (over [] (ascending 0 ∷ []) ∷ []) (call 0 (lead 1 1 (n 0)) ∷ [])
    (select (0 ∷ 2 ∷ []) scan_t))

-- SELECT id, FIRST_VALUE(v) OVER w, NTH_VALUE(v, 2) OVER w, COUNT(v) OVER w FROM t WINDOW w AS (ORDER BY id DESC ROWS BETWEEN 1
-- PRECEDING AND CURRENT ROW)
abbrev pub first_and_second : PlanTree
first_and_second =
    select (0 ∷ 2 ∷ 3 ∷ 4 ∷ [])
    (window (over [] (descending 0 ∷ []) ∷ []) (call_in two_rows 0 (first_value 1) ∷ call_in two_rows 0 (nth_value 1 2) ∷ call_in two_rows 0 (count 1) ∷ [])
    (select (0 ∷ 2 ∷ []) scan_t))

-- SELECT id, MIN(v) OVER w, MAX(v) OVER w FROM t WINDOW w AS (ORDER BY id ROWS BETWEEN 1 PRECEDING AND 1 FOLLOWING)
abbrev pub neighbours : PlanTree
neighbours =
    select (0 ∷ 2 ∷ 3 ∷ [])
    (window (over [] (ascending 0 ∷ []) ∷ []) (call_in (between Rows (Preceding 1) (Following 1)) 0 (min 1) ∷ call_in (between Rows (Preceding 1) (Following 1)) 0 (max 1) ∷ [])
    (select (0 ∷ 2 ∷ []) scan_t))

-- SELECT id, SUM(v) OVER (ORDER BY g) FROM t
abbrev pub summed_by_g : PlanTree
summed_by_g =
    select (0 ∷ 3 ∷ [])
    (window (over [] (ascending 2 ∷ []) ∷ []) (call 0 (sum 1) ∷ [])
    (select (0 ∷ 2 ∷ 1 ∷ []) scan_t))

-- SELECT SUM(v) OVER () FROM t
abbrev pub total_of_all : PlanTree
total_of_all = select (1 ∷ []) (window (over [] [] ∷ []) (call 0 (sum 0) ∷ []) (select (2 ∷ []) scan_t))

-- SELECT id, g FROM (SELECT id, g, ROW_NUMBER() OVER (PARTITION BY g ORDER BY v, id) AS n FROM t) AS s WHERE n = 1
abbrev pub first_of_each : PlanTree
first_of_each =
    select (0 ∷ 1 ∷ [])
    (Over (Filter (Compare Equal (Column 2) (num 1)))
    (select (0 ∷ 1 ∷ 3 ∷ [])
    (window (over (1 ∷ []) (ascending 2 ∷ ascending 0 ∷ []) ∷ []) (call 0 row_number ∷ [])
    (select (0 ∷ 1 ∷ 2 ∷ []) scan_t))))

-- SELECT v, k, ROW_NUMBER() OVER (ORDER BY k) FROM (SELECT v, RANK() OVER (ORDER BY v) AS k FROM t) AS s
abbrev pub numbered_by_a_rank : PlanTree
numbered_by_a_rank =
    select (0 ∷ 1 ∷ 2 ∷ [])
    (window (over [] (ascending 1 ∷ []) ∷ []) (call 0 row_number ∷ [])
    (select (0 ∷ 1 ∷ [])
    (select (0 ∷ 1 ∷ [])
    (window (over [] (ascending 0 ∷ []) ∷ []) (call 0 rank ∷ [])
    (select (2 ∷ []) scan_t)))))

-- SELECT id, ROW_NUMBER() OVER (ORDER BY v), ROW_NUMBER() OVER (ORDER BY v DESC) FROM t
abbrev pub in_two_classes : PlanTree
in_two_classes =
    select (0 ∷ 2 ∷ 3 ∷ [])
    (window (over [] (ascending 1 ∷ []) ∷ over [] (descending 1 ∷ []) ∷ []) (call 0 row_number ∷ call 1 row_number ∷ [])
    (select (0 ∷ 2 ∷ []) scan_t))

-- SELECT id, MIN(g) OVER w, MAX(g) OVER w FROM t WINDOW w AS (PARTITION BY v)
abbrev pub greatest_text : PlanTree
greatest_text =
    select (0 ∷ 3 ∷ 4 ∷ [])
    (window (over (2 ∷ []) [] ∷ []) (call 0 (min 1) ∷ call 0 (max 1) ∷ [])
    (select (0 ∷ 1 ∷ 2 ∷ []) scan_t))

-- SELECT id, RANK() OVER w, DENSE_RANK() OVER w, ROW_NUMBER() OVER w, SUM(v) OVER w, COUNT(*) OVER (PARTITION BY g) FROM t WINDOW w AS
-- (PARTITION BY g ORDER BY v DESC)
abbrev pub ranked_in_groups : PlanTree
ranked_in_groups =
    select (0 ∷ 3 ∷ 4 ∷ 5 ∷ 6 ∷ 7 ∷ [])
    (window (over (2 ∷ []) (descending 1 ∷ []) ∷ over (2 ∷ []) [] ∷ []) (call 0 rank ∷ call 0 dense_rank ∷ call 0 row_number ∷ call 0 (sum 1) ∷ call 1 count_rows ∷ [])
    (select (0 ∷ 2 ∷ 1 ∷ []) scan_t))

-- SELECT id, RANK() OVER w, DENSE_RANK() OVER w FROM t WINDOW w AS (ORDER BY g DESC, v)
abbrev pub ranked_by_two_keys : PlanTree
ranked_by_two_keys =
    select (0 ∷ 3 ∷ 4 ∷ [])
    (window (over [] (descending 1 ∷ ascending 2 ∷ []) ∷ []) (call 0 rank ∷ call 0 dense_rank ∷ [])
    (select (0 ∷ 1 ∷ 2 ∷ []) scan_t))

-- SELECT NTILE(3) OVER (ORDER BY id), NTILE(6) OVER (ORDER BY id), NTILE(1) OVER (ORDER BY id) FROM t
abbrev pub dealt_to_many : PlanTree
dealt_to_many =
    select (1 ∷ 2 ∷ 3 ∷ [])
    (window (over [] (ascending 0 ∷ []) ∷ []) (call 0 (ntile 3) ∷ call 0 (ntile 6) ∷ call 0 (ntile 1) ∷ [])
    (select (0 ∷ []) scan_t))

-- SELECT id, LAG(v, 0) OVER w, LAG(v) OVER w, LEAD(v, 2, 7) OVER w FROM t WINDOW w AS (ORDER BY id)
abbrev pub looked_about : PlanTree
looked_about =
    select (0 ∷ 2 ∷ 3 ∷ 4 ∷ [])
    (window (over [] (ascending 0 ∷ []) ∷ []) (call 0 (lag 1 0 Null) ∷ call 0 (lag 1 1 Null) ∷ call 0 (lead 1 2 (n 7)) ∷ [])
    (select (0 ∷ 2 ∷ []) scan_t))

-- The values of the window functions over a few rows.
pub record FunctionsComeOut : Type 0 where
  -- The given ordering decides the row numbers of rows that tie.
  pub evaluate_row_number_with_identity : outcome numbered_by_v four_rows (positions 4 ∷ [])
      ≡ Ok ((n 10 ∷ n 1 ∷ []) ∷ (n 10 ∷ n 2 ∷ []) ∷ (n 20 ∷ n 3 ∷ []) ∷ (Null ∷ n 4 ∷ []) ∷ [])
  -- The given ordering decides the row numbers of rows that tie: here in reverse order.
  pub evaluate_row_number_with_ties_exchanged : outcome numbered_by_v four_rows ((1 ∷ 0 ∷ 2 ∷ 3 ∷ []) ∷ [])
      ≡ Ok ((n 10 ∷ n 2 ∷ []) ∷ (n 10 ∷ n 1 ∷ []) ∷ (n 20 ∷ n 3 ∷ []) ∷ (Null ∷ n 4 ∷ []) ∷ [])
  -- Ranks, a RANGE frame with offsets and LAG with a default.
  pub evaluate_ranks_a_range_frame_and_lag : outcome ranked four_rows (positions 4 ∷ [])
      ≡ Ok ((n 1 ∷ n 1 ∷ n 1 ∷ n 3 ∷ minus 1 ∷ []) ∷ (n 2 ∷ n 1 ∷ n 1 ∷ n 3 ∷ minus 1 ∷ []) ∷ (n 3 ∷ n 3 ∷ n 2 ∷ n 1 ∷ n 1 ∷ [])
      ∷ (n 4 ∷ n 4 ∷ n 3 ∷ n 1 ∷ n 2 ∷ []) ∷ [])
  -- GROUPS with EXCLUDE TIES; CURRENT ROW in RANGE ends at the last peer.
  pub evaluate_groups_without_ties_and_last_value : outcome without_ties four_rows (positions 4 ∷ [])
      ≡ Ok ((n 1 ∷ n 10 ∷ n 2 ∷ []) ∷ (n 2 ∷ n 10 ∷ n 2 ∷ []) ∷ (n 3 ∷ n 40 ∷ n 3 ∷ []) ∷ (n 4 ∷ n 20 ∷ n 4 ∷ []) ∷ [])
  -- Larger buckets come first.
  pub ntile_of_six_rows : outcome dealt
      (only (row 1 a Null ∷ row 2 b Null ∷ row 3 c Null ∷ row 4 d Null ∷ row 5 a Null ∷ row 6 b Null ∷ []))
      (positions 6 ∷ [])
      ≡ Ok ((n 1 ∷ []) ∷ (n 1 ∷ []) ∷ (n 2 ∷ []) ∷ (n 2 ∷ []) ∷ (n 3 ∷ []) ∷ (n 4 ∷ []) ∷ [])
  -- Over an empty table the answer has no rows.
  pub ntile_of_no_rows : outcome dealt (only []) ([] ∷ [])
      ≡ Ok []
  -- The default is taken where there is no later row, not where that row's value is NULL.
  pub lead_with_a_default : outcome led four_rows (positions 4 ∷ [])
      ≡ Ok ((n 1 ∷ n 10 ∷ []) ∷ (n 2 ∷ n 20 ∷ []) ∷ (n 3 ∷ Null ∷ []) ∷ (n 4 ∷ n 0 ∷ []) ∷ [])
  -- NULLs are not skipped; where the frame has no second row, its value is NULL; COUNT(v) leaves NULL out.
  pub first_and_second_value : outcome first_and_second four_rows ((3 ∷ 2 ∷ 1 ∷ 0 ∷ []) ∷ [])
      ≡ Ok ((n 1 ∷ n 10 ∷ n 10 ∷ n 2 ∷ []) ∷ (n 2 ∷ n 20 ∷ n 10 ∷ n 2 ∷ []) ∷ (n 3 ∷ Null ∷ n 20 ∷ n 1 ∷ []) ∷ (n 4 ∷ Null ∷ Null ∷ n 0 ∷ []) ∷ [])
  -- Least and greatest values pass over NULL.
  pub least_and_greatest_of_three_neighbours : outcome neighbours four_rows (positions 4 ∷ [])
      ≡ Ok ((n 1 ∷ n 10 ∷ n 10 ∷ []) ∷ (n 2 ∷ n 10 ∷ n 20 ∷ []) ∷ (n 3 ∷ n 10 ∷ n 20 ∷ []) ∷ (n 4 ∷ n 20 ∷ n 20 ∷ []) ∷ [])
  -- The default frame runs from the first row to the last peer; SUM passes over NULL.
  pub run_sum_over_the_default_frame : outcome summed_by_g four_rows (positions 4 ∷ [])
      ≡ Ok ((n 1 ∷ n 10 ∷ []) ∷ (n 2 ∷ n 20 ∷ []) ∷ (n 3 ∷ n 40 ∷ []) ∷ (n 4 ∷ n 40 ∷ []) ∷ [])
  -- The total is exact; no running total faults on the way.
  pub sum_is_the_exact_total : outcome total_of_all greatest_and_more (positions 3 ∷ [])
      ≡ Ok ((n 9223372036854775807 ∷ []) ∷ (n 9223372036854775807 ∷ []) ∷ (n 9223372036854775807 ∷ []) ∷ [])
  -- Numbers begin at 1 in each partition.
  pub run_first_of_each_group_by_value_and_key : outcome first_of_each four_rows (positions 4 ∷ [])
      ≡ Ok ((n 1 ∷ a ∷ []) ∷ (n 2 ∷ b ∷ []) ∷ (n 3 ∷ c ∷ []) ∷ (n 4 ∷ d ∷ []) ∷ [])
  -- Each of the two partitions contributes its first row by v, then by id.
  pub first_of_two_groups : outcome first_of_each two_groups ((2 ∷ 4 ∷ 0 ∷ 1 ∷ 3 ∷ []) ∷ [])
      ≡ Ok ((n 2 ∷ b ∷ []) ∷ (n 3 ∷ a ∷ []) ∷ [])
  -- A window over the value of another; the choice has an ordering for each, in postorder.
  pub run_numbering_by_a_rank : outcome numbered_by_a_rank four_rows (positions 4 ∷ positions 4 ∷ [])
      ≡ Ok ((n 10 ∷ n 1 ∷ n 1 ∷ []) ∷ (n 10 ∷ n 1 ∷ n 2 ∷ []) ∷ (n 20 ∷ n 3 ∷ n 3 ∷ []) ∷ (Null ∷ n 4 ∷ n 4 ∷ []) ∷ [])
  -- The upper ordering alone decides the numbers.
  pub numbering_by_a_rank_with_ties_exchanged : outcome numbered_by_a_rank four_rows (positions 4 ∷ (1 ∷ 0 ∷ 2 ∷ 3 ∷ []) ∷ [])
      ≡ Ok ((n 10 ∷ n 1 ∷ n 2 ∷ []) ∷ (n 10 ∷ n 1 ∷ n 1 ∷ []) ∷ (n 20 ∷ n 3 ∷ n 3 ∷ []) ∷ (Null ∷ n 4 ∷ n 4 ∷ []) ∷ [])
  -- Each class has its own ordering; under DESC NULL comes first.
  pub numbering_in_two_classes : outcome in_two_classes four_rows (positions 4 ∷ (3 ∷ 2 ∷ 1 ∷ 0 ∷ []) ∷ [])
      ≡ Ok ((n 1 ∷ n 1 ∷ n 4 ∷ []) ∷ (n 2 ∷ n 2 ∷ n 3 ∷ []) ∷ (n 3 ∷ n 3 ∷ n 2 ∷ []) ∷ (n 4 ∷ n 4 ∷ n 1 ∷ []) ∷ [])
  -- Without sort keys all rows of a partition are peers; NULL makes a partition of its own.
  pub least_and_greatest_text_of_a_partition : outcome greatest_text four_rows ((3 ∷ 2 ∷ 1 ∷ 0 ∷ []) ∷ [])
      ≡ Ok ((n 1 ∷ a ∷ b ∷ []) ∷ (n 2 ∷ a ∷ b ∷ []) ∷ (n 3 ∷ c ∷ c ∷ []) ∷ (n 4 ∷ d ∷ d ∷ []) ∷ [])
  -- Ranks, frames and numbers are of the partition alone; a rank counts the rows before the peers, a dense rank the groups.
  pub ranks_in_two_partitions : outcome ranked_in_groups two_groups ((3 ∷ 1 ∷ 0 ∷ 4 ∷ 2 ∷ []) ∷ positions 5 ∷ [])
      ≡ Ok ((n 1 ∷ n 1 ∷ n 1 ∷ n 1 ∷ n 10 ∷ n 3 ∷ []) ∷ (n 2 ∷ n 2 ∷ n 2 ∷ n 2 ∷ n 20 ∷ n 2 ∷ []) ∷ (n 3 ∷ n 2 ∷ n 2 ∷ n 3 ∷ n 20 ∷ n 3 ∷ [])
      ∷ (n 4 ∷ n 1 ∷ n 1 ∷ n 1 ∷ Null ∷ n 2 ∷ []) ∷ (n 5 ∷ n 2 ∷ n 2 ∷ n 2 ∷ n 20 ∷ n 3 ∷ []) ∷ [])
  -- Peers tie on all keys; the first key on which two rows differ decides.
  pub ranks_by_two_keys : outcome ranked_by_two_keys two_groups ((1 ∷ 3 ∷ 2 ∷ 4 ∷ 0 ∷ []) ∷ [])
      ≡ Ok ((n 1 ∷ n 5 ∷ n 4 ∷ []) ∷ (n 2 ∷ n 1 ∷ n 1 ∷ []) ∷ (n 3 ∷ n 3 ∷ n 3 ∷ []) ∷ (n 4 ∷ n 2 ∷ n 2 ∷ []) ∷ (n 5 ∷ n 3 ∷ n 3 ∷ []) ∷ [])
  -- With more buckets than rows the last ones stay empty.
  pub ntile_of_four_rows : outcome dealt_to_many four_rows (positions 4 ∷ [])
      ≡ Ok ((n 1 ∷ n 1 ∷ n 1 ∷ []) ∷ (n 1 ∷ n 2 ∷ n 1 ∷ []) ∷ (n 2 ∷ n 3 ∷ n 1 ∷ []) ∷ (n 3 ∷ n 4 ∷ n 1 ∷ []) ∷ [])
  -- An offset of 0 gives the row itself; the default is NULL where none is given.
  pub lag_and_lead_without_a_default : outcome looked_about four_rows (positions 4 ∷ [])
      ≡ Ok ((n 1 ∷ n 10 ∷ Null ∷ n 20 ∷ []) ∷ (n 2 ∷ n 10 ∷ n 10 ∷ Null ∷ []) ∷ (n 3 ∷ n 20 ∷ n 10 ∷ n 7 ∷ []) ∷ (n 4 ∷ Null ∷ n 20 ∷ n 7 ∷ []) ∷ [])
