-- Worked examples of joins, conditions and DISTINCT.
use Rattle.std.specs.Prelude.{◌≡◌, [], ◌∷◌, Ok, Some, None, false}
use Rattle.wd_value.specs.declared.value.Value.TheVariants.{Null}
use Rattle.wd_value.specs.Bags.{positions}
use Rattle.wd_value.specs.Rows.{Instance}
use Rattle.wd_plan.specs.declared.expression.ComparisonOp.TheVariants.{Equal, Greater}
use Rattle.wd_plan.specs.Expressions.{Column, Compare, Not, IsNotNull}
use Rattle.wd_plan.specs.Outcomes.{outcome}
use Rattle.wd_plan.specs.Plans.{PlanTree, Scan, Join, Filter, Distinct, Over}
use Rattle.wd_laws.specs.examples.Literals.{n, num, ascending, descending, row_number, over, call, window, select, limited, scan_t, four_rows, four_rows_reversed, row, only, a, b, c, d}

-- SELECT a.id, b.id, ROW_NUMBER() OVER (ORDER BY a.id, b.id) FROM t AS a JOIN t AS b ON a.v = b.v
abbrev pub numbered_self_join : PlanTree
numbered_self_join =
    select (0 ∷ 1 ∷ 2 ∷ [])
    (window (over [] (ascending 0 ∷ ascending 1 ∷ []) ∷ []) (call 0 row_number ∷ [])
    (select (0 ∷ 4 ∷ [])
    (Join (Some (Compare Equal (Column 2) (Column 6))) scan_t scan_t)))

-- two tables: t with the rows a and b, s with the rows 1, 2 and 3
abbrev pub two_tables : Instance
two_tables = ((a ∷ []) ∷ (b ∷ []) ∷ []) ∷ ((n 1 ∷ []) ∷ (n 2 ∷ []) ∷ (n 3 ∷ []) ∷ []) ∷ []

-- SELECT * FROM t CROSS JOIN s
abbrev pub pairs_of_both : PlanTree
pairs_of_both = select (0 ∷ 1 ∷ []) (Join None (Scan 0 1) (Scan 1 1))

-- SELECT * FROM t JOIN s ON w > 1
abbrev pub pairs_above_one : PlanTree
pairs_above_one = select (0 ∷ 1 ∷ []) (Join (Some (Compare Greater (Column 1) (num 1))) (Scan 0 1) (Scan 1 1))

-- SELECT * FROM (SELECT g FROM t ORDER BY g FETCH FIRST 1 ROW ONLY) AS x CROSS JOIN (SELECT w FROM s ORDER BY w DESC FETCH FIRST 2 ROWS
-- ONLY) AS y
abbrev pub joined_limits : PlanTree
joined_limits =
    select (0 ∷ 1 ∷ [])
    (Join None
    (limited (ascending 0 ∷ []) 0 (Some 1) false
    (select (0 ∷ []) (Scan 0 1)))
    (limited (descending 0 ∷ []) 0 (Some 2) false
    (select (0 ∷ []) (Scan 1 1))))

-- SELECT id FROM t WHERE v = 10
abbrev pub with_ten : PlanTree
with_ten = select (0 ∷ []) (Over (Filter (Compare Equal (Column 2) (num 10))) scan_t)

-- SELECT id FROM t WHERE NOT (v = 10)
abbrev pub not_with_ten : PlanTree
not_with_ten = select (0 ∷ []) (Over (Filter (Not (Compare Equal (Column 2) (num 10)))) scan_t)

-- SELECT id, ROW_NUMBER() OVER (ORDER BY u) FROM t WHERE u IS NOT NULL
abbrev pub numbered_where_unique : PlanTree
numbered_where_unique =
    select (0 ∷ 2 ∷ [])
    (window (over [] (ascending 1 ∷ []) ∷ []) (call 0 row_number ∷ [])
    (select (0 ∷ 3 ∷ [])
    (Over (Filter (IsNotNull (Column 3))) scan_t)))

-- SELECT DISTINCT v FROM t
abbrev pub keys_once : PlanTree
keys_once = Over Distinct (select (2 ∷ []) scan_t)

-- SELECT DISTINCT v FROM t ORDER BY v DESC FETCH FIRST 2 ROWS ONLY
abbrev pub greatest_once : PlanTree
greatest_once = limited (descending 0 ∷ []) 0 (Some 2) false (Over Distinct (select (2 ∷ []) scan_t))

-- The rows of joins, conditions and DISTINCT.
pub record JoinsComeOut : Type 0 where
  -- A condition that is NULL keeps no pair; the first key decides before the second.
  pub run_numbering_of_a_self_join_by_both_keys : outcome numbered_self_join four_rows (positions 5 ∷ [])
      ≡ Ok ((n 1 ∷ n 1 ∷ n 1 ∷ []) ∷ (n 1 ∷ n 2 ∷ n 2 ∷ []) ∷ (n 2 ∷ n 1 ∷ n 3 ∷ []) ∷ (n 2 ∷ n 2 ∷ n 4 ∷ []) ∷ (n 3 ∷ n 3 ∷ n 5 ∷ []) ∷ [])
  -- With the rows from last to first the answer has the same rows as a multiset.
  pub run_numbering_of_a_self_join_by_both_keys_records_reversed : outcome numbered_self_join four_rows_reversed ((4 ∷ 3 ∷ 2 ∷ 1 ∷ 0 ∷ []) ∷ [])
      ≡ Ok ((n 3 ∷ n 3 ∷ n 5 ∷ []) ∷ (n 2 ∷ n 2 ∷ n 4 ∷ []) ∷ (n 2 ∷ n 1 ∷ n 3 ∷ []) ∷ (n 1 ∷ n 2 ∷ n 2 ∷ []) ∷ (n 1 ∷ n 1 ∷ n 1 ∷ []) ∷ [])
  -- All pairs, the left row outermost.
  pub cross_join : outcome pairs_of_both two_tables []
      ≡ Ok ((a ∷ n 1 ∷ []) ∷ (a ∷ n 2 ∷ []) ∷ (a ∷ n 3 ∷ []) ∷ (b ∷ n 1 ∷ []) ∷ (b ∷ n 2 ∷ []) ∷ (b ∷ n 3 ∷ []) ∷ [])
  -- The pairs for which the condition is true.
  pub join_by_a_condition_on_one_side : outcome pairs_above_one two_tables []
      ≡ Ok ((a ∷ n 2 ∷ []) ∷ (a ∷ n 3 ∷ []) ∷ (b ∷ n 2 ∷ []) ∷ (b ∷ n 3 ∷ []) ∷ [])
  -- The left side's ordering comes before the right side's in the choice.
  pub join_of_two_limits : outcome joined_limits two_tables (positions 2 ∷ (2 ∷ 1 ∷ 0 ∷ []) ∷ [])
      ≡ Ok ((a ∷ n 3 ∷ []) ∷ (a ∷ n 2 ∷ []) ∷ [])
  -- A row passes where the condition is true: not where it is false or NULL.
  pub condition_on_a_value : outcome with_ten four_rows []
      ≡ Ok ((n 1 ∷ []) ∷ (n 2 ∷ []) ∷ [])
  -- NOT of NULL is NULL, so the row whose v is NULL passes neither condition.
  pub null_does_not_pass_under_not : outcome not_with_ten four_rows []
      ≡ Ok ((n 3 ∷ []) ∷ [])
  -- No row is left to number; the ordering is of the rows that the condition leaves.
  pub run_numbering_by_a_unique_column_without_nulls : outcome numbered_where_unique four_rows ([] ∷ [])
      ≡ Ok []
  -- NULL and NULL are not distinct.
  pub distinct_keeps_first_occurrences : outcome keys_once
      (only (row 1 a Null ∷ row 2 b (n 10) ∷ row 3 c Null ∷ row 4 d (n 10) ∷ row 5 a (n 5) ∷ []))
      []
      ≡ Ok ((Null ∷ []) ∷ (n 10 ∷ []) ∷ (n 5 ∷ []) ∷ [])
  -- The ordering is of the rows that DISTINCT leaves.
  pub distinct_before_a_limit : outcome greatest_once four_rows ((2 ∷ 1 ∷ 0 ∷ []) ∷ [])
      ≡ Ok ((Null ∷ []) ∷ (n 20 ∷ []) ∷ [])
