-- Worked examples of sorted and limited rows.
use Rattle.std.specs.Prelude.{◌≡◌, [], ◌∷◌, Ok, Some, None, true, false}
use Rattle.wd_value.specs.declared.value.Value.TheVariants.{Null}
use Rattle.wd_value.specs.Bags.{positions}
use Rattle.wd_value.specs.Rows.{Instance}
use Rattle.wd_plan.specs.Outcomes.{outcome}
use Rattle.wd_plan.specs.Plans.{PlanTree, Scan}
use Rattle.wd_laws.specs.examples.Literals.{n, ascending, descending, sum, over, call, window, select, limited, scan_t, four_rows, a, b}

-- id, v: two rows tie on v, and one has none
abbrev pub two_columns : Instance
two_columns = ((n 1 ∷ n 10 ∷ []) ∷ (n 2 ∷ Null ∷ []) ∷ (n 3 ∷ n 10 ∷ []) ∷ (n 4 ∷ n 5 ∷ []) ∷ []) ∷ []

-- SELECT id, v FROM t ORDER BY v FETCH FIRST 2 ROWS ONLY
abbrev pub least_two : PlanTree
least_two = limited (ascending 1 ∷ []) 0 (Some 2) false (select (0 ∷ 1 ∷ []) (Scan 0 2))

-- SELECT id, v FROM t ORDER BY v DESC FETCH FIRST 2 ROWS ONLY
abbrev pub greatest_two : PlanTree
greatest_two = limited (descending 1 ∷ []) 0 (Some 2) false (select (0 ∷ 1 ∷ []) (Scan 0 2))

-- SELECT id, v FROM t ORDER BY v FETCH FIRST 0 ROWS ONLY
abbrev pub none_at_all : PlanTree
none_at_all = limited (ascending 1 ∷ []) 0 (Some 0) false (select (0 ∷ 1 ∷ []) (Scan 0 2))

-- SELECT v FROM t ORDER BY id DESC FETCH FIRST 2 ROWS ONLY
abbrev pub last_two_by_id : PlanTree
last_two_by_id = select (0 ∷ []) (limited (descending 1 ∷ []) 0 (Some 2) false (select (1 ∷ 0 ∷ []) (Scan 0 2)))

-- SELECT id FROM t ORDER BY v DESC OFFSET 2 FETCH NEXT 1 ROWS WITH TIES
abbrev pub third_with_ties : PlanTree
third_with_ties = select (0 ∷ []) (limited (descending 1 ∷ []) 2 (Some 1) true (select (0 ∷ 2 ∷ []) scan_t))

-- SELECT id FROM t ORDER BY v DESC LIMIT 1 OFFSET 1
abbrev pub second_by_v : PlanTree
second_by_v = select (0 ∷ []) (limited (descending 1 ∷ []) 1 (Some 1) false (select (0 ∷ 2 ∷ []) scan_t))

-- SELECT id, v FROM t ORDER BY v FETCH FIRST 1 ROW WITH TIES
abbrev pub first_with_ties : PlanTree
first_with_ties = limited (ascending 1 ∷ []) 0 (Some 1) true (select (0 ∷ 2 ∷ []) scan_t)

-- SELECT id, v FROM t ORDER BY v FETCH FIRST 2 ROWS WITH TIES
abbrev pub first_two_with_ties : PlanTree
first_two_with_ties = limited (ascending 1 ∷ []) 0 (Some 2) true (select (0 ∷ 2 ∷ []) scan_t)

-- SELECT id FROM t ORDER BY v OFFSET 1 FETCH NEXT 9 ROWS WITH TIES
abbrev pub last_with_ties : PlanTree
last_with_ties = select (0 ∷ []) (limited (ascending 1 ∷ []) 1 (Some 9) true (select (0 ∷ 2 ∷ []) scan_t))

-- SELECT id FROM t ORDER BY v FETCH FIRST 0 ROWS WITH TIES
abbrev pub none_with_ties : PlanTree
none_with_ties = select (0 ∷ []) (limited (ascending 1 ∷ []) 0 (Some 0) true (select (0 ∷ 2 ∷ []) scan_t))

-- SELECT id, g FROM t ORDER BY g DESC OFFSET 2
abbrev pub all_but_two : PlanTree
all_but_two = limited (descending 1 ∷ []) 2 None false (select (0 ∷ 1 ∷ []) scan_t)

-- SELECT id FROM t ORDER BY id OFFSET 4 FETCH NEXT 1 ROW ONLY
abbrev pub past_the_last : PlanTree
past_the_last = limited (ascending 0 ∷ []) 4 (Some 1) false (select (0 ∷ []) scan_t)

-- SELECT id FROM t LIMIT 2
abbrev pub unsorted : PlanTree
unsorted = limited [] 0 (Some 2) false (select (0 ∷ []) scan_t)

-- SELECT id FROM (SELECT id, v FROM t ORDER BY v DESC FETCH FIRST 3 ROWS ONLY) AS s ORDER BY v, id FETCH FIRST 2 ROWS ONLY
abbrev pub limit_of_limited : PlanTree
limit_of_limited =
    select (0 ∷ [])
    (limited (ascending 1 ∷ ascending 0 ∷ []) 0 (Some 2) false
    (select (0 ∷ 1 ∷ [])
    (limited (descending 1 ∷ []) 0 (Some 3) false
    (select (0 ∷ 2 ∷ []) scan_t))))

-- SELECT id FROM (SELECT id, SUM(v) OVER (ORDER BY id) AS s FROM t) AS x ORDER BY s DESC, id FETCH FIRST 1 ROW WITH TIES
abbrev pub greatest_total : PlanTree
greatest_total =
    select (0 ∷ [])
    (limited (descending 1 ∷ ascending 0 ∷ []) 0 (Some 1) true
    (select (0 ∷ 1 ∷ [])
    (select (0 ∷ 2 ∷ [])
    (window (over [] (ascending 0 ∷ []) ∷ []) (call 0 (sum 1) ∷ [])
    (select (0 ∷ 2 ∷ []) scan_t)))))

-- The rows that OFFSET, FETCH and LIMIT leave.
pub record LimitsComeOut : Type 0 where
  -- The two least rows by v: rows that tie keep the table's order in this ordering, and NULL comes last.
  pub least_two_rows_ascending : outcome least_two two_columns ((3 ∷ 0 ∷ 2 ∷ 1 ∷ []) ∷ [])
      ≡ Ok ((n 4 ∷ n 5 ∷ []) ∷ (n 1 ∷ n 10 ∷ []) ∷ [])
  -- The other row that ties may come instead.
  pub least_two_rows_with_ties_exchanged : outcome least_two two_columns ((3 ∷ 2 ∷ 0 ∷ 1 ∷ []) ∷ [])
      ≡ Ok ((n 4 ∷ n 5 ∷ []) ∷ (n 3 ∷ n 10 ∷ []) ∷ [])
  -- Descending order puts NULL first.
  pub first_two_rows_descending : outcome greatest_two two_columns ((1 ∷ 0 ∷ 2 ∷ 3 ∷ []) ∷ [])
      ≡ Ok ((n 2 ∷ Null ∷ []) ∷ (n 1 ∷ n 10 ∷ []) ∷ [])
  -- A count of zero gives no row.
  pub fetch_first_zero_rows : outcome none_at_all two_columns ((3 ∷ 0 ∷ 2 ∷ 1 ∷ []) ∷ [])
      ≡ Ok []
  -- The sort key need not be shown.
  pub sort_key_that_is_not_shown : outcome last_two_by_id two_columns ((3 ∷ 2 ∷ 1 ∷ 0 ∷ []) ∷ [])
      ≡ Ok ((n 5 ∷ []) ∷ (n 10 ∷ []) ∷ [])
  -- WITH TIES adds the peers of the last row taken.
  pub ties_after_an_offset : outcome third_with_ties four_rows ((3 ∷ 2 ∷ 0 ∷ 1 ∷ []) ∷ [])
      ≡ Ok ((n 1 ∷ []) ∷ (n 2 ∷ []) ∷ [])
  -- LIMIT and OFFSET may be written in either order; NULL comes first under DESC.
  pub limit_before_offset : outcome second_by_v four_rows ((3 ∷ 2 ∷ 0 ∷ 1 ∷ []) ∷ [])
      ≡ Ok ((n 3 ∷ []) ∷ [])
  -- The peer of the first row comes too.
  pub run_first_rows_with_ties : outcome first_with_ties four_rows (positions 4 ∷ [])
      ≡ Ok ((n 1 ∷ n 10 ∷ []) ∷ (n 2 ∷ n 10 ∷ []) ∷ [])
  -- Only peers of the last row taken are added: here there are none after it.
  pub ties_that_are_taken_already : outcome first_two_with_ties four_rows (positions 4 ∷ [])
      ≡ Ok ((n 1 ∷ n 10 ∷ []) ∷ (n 2 ∷ n 10 ∷ []) ∷ [])
  -- The rows after the offset, where there are fewer than the count.
  pub fewer_rows_than_the_count : outcome last_with_ties four_rows (positions 4 ∷ [])
      ≡ Ok ((n 2 ∷ []) ∷ (n 3 ∷ []) ∷ (n 4 ∷ []) ∷ [])
  -- A count of zero gives no row with ties either.
  pub zero_rows_with_ties : outcome none_with_ties four_rows (positions 4 ∷ [])
      ≡ Ok []
  -- Without a count all rows after the offset are taken, in the ordering.
  pub offset_without_a_count : outcome all_but_two four_rows ((3 ∷ 2 ∷ 1 ∷ 0 ∷ []) ∷ [])
      ≡ Ok ((n 2 ∷ b ∷ []) ∷ (n 1 ∷ a ∷ []) ∷ [])
  -- After the last row there are no rows.
  pub offset_past_the_last_row : outcome past_the_last four_rows (positions 4 ∷ [])
      ≡ Ok []
  -- Without sort keys any two rows may come.
  pub limit_without_an_order : outcome unsorted four_rows ((2 ∷ 0 ∷ 3 ∷ 1 ∷ []) ∷ [])
      ≡ Ok ((n 3 ∷ []) ∷ (n 1 ∷ []) ∷ [])
  -- The upper ordering is of the rows that the lower Limit gives, in the order in which it gives them.
  pub limit_of_a_limit : outcome limit_of_limited four_rows ((3 ∷ 2 ∷ 1 ∷ 0 ∷ []) ∷ (2 ∷ 1 ∷ 0 ∷ []) ∷ [])
      ≡ Ok ((n 2 ∷ []) ∷ (n 3 ∷ []) ∷ [])
  -- Another lower ordering gives other rows: here row 1 in place of row 2.
  pub limit_of_another_choice : outcome limit_of_limited four_rows ((3 ∷ 2 ∷ 0 ∷ 1 ∷ []) ∷ (2 ∷ 1 ∷ 0 ∷ []) ∷ [])
      ≡ Ok ((n 1 ∷ []) ∷ (n 3 ∷ []) ∷ [])
  -- The Limit's ordering comes after the Window's in the choice; a row that ties only on the first key is no peer.
  pub limit_over_a_window : outcome greatest_total four_rows (positions 4 ∷ (2 ∷ 3 ∷ 1 ∷ 0 ∷ []) ∷ [])
      ≡ Ok ((n 3 ∷ []) ∷ [])
