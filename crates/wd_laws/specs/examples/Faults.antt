-- Worked examples of faults.
use Rattle.std.specs.Prelude.{◌≡◌, [], ◌∷◌, Ok, Err, Some, None, false}
use Rattle.wd_value.specs.declared.value.Value.TheVariants.{Null}
use Rattle.wd_value.specs.declared.value.Fault.TheVariants.{DivisionByZero, OutOfRange}
use Rattle.wd_value.specs.Bags.{positions}
use Rattle.wd_plan.specs.declared.expression.ArithmeticOp.TheVariants.{Add, Subtract, Divide, Remainder}
use Rattle.wd_plan.specs.declared.expression.ComparisonOp.TheVariants.{Equal, NotEqual}
use Rattle.wd_plan.specs.declared.expression.ValueKind.TheVariants.{Number}
use Rattle.wd_plan.specs.Expressions.{Column, Literal, Negate, Arithmetic, Compare}
use Rattle.wd_plan.specs.Outcomes.{outcome}
use Rattle.wd_plan.specs.Plans.{PlanTree, Join, Filter, Map, Over}
use Rattle.wd_laws.specs.examples.Literals.{n, minus, num, ascending, row_number, sum, over, call, window, select, limited, scan_t, four_rows, one_row, greatest_and_more, zero_and_greatest, greatest_beside_zero, row, only, a, b}

-- SELECT 10 / v, v + 1 FROM t
abbrev pub two_outputs : PlanTree
two_outputs = Over (Map (Arithmetic Divide (num 10) (Column 2) ∷ Arithmetic Add (Column 2) (num 1) ∷ [])) scan_t

-- SELECT v + 1, 10 / u FROM t
abbrev pub other_outputs : PlanTree
other_outputs = Over (Map (Arithmetic Add (Column 2) (num 1) ∷ Arithmetic Divide (num 10) (Column 3) ∷ [])) scan_t

-- SELECT (v + 1) + 10 / u FROM t
abbrev pub left_first : PlanTree
left_first = Over (Map (Arithmetic Add (Arithmetic Add (Column 2) (num 1)) (Arithmetic Divide (num 10) (Column 3)) ∷ [])) scan_t

-- SELECT -9223372036854775808 / -1 FROM t
abbrev pub least_divided : PlanTree
least_divided = Over (Map (Arithmetic Divide (Literal (minus 9223372036854775808) Number) (Literal (minus 1) Number) ∷ [])) scan_t

-- SELECT v % 0 FROM t
abbrev pub remaining : PlanTree
remaining = Over (Map (Arithmetic Remainder (Column 2) (num 0) ∷ [])) scan_t

-- SELECT -v FROM t
abbrev pub negated_v : PlanTree
negated_v = Over (Map (Negate (Column 2) ∷ [])) scan_t

-- SELECT v - 1 FROM t
abbrev pub less_one : PlanTree
less_one = Over (Map (Arithmetic Subtract (Column 2) (num 1) ∷ [])) scan_t

-- SELECT id FROM t WHERE 10 / v = 1
abbrev pub filtered : PlanTree
filtered = select (0 ∷ []) (Over (Filter (Compare Equal (Arithmetic Divide (num 10) (Column 2)) (num 1))) scan_t)

-- SELECT 10 / v FROM t WHERE v <> 0
abbrev pub filtered_first : PlanTree
filtered_first = Over (Map (Arithmetic Divide (num 10) (Column 2) ∷ [])) (Over (Filter (Compare NotEqual (Column 2) (num 0))) scan_t)

-- SELECT * FROM (SELECT v + 1 FROM t) AS x CROSS JOIN (SELECT 10 / u FROM t) AS y
abbrev pub joined_faults : PlanTree
joined_faults =
    Join None
    (Over (Map (Arithmetic Add (Column 2) (num 1) ∷ [])) scan_t)
    (Over (Map (Arithmetic Divide (num 10) (Column 3) ∷ [])) scan_t)

-- SELECT * FROM t AS a JOIN t AS b ON a.v / b.v = 1
abbrev pub joined_by_a_fault : PlanTree
joined_by_a_fault = Join (Some (Compare Equal (Arithmetic Divide (Column 2) (Column 6)) (num 1))) scan_t scan_t

-- SELECT SUM(v) OVER (ORDER BY id) FROM t
abbrev pub summed_by_id : PlanTree
summed_by_id = select (2 ∷ []) (window (over [] (ascending 1 ∷ []) ∷ []) (call 0 (sum 0) ∷ []) (select (2 ∷ 0 ∷ []) scan_t))

-- SELECT ROW_NUMBER() OVER (ORDER BY 10 / v) FROM t
abbrev pub numbered_over_a_fault : PlanTree
numbered_over_a_fault =
    select (1 ∷ [])
    (window (over [] (ascending 0 ∷ []) ∷ []) (call 0 row_number ∷ [])
    (Over (Map (Arithmetic Divide (num 10) (Column 2) ∷ [])) scan_t))

-- SELECT 10 / v FROM t LIMIT 1
abbrev pub limited_over_a_fault : PlanTree
limited_over_a_fault = limited [] 0 (Some 1) false (Over (Map (Arithmetic Divide (num 10) (Column 2) ∷ [])) scan_t)

-- Which fault a step has, and which it does not have.
pub record FaultsComeOut : Type 0 where
  -- A step that faults at several rows has the least fault.
  pub least_fault_of_a_step : outcome two_outputs zero_and_greatest []
      ≡ Err DivisionByZero
  -- The order of the rows doesn't change the fault.
  pub least_fault_with_the_records_exchanged : outcome two_outputs (only (row 2 b (n 9223372036854775807) ∷ row 1 a (n 0) ∷ [])) []
      ≡ Err DivisionByZero
  -- A step that faults at several expressions has the least fault.
  pub least_fault_of_one_row : outcome other_outputs greatest_beside_zero []
      ≡ Err DivisionByZero
  -- Within an expression the left operand's fault comes first.
  pub fault_of_the_left_operand : outcome left_first greatest_beside_zero []
      ≡ Err OutOfRange
  -- A quotient outside 64 bits is a fault.
  pub least_number_divided_by_minus_one : outcome least_divided one_row []
      ≡ Err OutOfRange
  -- A remainder by zero is a division by zero.
  pub remainder_by_zero : outcome remaining four_rows []
      ≡ Err DivisionByZero
  -- A row whose v is NULL has no fault.
  pub remainder_of_null_by_zero : outcome remaining one_row []
      ≡ Ok ((Null ∷ []) ∷ [])
  -- The negative of the least number is not a number of 64 bits.
  pub least_number_negated : outcome negated_v (only (row 1 a (minus 9223372036854775808) ∷ [])) []
      ≡ Err OutOfRange
  -- There is no number of 64 bits below the least one.
  pub least_number_less_one : outcome less_one (only (row 1 a (minus 9223372036854775808) ∷ [])) []
      ≡ Err OutOfRange
  -- A condition that faults at one row makes the step fault, and the steps above it.
  pub fault_of_a_condition : outcome filtered (only (row 1 a (n 10) ∷ row 2 b (n 0) ∷ [])) []
      ≡ Err DivisionByZero
  -- A row that an earlier step leaves out causes no fault.
  pub row_that_is_left_out : outcome filtered_first (only (row 1 a (n 10) ∷ row 2 b (n 0) ∷ [])) []
      ≡ Ok ((n 1 ∷ []) ∷ [])
  -- A join whose left input faults has that fault, though the right input's is less.
  pub fault_of_the_left_input : outcome joined_faults greatest_beside_zero []
      ≡ Err OutOfRange
  -- Otherwise it has its right input's fault.
  pub fault_of_the_right_input : outcome joined_faults (only ((n 1 ∷ a ∷ n 1 ∷ n 0 ∷ []) ∷ [])) []
      ≡ Err DivisionByZero
  -- Otherwise it has its own fault.
  pub fault_of_a_join : outcome joined_by_a_fault (only (row 1 a (n 1) ∷ row 2 b (n 0) ∷ [])) []
      ≡ Err DivisionByZero
  -- A total outside 64 bits is a fault.
  pub sum_out_of_range : outcome summed_by_id greatest_and_more (positions 3 ∷ [])
      ≡ Err OutOfRange
  -- Over a fault no row is numbered; the ordering is the empty list.
  pub fault_below_a_window : outcome numbered_over_a_fault zero_and_greatest ([] ∷ [])
      ≡ Err DivisionByZero
  -- A Limit above a fault has that fault, though it would take no row.
  pub fault_below_a_limit : outcome limited_over_a_fault zero_and_greatest ([] ∷ [])
      ≡ Err DivisionByZero
