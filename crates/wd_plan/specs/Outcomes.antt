-- What a plan returns over an instance under a choice of orderings, and when two outcomes agree.
use Rattle.std.specs.Prelude.{◌≡◌, ℕ, zero, suc, ◌+◌, ◌^◌, pos, Bool, false, not, List, [], ◌∷◌, ◌++◌, map, filter, flat_map, length, drop, take_while, Option, Some, None, Result, Ok, Err, slice_index_or, if◌then◌else◌}
use Rattle.std.specs.Ordering.{is_eq}
use Rattle.wd_value.specs.declared.value.Value.{Value}
use Rattle.wd_value.specs.declared.value.Value.TheVariants.{Int, Null}
use Rattle.wd_value.specs.declared.value.Fault.{Fault as StepFault}
use Rattle.wd_value.specs.Bags.{SameBag, positions}
use Rattle.wd_value.specs.Rows.{Row, Instance, column_of, same_row, rows_of, row_at, rows_at, table_at}
use Rattle.wd_value.specs.declared.order.SortColumn.{SortColumn}
use Rattle.wd_plan.specs.declared.plan.Outcome.{Outcome}
use Rattle.wd_plan.specs.declared.plan.Outcome.TheVariants.{Rows, Fault}
use Rattle.wd_plan.specs.declared.window.Call.{Call}
use Rattle.wd_plan.specs.Calls.{aggregate_value, value_at}
use Rattle.wd_plan.specs.Expressions.{Expression, value_of, is_true}
use Rattle.wd_plan.specs.Faults.{all_ok, and_then, least_fault, unless}
use Rattle.wd_value.specs.Keys.{compare_keys}
use Rattle.wd_plan.specs.Plans.{ClassRule, GroupCall, OfRows, Grouping, GroupRule, WindowRule, LimitRule, Step, Filter, Map, Group, Window, Distinct, Limit, PlanTree, Scan, Join, Over, has, ordering_count, own_orderings}

-- an outcome: rows as a list, or a fault
abbrev pub RowsOrFault : Type 0
RowsOrFault = Result (List Row) StepFault

-- the outcome that a value of the code shows
abbrev pub outcome_of : Outcome → RowsOrFault
outcome_of (Rows v) = Ok (rows_of v.items)
outcome_of (Fault fault) = Err fault

-- ---- rows under a condition, expressions over rows

-- a row passes where the condition is true: not where it is false, NULL or a fault
abbrev pub passes : Result Value StepFault → Bool
passes (Ok v) = is_true v
passes (Err fault) = false

-- the rows that pass, or the least fault of the step
abbrev pub filter_outcome : Expression → List Row → RowsOrFault
filter_outcome condition rows = unless (least_fault (map (value_of condition) rows)) (filter (λ row. passes (value_of condition row)) rows)

-- without a condition all rows pass
abbrev pub join_outcome : Option Expression → List Row → RowsOrFault
join_outcome None rows = Ok rows
join_outcome (Some condition) rows = filter_outcome condition rows

-- the values of the expressions over each row, or the least fault of the step
abbrev pub map_outcome : List Expression → List Row → RowsOrFault
map_outcome outputs rows = all_ok (map (λ row. all_ok (map (λ output. value_of output row) outputs)) rows)

-- all pairs, the left row outermost
abbrev pub pairs : List Row → List Row → List Row
pairs left right = flat_map (λ l. map (λ r. l ++ r) right) left

-- first occurrences
abbrev pub distinct : List Row → List Row
distinct [] = []
distinct (r ∷ rs) = r ∷ filter (λ q. not (same_row r q)) (distinct rs)

-- ---- groups (SQL, group by clause, set function specification; PG, Table Expressions, Aggregate Functions)

-- what a row shows in the grouping columns, the first n, under a set: NULL outside the set
abbrev pub shown : ℕ → List ℕ → Row → Row
shown columns set row = map (λ c. if has set c then column_of row c else Null) (positions columns)

-- the groups of a set, each as the row of shown values, in order of their first row; the empty set has one group even over no rows
abbrev pub groups : ℕ → List ℕ → List Row → List Row
groups columns [] rows = shown columns [] [] ∷ []
groups columns (c ∷ set) rows = distinct (map (shown columns (c ∷ set)) rows)

-- the rows of a group: those that show its values
abbrev pub rows_of_group : ℕ → List ℕ → List Row → Row → List Row
rows_of_group columns set rows group = filter (λ row. same_row group (shown columns set row)) rows

-- GROUPING is a mask with a bit for each argument, the last argument's lowest; a bit is 0 where the column is in the set
abbrev pub mask : List ℕ → List ℕ → ℕ
mask set [] = 0
mask set (c ∷ columns) = (if has set c then 0 else 2 ^ length columns) + mask set columns

-- the value of a call for a group of a set
abbrev pub group_value : List ℕ → List Row → GroupCall → Result Value StepFault
group_value set rows (OfRows aggregate) = aggregate_value aggregate rows
group_value set rows (Grouping columns) = Ok (Int (pos (mask set columns)))

-- the row of a group: the values that it shows, then the values of its calls
abbrev pub group_row : GroupRule → List Row → List ℕ → Row → Result Row StepFault
group_row rule rows set group = and_then (all_ok (map (group_value set (rows_of_group rule.columns set rows group)) rule.calls)) (λ values. Ok (group ++ values))

-- the rows of a set's groups
abbrev pub set_rows : GroupRule → List Row → List ℕ → List (Result Row StepFault)
set_rows rule rows set = map (group_row rule rows set) (groups rule.columns set rows)

-- for each set in order the rows of its groups, or the least fault of the step
abbrev pub group_outcome : GroupRule → List Row → RowsOrFault
group_outcome rule rows = all_ok (flat_map (set_rows rule rows) rule.sets)

-- ---- windows

-- the class with this number; one without columns past the last
abbrev pub class_among : List ClassRule → ℕ → ClassRule
class_among classes n = slice_index_or classes n (record { partition = []; order = [] })

abbrev pub class_at : WindowRule → ℕ → ClassRule
class_at w n = class_among w.classes n

-- the ordering with this number; the empty one past the last
abbrev pub ordering_at : List (List ℕ) → ℕ → List ℕ
ordering_at orderings n = slice_index_or orderings n []

abbrev pub call_at : WindowRule → List Row → List (List ℕ) → ℕ → Call → Result Value StepFault
call_at w rows orderings r call = value_at (class_at w call.class) call.frame call.function rows (ordering_at orderings call.class) r

-- the row at position r and the values of its calls
abbrev pub extended : WindowRule → List Row → List (List ℕ) → ℕ → Result Row StepFault
extended w rows orderings r = and_then (all_ok (map (call_at w rows orderings r) w.calls)) (λ values. Ok (row_at rows r ++ values))

-- each row with the values of its calls, in the input's order, or the least fault of the step
abbrev pub window_outcome : WindowRule → List Row → List (List ℕ) → RowsOrFault
window_outcome w rows orderings = all_ok (map (extended w rows orderings) (positions (length rows)))

-- ---- limits

-- rows that tie on all sort keys
abbrev pub peers : List SortColumn → Row → Row → Bool
peers keys r q = is_eq (compare_keys keys r q)

-- the first n rows, and with ties those that follow and are peers of the last of them; no row where n is 0
abbrev pub first_rows : List SortColumn → Bool → ℕ → List Row → List Row
first_rows keys ties zero rows = []
first_rows keys ties (suc n) [] = []
first_rows keys ties (suc zero) (r ∷ rows) = r ∷ (if ties then take_while (peers keys r) rows else [])
first_rows keys ties (suc (suc n)) (r ∷ rows) = r ∷ first_rows keys ties (suc n) rows

-- what a Limit keeps of rows in its ordering: those after the offset, and where there is a count the first of them
abbrev pub limited_rows : LimitRule → List Row → List Row
limited_rows limit rows = by_count limit.count
  where
    by_count : Option ℕ → List Row
    by_count None = drop limit.offset rows
    by_count (Some n) = first_rows limit.keys limit.ties n (drop limit.offset rows)

-- ---- plans

-- what a step returns over the rows of its input, with an ordering of them for each of its classes
abbrev pub step_outcome : Step → List (List ℕ) → List Row → RowsOrFault
step_outcome (Filter condition) orderings rows = filter_outcome condition rows
step_outcome (Map outputs) orderings rows = map_outcome outputs rows
step_outcome (Group rule) orderings rows = group_outcome rule rows
step_outcome (Window w) orderings rows = window_outcome w rows orderings
step_outcome Distinct orderings rows = Ok (distinct rows)
step_outcome (Limit limit) orderings rows = Ok (limited_rows limit (rows_at rows (ordering_at orderings 0)))

-- The outcome of a plan under a choice. A step's orderings come after those of the nodes below it, and those of a Join's right side after
-- those of its left side; orderings after these are not read.
abbrev pub outcome : PlanTree → Instance → List (List ℕ) → RowsOrFault
outcome (Scan table columns) instance choice = Ok (table_at instance table)
outcome (Join condition left right) instance choice = and_then (outcome left instance choice) (λ ls. and_then (outcome right instance (drop (ordering_count left) choice)) (λ rs. join_outcome condition (pairs ls rs)))
outcome (Over step input) instance choice = and_then (outcome input instance choice) (step_outcome step (own_orderings step input choice))

-- outcomes agree where they are the same fault, or lists in which each row appears equally often
abbrev pub Agree : RowsOrFault → RowsOrFault → Type 0
Agree (Ok rows) (Ok others) = SameBag same_row rows others
Agree (Ok rows) (Err g) = ⊥
Agree (Err f) (Ok others) = ⊥
Agree (Err f) (Err g) = f ≡ g
