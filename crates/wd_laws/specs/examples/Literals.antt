-- Short forms in which the worked examples write values, sort keys, functions, windows and plans.
use Rattle.std.specs.Prelude.{ℕ, pos, neg_ℤ, Bool, true, false, List, [], ◌∷◌, map, Option, codes}
use Rattle.wd_value.specs.declared.value.Value.{Value}
use Rattle.wd_value.specs.declared.value.Value.TheVariants.{Null, Int, Text, Bool as Truth}
use Rattle.wd_value.specs.Rows.{Row, Instance}
use Rattle.wd_value.specs.declared.order.SortColumn.{SortColumn}
use Rattle.wd_plan.specs.declared.function.Aggregate.TheVariants as of_rows
use Rattle.wd_plan.specs.declared.function.Direction.TheVariants as way
use Rattle.wd_plan.specs.declared.function.FrameFunction.TheVariants.{ValueAt, Aggregate}
use Rattle.wd_plan.specs.declared.function.FrameRow.TheVariants as frame_row
use Rattle.wd_plan.specs.declared.function.Function.{Function}
use Rattle.wd_plan.specs.declared.function.Function.TheVariants.{Ranking as Ranked, Shift as Shifted, OfFrame}
use Rattle.wd_plan.specs.declared.function.Ranking.TheVariants as ranking
use Rattle.wd_plan.specs.declared.window.Bound.{Bound}
use Rattle.wd_plan.specs.declared.window.Bound.TheVariants.{UnboundedPreceding, CurrentRow}
use Rattle.wd_plan.specs.declared.window.Call.{Call}
use Rattle.wd_plan.specs.declared.window.Exclusion.TheVariants as exclude
use Rattle.wd_plan.specs.declared.window.Frame.{Frame}
use Rattle.wd_plan.specs.declared.window.FrameMode.{FrameMode}
use Rattle.wd_plan.specs.declared.window.FrameMode.TheVariants.{Range}
use Rattle.wd_plan.specs.declared.expression.ValueKind.TheVariants.{Number}
use Rattle.wd_plan.specs.Expressions.{Expression, Column, Literal}
use Rattle.wd_plan.specs.Plans.{ClassRule, Map, Window, Limit, PlanTree, Scan, Over}

-- ---- values

-- a whole number
abbrev pub n : ℕ → Value
n k = Int (pos k)

-- a whole number with a minus sign
abbrev pub minus : ℕ → Value
minus k = Int (neg_ℤ (pos k))

abbrev pub text : List ℕ → Value
text bytes = Text bytes

abbrev pub truth : Bool → Value
truth b = Truth b

abbrev pub a : Value
a = text (codes "a")

abbrev pub b : Value
b = text (codes "b")

abbrev pub c : Value
c = text (codes "c")

abbrev pub d : Value
d = text (codes "d")

-- ---- expressions

-- a literal of a whole number
abbrev pub num : ℕ → Expression
num k = Literal (n k) Number

-- ---- sort keys

-- NULL comes last
abbrev pub ascending : ℕ → SortColumn
ascending column = record { column = column; key = record { desc = false; nulls_first = false } }

-- NULL comes first
abbrev pub descending : ℕ → SortColumn
descending column = record { column = column; key = record { desc = true; nulls_first = true } }

-- ---- functions

abbrev pub row_number : Function
row_number = Ranked ranking.RowNumber

abbrev pub rank : Function
rank = Ranked ranking.Rank

abbrev pub dense_rank : Function
dense_rank = Ranked ranking.DenseRank

abbrev pub ntile : ℕ → Function
ntile buckets = Ranked (ranking.Ntile buckets)

-- LAG of a column, the given number of rows earlier, with this default
abbrev pub lag : ℕ → ℕ → Value → Function
lag column offset default = Shifted (record { direction = way.Lag; argument = column; offset = offset; default = default })

-- LEAD of a column, the given number of rows later, with this default
abbrev pub lead : ℕ → ℕ → Value → Function
lead column offset default = Shifted (record { direction = way.Lead; argument = column; offset = offset; default = default })

abbrev pub first_value : ℕ → Function
first_value column = OfFrame (ValueAt frame_row.First column)

abbrev pub last_value : ℕ → Function
last_value column = OfFrame (ValueAt frame_row.Last column)

-- NTH_VALUE of a column, at the row with this number
abbrev pub nth_value : ℕ → ℕ → Function
nth_value column number = OfFrame (ValueAt (frame_row.Nth number) column)

-- COUNT(*)
abbrev pub count_rows : Function
count_rows = OfFrame (Aggregate of_rows.CountRows)

abbrev pub count : ℕ → Function
count column = OfFrame (Aggregate (of_rows.Count column))

abbrev pub sum : ℕ → Function
sum column = OfFrame (Aggregate (of_rows.Sum column))

abbrev pub min : ℕ → Function
min column = OfFrame (Aggregate (of_rows.Min column))

abbrev pub max : ℕ → Function
max column = OfFrame (Aggregate (of_rows.Max column))

-- ---- windows

-- PARTITION BY these columns ORDER BY these keys
abbrev pub over : List ℕ → List SortColumn → ClassRule
over partition keys = record { partition = partition; order = keys }

-- a frame that leaves out no row
abbrev pub between : FrameMode → Bound → Bound → Frame
between mode start end = record { mode = mode; start = start; end = end; exclusion = exclude.NoOthers }

-- the frame of a window that names none
abbrev pub default_frame : Frame
default_frame = between Range UnboundedPreceding CurrentRow

-- a call of the class with this number
abbrev pub call_in : Frame → ℕ → Function → Call
call_in frame class function = record { class = class; function = function; frame = frame }

abbrev pub call : ℕ → Function → Call
call = call_in default_frame

-- ---- plans

abbrev pub window : List ClassRule → List Call → PlanTree → PlanTree
window classes calls input = Over (Window (record { classes = classes; calls = calls })) input

-- the columns with these numbers
abbrev pub select : List ℕ → PlanTree → PlanTree
select columns input = Over (Map (map Column columns)) input

abbrev pub limited : List SortColumn → ℕ → Option ℕ → Bool → PlanTree → PlanTree
limited keys offset count ties input = Over (Limit (record { keys = keys; offset = offset; count = count; ties = ties })) input

-- ---- the table t, with the columns id, g, v and u

abbrev pub scan_t : PlanTree
scan_t = Scan 0 4

-- a row of t whose u is NULL
abbrev pub row : ℕ → Value → Value → Row
row id g v = n id ∷ g ∷ v ∷ Null ∷ []

-- an instance whose one table has these rows
abbrev pub only : List Row → Instance
only rows = rows ∷ []

-- two rows tie on v, and one has none
abbrev pub four_rows : Instance
four_rows = only (row 1 a (n 10) ∷ row 2 b (n 10) ∷ row 3 c (n 20) ∷ row 4 d Null ∷ [])

-- these rows from last to first
abbrev pub four_rows_reversed : Instance
four_rows_reversed = only (row 4 d Null ∷ row 3 c (n 20) ∷ row 2 b (n 10) ∷ row 1 a (n 10) ∷ [])

-- rows of two groups, one among the others
abbrev pub two_groups : Instance
two_groups = only (row 1 a (n 10) ∷ row 2 b (n 20) ∷ row 3 a (n 5) ∷ row 4 b Null ∷ row 5 a (n 5) ∷ [])

-- one row, without a v
abbrev pub one_row : Instance
one_row = only (row 1 a Null ∷ [])

-- the greatest number of 64 bits, then 1 and -1
abbrev pub greatest_and_more : Instance
greatest_and_more = only (row 1 a (n 9223372036854775807) ∷ row 2 b (n 1) ∷ row 3 c (minus 1) ∷ [])

-- v is 0, then the greatest number of 64 bits
abbrev pub zero_and_greatest : Instance
zero_and_greatest = only (row 1 a (n 0) ∷ row 2 b (n 9223372036854775807) ∷ [])

-- v is the greatest number of 64 bits, and u is 0
abbrev pub greatest_beside_zero : Instance
greatest_beside_zero = only ((n 1 ∷ a ∷ n 9223372036854775807 ∷ n 0 ∷ []) ∷ [])
