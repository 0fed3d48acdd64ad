-- The whole numbers that the columns of a plan can have: those of their types, and those of calls that count.
use Rattle.std.specs.Prelude.{ℕ, ◌-◌, ◌^◌, pos, negsuc, nat_lt, Bool, true, false, not, if◌then◌else◌, List, Option, None, Some, option_and_then, slice_get}
use Rattle.wd_value.specs.declared.value.ColumnType.{ColumnType}
use Rattle.wd_value.specs.declared.value.ColumnType.TheVariants.{SmallInt, Integer, BigInt, Text as TextType, Boolean}
use Rattle.wd_schema.specs.declared.table.Column.{Column as TableColumn}
use Rattle.wd_schema.specs.Tables.{TableRule}
use Rattle.wd_plan.specs.declared.function.Aggregate.{Aggregate as AggregateFunction}
use Rattle.wd_plan.specs.declared.function.Aggregate.TheVariants.{CountRows, Count, Sum, Min, Max}
use Rattle.wd_plan.specs.declared.function.FrameFunction.{FrameFunction}
use Rattle.wd_plan.specs.declared.function.FrameFunction.TheVariants.{ValueAt, Aggregate}
use Rattle.wd_plan.specs.declared.function.Function.{Function}
use Rattle.wd_plan.specs.declared.function.Function.TheVariants.{Ranking as Ranked, Shift as Shifted, OfFrame}
use Rattle.wd_plan.specs.declared.window.Call.{Call}
use Rattle.wd_plan.specs.Fits.{width}
use Rattle.wd_plan.specs.Plans.{GroupCall, OfRows, Grouping, PlanTree, Scan, Join, Over, Map, Group, Window}
use Rattle.wd_simpler.specs.Keyed.{column_shown}
use Rattle.wd_simpler.specs.declared.numbers.Numbers.{Numbers}

-- the numbers from this one on
abbrev pub from_on : ℕ → Option Numbers
from_on n = Some (record { least = pos n; greatest = None; nullable = false })

-- ---- columns of tables

-- the whole numbers that bits + 1 bits hold, one of them for the sign
abbrev pub signed : ℕ → Bool → Option Numbers
signed bits not_null = Some (record { least = negsuc (2 ^ bits - 1); greatest = Some (pos (2 ^ bits - 1)); nullable = not not_null })

abbrev pub numbers_of_type : ColumnType → Bool → Option Numbers
numbers_of_type SmallInt not_null = signed 15 not_null
numbers_of_type Integer not_null = signed 31 not_null
numbers_of_type BigInt not_null = signed 63 not_null
numbers_of_type TextType not_null = None
numbers_of_type Boolean not_null = None

abbrev pub numbers_of_column : TableColumn → Option Numbers
numbers_of_column column = numbers_of_type column.kind column.not_null

-- the numbers of a table's column, both by number
abbrev pub numbers_of_table : List TableRule → ℕ → ℕ → Option Numbers
numbers_of_table tables table c = option_and_then (λ (t : TableRule). option_and_then numbers_of_column (slice_get t.columns c)) (slice_get tables table)

-- ---- calls

-- a COUNT is at least 0
abbrev pub numbers_of_aggregate : AggregateFunction → Option Numbers
numbers_of_aggregate CountRows = from_on 0
numbers_of_aggregate (Count c) = from_on 0
numbers_of_aggregate (Sum c) = None
numbers_of_aggregate (Min c) = None
numbers_of_aggregate (Max c) = None

-- ranks and buckets are counted from 1
abbrev pub numbers_of_function : Function → Option Numbers
numbers_of_function (Ranked r) = from_on 1
numbers_of_function (Shifted s) = None
numbers_of_function (OfFrame f) = of_frame f
  where
    of_frame : FrameFunction → Option Numbers
    of_frame (ValueAt row c) = None
    of_frame (Aggregate a) = numbers_of_aggregate a

abbrev pub numbers_of_call : Call → Option Numbers
numbers_of_call call = numbers_of_function call.function

-- GROUPING is a mask
abbrev pub numbers_of_group_call : GroupCall → Option Numbers
numbers_of_group_call (OfRows a) = numbers_of_aggregate a
numbers_of_group_call (Grouping columns) = from_on 0

-- ---- columns of plans

-- NULL is allowed too, where there are such numbers: a grouping column is NULL in the rows of a set without it
abbrev pub with_null : Option Numbers → Option Numbers
with_null None = None
with_null (Some numbers) = Some (record { least = numbers.least; greatest = numbers.greatest; nullable = true })

-- a plan's column has only these numbers, and NULL only where it is allowed among them; none where this is not known
abbrev pub numbers_of : List TableRule → PlanTree → ℕ → Option Numbers
numbers_of tables (Scan table columns) c = numbers_of_table tables table c
numbers_of tables (Join condition left right) c = if nat_lt c (width left) then numbers_of tables left c else numbers_of tables right (c - width left)
numbers_of tables (Over (Map outputs) input) c = option_and_then (numbers_of tables input) (option_and_then column_shown (slice_get outputs c))
numbers_of tables (Over (Group g) input) c = if nat_lt c g.columns then with_null (numbers_of tables input c) else option_and_then numbers_of_group_call (slice_get g.calls (c - g.columns))
numbers_of tables (Over (Window w) input) c = if nat_lt c (width input) then numbers_of tables input c else option_and_then numbers_of_call (slice_get w.calls (c - width input))
numbers_of tables (Over step input) c = numbers_of tables input c
