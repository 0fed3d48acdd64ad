-- The values of window calls (SQL, window function; PG, Window Functions).
use Rattle.std.specs.Prelude.{ℕ, zero, suc, ◌+◌, ◌-◌, ◌*◌, ◌/◌, ◌%◌, min, ℤ, pos, ◌+ℤ◌, true, false, not, List, [], ◌∷◌, map, reverse, length, count_by, nat_lt, nat_le, slice_index_or, if◌then◌else◌, Result, Ok, Err}
use Rattle.std.specs.List.{list_any}
use Rattle.std.specs.Ordering.{is_gt}
use Rattle.wd_value.specs.declared.value.Value.{Value}
use Rattle.wd_value.specs.declared.value.Value.TheVariants.{Null, Int, Text, Bool as Truth}
use Rattle.wd_value.specs.declared.value.Fault.{Fault}
use Rattle.wd_value.specs.declared.value.Fault.TheVariants.{OutOfRange}
use Rattle.wd_value.specs.declared.order.SortKey.{SortKey}
use Rattle.wd_value.specs.Order.{compare}
use Rattle.wd_value.specs.Rows.{Row, column_of, row_at}
use Rattle.wd_plan.specs.declared.window.Frame.{Frame}
use Rattle.wd_plan.specs.declared.function.Aggregate.{Aggregate as AggregateFunction}
use Rattle.wd_plan.specs.declared.function.Aggregate.TheVariants.{CountRows, Count, Sum, Min, Max}
use Rattle.wd_plan.specs.declared.function.Direction.{Direction}
use Rattle.wd_plan.specs.declared.function.Direction.TheVariants.{Lag, Lead}
use Rattle.wd_plan.specs.declared.function.FrameFunction.{FrameFunction}
use Rattle.wd_plan.specs.declared.function.FrameFunction.TheVariants.{ValueAt, Aggregate}
use Rattle.wd_plan.specs.declared.function.FrameRow.{FrameRow}
use Rattle.wd_plan.specs.declared.function.FrameRow.TheVariants.{First, Last, Nth}
use Rattle.wd_plan.specs.declared.function.Function.{Function}
use Rattle.wd_plan.specs.declared.function.Function.TheVariants.{Ranking as Ranked, Shift as Shifted, OfFrame}
use Rattle.wd_plan.specs.declared.function.Ranking.{Ranking}
use Rattle.wd_plan.specs.declared.function.Ranking.TheVariants.{RowNumber, Rank, DenseRank, Ntile}
use Rattle.wd_plan.specs.Expressions.{fits_64, is_null}
use Rattle.wd_plan.specs.Frames.{frame_of}
use Rattle.wd_plan.specs.Partitions.{members, partition_of, place_in, group_of}
use Rattle.wd_plan.specs.Plans.{ClassRule}

-- the first bucket from b on that reaches past a place, where members are dealt to n buckets as evenly as possible, the larger ones
-- first: the first b buckets hold b times the smaller size, and one more member for each larger bucket among them
abbrev pub bucket_from : ℕ → ℕ → ℕ → ℕ → ℕ → ℕ
bucket_from zero b n members place = b
bucket_from (suc more) b n members place = if nat_lt place (b * (members / n) + min b (members % n)) then b else bucket_from more (b + 1) n members place

-- the bucket of a place among the given number of members, from 1
abbrev pub bucket : ℕ → ℕ → ℕ → ℕ
bucket n members place = bucket_from n 1 n members place

-- the exact total of the whole numbers, over unbounded whole numbers
abbrev pub total : List Value → ℤ
total [] = pos 0
total (Int n ∷ vs) = n +ℤ total vs
total (Text t ∷ vs) = total vs
total (Truth b ∷ vs) = total vs
total (Null ∷ vs) = total vs

-- NULL over no value; a total that 64 bits don't hold is a fault, but a running total is not (this project's choice)
abbrev pub sum_of : List Value → Result Value Fault
sum_of vs = if list_any (λ v. not (is_null v)) vs then (if fits_64 (total vs) then Ok (Int (total vs)) else Err OutOfRange) else Ok Null

-- the value that comes first under a sort key, or NULL over no value
abbrev pub first_by : SortKey → List Value → Value
first_by key [] = Null
first_by key (v ∷ vs) = let w = first_by key vs in if is_gt (compare key v w) then w else v

-- NULL comes last under both keys, so it is taken only where there is no other
abbrev pub least : List Value → Value
least vs = first_by (record { desc = false; nulls_first = false }) vs

abbrev pub greatest : List Value → Value
greatest vs = first_by (record { desc = true; nulls_first = false }) vs

-- the values of a column of rows
abbrev pub column_values : ℕ → List Row → List Value
column_values c rows = map (λ r. column_of r c) rows

-- the value of an aggregate over rows, or its fault
abbrev pub aggregate_value : AggregateFunction → List Row → Result Value Fault
aggregate_value CountRows rows = Ok (Int (pos (length rows)))
aggregate_value (Count c) rows = Ok (Int (pos (count_by (λ r. not (is_null (column_of r c))) rows)))
aggregate_value (Sum c) rows = sum_of (column_values c rows)
aggregate_value (Min c) rows = Ok (least (column_values c rows))
aggregate_value (Max c) rows = Ok (greatest (column_values c rows))

-- the first, the last or the nth of the values; NULL where it does not exist
abbrev pub taken : FrameRow → List Value → Value
taken First values = slice_index_or values 0 Null
taken Last values = slice_index_or (reverse values) 0 Null
taken (Nth n) values = slice_index_or values (n - 1) Null

-- the value of a function of a frame over the frame's rows
abbrev pub frame_value : FrameFunction → List Row → Result Value Fault
frame_value (ValueAt row c) rows = Ok (taken row (column_values c rows))
frame_value (Aggregate a) rows = aggregate_value a rows

-- the value of a ranking function at place i of a partition list
abbrev pub ranking_value : ClassRule → Ranking → List Row → ℕ → ℕ
ranking_value class RowNumber partition i = i + 1
ranking_value class Rank partition i = 1 + count_by (λ q. nat_lt (group_of class partition q) (group_of class partition (row_at partition i))) partition
ranking_value class DenseRank partition i = group_of class partition (row_at partition i) + 1
ranking_value class (Ntile n) partition i = bucket n (length partition) i

-- the value of column c at k rows before or after place i, else the default
abbrev pub value_away : Direction → ℕ → ℕ → Value → List Row → ℕ → Value
value_away Lag c k default partition i = if nat_le k i then column_of (row_at partition (i - k)) c else default
value_away Lead c k default partition i = if nat_lt (i + k) (length partition) then column_of (row_at partition (i + k)) c else default

-- the value of a call at place i of a partition list
abbrev pub call_value : ClassRule → Frame → Function → List Row → ℕ → Result Value Fault
call_value class frame (Ranked r) partition i = Ok (Int (pos (ranking_value class r partition i)))
call_value class frame (Shifted s) partition i = Ok (value_away s.direction s.argument s.offset s.default partition i)
call_value class frame (OfFrame f) partition i = frame_value f (frame_of class frame partition i)

-- the value of a call at the row at position r, under an ordering
abbrev pub value_at : ClassRule → Frame → Function → List Row → List ℕ → ℕ → Result Value Fault
value_at class frame function rows ordering r = call_value class frame function (partition_of class rows ordering r) (place_in (members class rows ordering r) r)
