-- Window calls: their functions over value arguments, and when two are equal (SQL, window function; PG, Window Functions).
use Rattle.std.specs.Prelude.{ℕ, Bool, true, false, ◌&&◌, nat_eq}
use Rattle.std.specs.Bool.{beq}
use denote.Enum.Bare.{sameb}
use lib.Pointwise.{pointwise}
use Rattle.wd_value.specs.declared.value.Value.{Value}
use Rattle.wd_value.specs.Values.{same}
use Rattle.wd_plan.specs.declared.expression.ValueKind.{ValueKind}
use Rattle.wd_plan.specs.declared.expression.ValueKind.TheVariants.{Number}
use Rattle.wd_plan.specs.declared.window.Frame.{Frame}
use Rattle.wd_plan.specs.contracts.window.FrameMode.{the_type as mode}
use Rattle.wd_plan.specs.declared.window.Bound.{Bound}
use Rattle.wd_plan.specs.declared.window.Bound.TheVariants.{UnboundedPreceding, Preceding, CurrentRow, Following, UnboundedFollowing}
use Rattle.wd_plan.specs.contracts.window.Exclusion.{the_type as exclusion}
use Rattle.wd_plan.specs.contracts.function.Direction.{the_type as way_type}
use Rattle.wd_plan.specs.declared.function.Direction.{Direction}
use Rattle.wd_plan.specs.declared.function.FrameRow.{FrameRow}
use Rattle.wd_plan.specs.declared.function.FrameRow.TheVariants.{First, Last, Nth}
use Rattle.wd_plan.specs.declared.function.Ranking.{Ranking}
use Rattle.wd_plan.specs.declared.function.Ranking.TheVariants as rank
use Rattle.wd_resolve_call.specs.declared.call.AppliedFunction.{AppliedFunction}
use Rattle.wd_resolve_call.specs.declared.call.AppliedFunction.TheVariants as function_code
use Rattle.wd_resolve_call.specs.declared.call.WindowCall.{WindowCall}
use Rattle.wd_resolve_call.specs.Rows.{BoundArgument, BoundAggregate, RowExpression, aggregate_of, argument_of, kind_of_aggregate, row_expression_of, same_aggregate, same_argument, same_row_expression}
use Rattle.wd_resolve_call.specs.Windows.{BoundKey, BoundWindow, window_of}

-- a function over its arguments
pub data BoundFunction : Type 0 where
  -- a number by the row's place; NTILE with its number of buckets
  ranking : Ranking → BoundFunction
  -- LAG and LEAD: the value of the argument the given number of rows away, or a default
  away : Direction → BoundArgument RowExpression → ℕ → Value → BoundFunction
  -- the value of the argument at one row of the frame
  value_at : FrameRow → BoundArgument RowExpression → BoundFunction
  aggregate : BoundAggregate RowExpression → BoundFunction

abbrev pub function_of : AppliedFunction → BoundFunction
function_of (function_code.Ranking r) = ranking r
function_of (function_code.Shift direction a n default) = away direction (argument_of row_expression_of a) n default
function_of (function_code.ValueAt row a) = value_at row (argument_of row_expression_of a)
function_of (function_code.Aggregate a) = aggregate (aggregate_of row_expression_of a)

-- the kind of a function's values
abbrev pub kind_of_function : BoundFunction → ValueKind
kind_of_function (ranking r) = Number
kind_of_function (away direction a n default) = a.kind
kind_of_function (value_at row a) = a.kind
kind_of_function (aggregate a) = kind_of_aggregate a

-- a call: a function over a window
pub record BoundCall : Type 0 where
  pub function : BoundFunction
  pub window : BoundWindow

abbrev pub call_of : WindowCall → BoundCall
call_of call = record { function = function_of call.function; window = window_of call.window }

-- ---- equal calls

abbrev pub same_ranking : Ranking → Ranking → Bool
same_ranking rank.RowNumber rank.RowNumber = true
same_ranking rank.Rank rank.Rank = true
same_ranking rank.DenseRank rank.DenseRank = true
same_ranking (rank.Ntile m) (rank.Ntile n) = nat_eq m n
same_ranking r q = false

abbrev pub same_row : FrameRow → FrameRow → Bool
same_row First First = true
same_row Last Last = true
same_row (Nth m) (Nth n) = nat_eq m n
same_row r q = false

abbrev pub same_function : BoundFunction → BoundFunction → Bool
same_function (ranking r) (ranking q) = same_ranking r q
same_function (away direction a m v) (away other b n w) = sameb way_type direction other && (nat_eq m n && (same v w && same_argument same_row_expression a b))
same_function (value_at r a) (value_at q b) = same_row r q && same_argument same_row_expression a b
same_function (aggregate a) (aggregate b) = same_aggregate same_row_expression a b
same_function f g = false

abbrev pub same_key : BoundKey → BoundKey → Bool
same_key k l = (beq k.key.desc l.key.desc && beq k.key.nulls_first l.key.nulls_first) && same_row_expression k.expression l.expression

abbrev pub same_bound : Bound → Bound → Bool
same_bound UnboundedPreceding UnboundedPreceding = true
same_bound (Preceding m) (Preceding n) = nat_eq m n
same_bound CurrentRow CurrentRow = true
same_bound (Following m) (Following n) = nat_eq m n
same_bound UnboundedFollowing UnboundedFollowing = true
same_bound a b = false

abbrev pub same_frame : Frame → Frame → Bool
same_frame f g = (sameb mode f.mode g.mode && sameb exclusion f.exclusion g.exclusion) && (same_bound f.start g.start && same_bound f.end g.end)

-- equal order, partition and frame; whether the frame is written does not count
abbrev pub same_window : BoundWindow → BoundWindow → Bool
same_window v w = same_frame v.frame w.frame && (pointwise same_key v.order w.order && pointwise same_row_expression v.partition w.partition)

abbrev pub same_call : BoundCall → BoundCall → Bool
same_call c d = same_function c.function d.function && same_window c.window d.window
