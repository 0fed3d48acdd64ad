-- When no choice of orderings changes a call or a limit, in the rows of a node's input.
use Rattle.std.specs.Prelude.{◌≡◌, ℕ, Bool, true, false, List, drop, ◌⊎◌, None, ⊤}
use Rattle.std.specs.List.{AllByRecursion}
use Rattle.wd_value.specs.Rows.{Row, Instance}
use Rattle.wd_plan.specs.declared.window.Call.{Call}
use Rattle.wd_plan.specs.declared.window.Frame.{Frame}
use Rattle.wd_plan.specs.declared.function.ByPeers.{ByPeers}
use Rattle.wd_plan.specs.declared.function.ByPeers.TheVariants.{Never, Always, OverStableFrames}
use Rattle.wd_plan.specs.declared.function.FrameFunction.TheVariants.{ValueAt}
use Rattle.wd_plan.specs.declared.function.FrameRow.{FrameRow}
use Rattle.wd_plan.specs.declared.function.Function.{Function}
use Rattle.wd_plan.specs.declared.function.Function.TheVariants.{OfFrame}
use Rattle.wd_plan.specs.Choices.{AtRows}
use Rattle.wd_plan.specs.Facts.{Determines, DeterminesRow, DeterminesAll, HasWidth}
use Rattle.wd_plan.specs.Frames.{is_stable}
use Rattle.wd_plan.specs.Functions.{name_of, signature}
use Rattle.wd_plan.specs.Outcomes.{outcome, class_at}
use Rattle.wd_plan.specs.Plans.{ClassRule, NamesClasses, WindowRule, LimitRule, Step, Window, Limit, PlanTree, Scan, Join, Over, ordering_count}
use Rattle.wd_plan.specs.Sorting.{class_columns, order_columns, limit_class}

-- whether a function has one value for peers over a frame
abbrev pub goes_by_peers : ByPeers → Frame → Bool
goes_by_peers Never frame = false
goes_by_peers Always frame = true
goes_by_peers OverStableFrames frame = is_stable frame

-- the rule `peers`: RANK, DENSE_RANK, and COUNT, SUM, MIN, MAX over a stable frame
abbrev pub is_by_peers : Frame → Function → Bool
is_by_peers frame function = goes_by_peers (signature (name_of function)).by_peers frame

-- the rule `values`: FIRST_VALUE, LAST_VALUE and NTH_VALUE of column c over a stable frame
abbrev pub IsByValues : Frame → Function → ℕ → Type 0
IsByValues frame function c = (is_stable frame ≡ true) × (row : FrameRow) × (function ≡ OfFrame (ValueAt row c))

-- a call is settled by `peers`, or its class's columns determine the row (`unique`) or the value that it takes (`values`)
abbrev pub IsByRow : ClassRule → Frame → Function → List Row → Type 0
IsByRow class frame function rows = (is_by_peers frame function ≡ true) ⊎ (DeterminesRow rows (class_columns class) ⊎ ((c : ℕ) × IsByValues frame function c × Determines rows (class_columns class) c))

-- or its class is the node's one exchange class, and the columns of that class determine every column (`exchange`)
abbrev pub IsSettledCall : WindowRule → ℕ → ℕ → List Row → Call → Type 0
IsSettledCall w exchange width rows call = let class = class_at w call.class in
    IsByRow class call.frame call.function rows ⊎ ((call.class ≡ exchange) × DeterminesAll rows width (class_columns class))

-- a limit takes all rows (`whole`), or has ties and no offset (`ties`), or its sort keys determine every column (`keys`)
abbrev pub IsSettledLimit : LimitRule → ℕ → List Row → Type 0
IsSettledLimit limit width rows =
    ((limit.count ≡ None) × (limit.offset ≡ 0))
    ⊎ (((limit.ties ≡ true) × (limit.offset ≡ 0))
    ⊎ DeterminesAll rows width (order_columns (limit_class limit)))

-- each call of a Window, and a Limit, is settled in the rows that it reads
abbrev pub IsSettledStep : Step → List Row → Type 0
IsSettledStep (Window w) rows = NamesClasses w × (exchange : ℕ) × (width : ℕ) × HasWidth width rows × AllByRecursion (IsSettledCall w exchange width rows) w.calls
IsSettledStep (Limit limit) rows = (width : ℕ) × HasWidth width rows × IsSettledLimit limit width rows
IsSettledStep step rows = ⊤

-- and so is each step of a plan, in the rows of its input under a choice
abbrev pub IsSettledPlan : PlanTree → Instance → List (List ℕ) → Type 0
IsSettledPlan (Scan table columns) instance choice = ⊤
IsSettledPlan (Join condition left right) instance choice = IsSettledPlan left instance choice × IsSettledPlan right instance (drop (ordering_count left) choice)
IsSettledPlan (Over step input) instance choice = IsSettledPlan input instance choice × AtRows (outcome input instance choice) (IsSettledStep step) ⊤
