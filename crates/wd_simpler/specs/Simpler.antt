-- A plan without what nothing reads: outputs of its Maps are NULL, and calls of its Windows and Groups COUNT(*), where no step above
-- reads them and they can't fault. A condition that no row meets is FALSE, and what is below it is not read; over an input without rows
-- each call is COUNT(*), and a Limit takes all. A frame that is the row's own place or empty becomes one by peers, and sort keys that are
-- computed from a column are followed by that column. The plan keeps its nodes, their columns and their orderings.
use Rattle.std.specs.Prelude.{ℕ, zero, suc, ◌+◌, ℤ, int_le, nat_lt, length, map, ◌&&◌, Bool, true, false, not, ◌||◌, List, [], ◌∷◌, ◌++◌, flat_map, if◌then◌else◌, Option, None, Some, option_to_list}
use Rattle.wd_schema.specs.Tables.{TableRule}
use Rattle.wd_value.specs.declared.value.Value.{Value}
use Rattle.wd_value.specs.declared.value.Value.TheVariants.{Null, Int, Text, Bool as TruthValue}
use Rattle.std.specs.Ordering.{int_cmp}
use Rattle.wd_value.specs.Bags.{positions}
use Rattle.wd_value.specs.Keys.{key_columns}
use Rattle.wd_plan.specs.declared.expression.ComparisonOp.{ComparisonOp}
use Rattle.wd_plan.specs.declared.expression.ComparisonOp.TheVariants.{Equal, NotEqual, Less, LessOrEqual, Greater, GreaterOrEqual}
use Rattle.wd_plan.specs.declared.expression.ValueKind.TheVariants.{Number, Truth}
use Rattle.wd_plan.specs.declared.function.Aggregate.{Aggregate as AggregateFunction}
use Rattle.wd_plan.specs.declared.function.Aggregate.TheVariants.{CountRows, Count, Sum, Min, Max}
use Rattle.wd_plan.specs.declared.function.FrameFunction.{FrameFunction}
use Rattle.wd_plan.specs.declared.function.FrameFunction.TheVariants.{ValueAt, Aggregate}
use Rattle.wd_plan.specs.declared.function.Function.{Function}
use Rattle.wd_plan.specs.declared.function.Function.TheVariants.{Ranking as Ranked, Shift as Shifted, OfFrame}
use Rattle.wd_plan.specs.declared.window.Bound.TheVariants.{UnboundedPreceding, UnboundedFollowing}
use Rattle.wd_plan.specs.declared.window.Call.{Call}
use Rattle.wd_plan.specs.declared.window.Exclusion.TheVariants.{NoOthers}
use Rattle.wd_plan.specs.declared.window.Frame.{Frame}
use Rattle.wd_plan.specs.declared.window.FrameMode.TheVariants.{Range}
use Rattle.wd_plan.specs.Expressions.{Expression, Column, Literal, Compare, And, Or, holds, is_true}
use Rattle.wd_plan.specs.Fits.{width}
use Rattle.wd_plan.specs.Functions.{argument_of, argument_of_aggregate}
use Rattle.wd_plan.specs.Plans.{GroupCall, OfRows, Grouping, GroupRule, WindowRule, LimitRule, PlanTree, Scan, Join, Over, Filter, Map, Group, Window, Distinct, Limit, has}
use Rattle.wd_plan.specs.Sorting.{class_columns}
use Rattle.wd_scalar.specs.Arithmetic.{has_arithmetic}
use Rattle.wd_simpler.specs.OwnPlace.{peer_frame}
use Rattle.wd_simpler.specs.Keyed.{keyed_limit, keyed_window}
use Rattle.wd_simpler.specs.Numbers.{numbers_of}
use Rattle.wd_simpler.specs.declared.numbers.Numbers.{Numbers}
use Rattle.wd_step_facts.specs.Steps.{Side, Plain, Fixed, Other, side_of, used}

-- which columns of a node the steps above it read, by their numbers
abbrev pub Read : Type 0
Read = ℕ → Bool

abbrev pub every : Read
every c = true

-- the columns that are read, and these too
abbrev pub and_also : Read → List ℕ → Read
and_also read columns c = read c || has columns c

-- the columns that are read after the first, numbered from the second on
abbrev pub next : Read → Read
next read c = read (suc c)

-- the columns that are read after the first n, numbered from the next on
abbrev pub after : ℕ → Read → Read
after n read c = read (n + c)

-- no column
abbrev pub nothing : Read
nothing c = false

-- what is read of rows of which a step keeps some; nothing where it keeps none
abbrev pub kept_reads : Bool → Read → Read
kept_reads is_none read = if is_none then nothing else read

-- ---- outputs of a Map

-- an expression that has a value over every row, and no fault
abbrev pub is_plain : Expression → Bool
is_plain (Column c) = true
is_plain (Literal v kind) = true
is_plain e = false

-- an output, or NULL in its place where it is not read and can't fault
abbrev pub read_output : Bool → Expression → Expression
read_output is_read e = if is_read || not (is_plain e) then e else Literal Null Number

abbrev pub read_outputs : Read → List Expression → List Expression
read_outputs read [] = []
read_outputs read (e ∷ outputs) = read_output (read 0) e ∷ read_outputs (next read) outputs

-- ---- calls of a Window

-- an aggregate that has a value over any rows: only a SUM can be out of range
abbrev pub is_total : AggregateFunction → Bool
is_total CountRows = true
is_total (Count c) = true
is_total (Sum c) = false
is_total (Min c) = true
is_total (Max c) = true

-- a function that has a value at every row, and no fault
abbrev pub never_faults : Function → Bool
never_faults (Ranked r) = true
never_faults (Shifted s) = true
never_faults (OfFrame f) = of_frame f
  where
    of_frame : FrameFunction → Bool
    of_frame (ValueAt row c) = true
    of_frame (Aggregate a) = is_total a

-- COUNT(*) of the whole partition
abbrev pub whole_partition : Frame
whole_partition = record { mode = Range; start = UnboundedPreceding; end = UnboundedFollowing; exclusion = NoOthers }

abbrev pub count_of : Call → Call
count_of call = record { class = call.class; function = OfFrame (Aggregate CountRows); frame = whole_partition }

-- a call, with a frame by peers if its frame is the row's own place or empty
abbrev pub peer_call : Call → Call
peer_call call = record { class = call.class; function = call.function; frame = peer_frame call.frame }

-- such a call, or COUNT(*) of its partition where it is not read and can't fault
abbrev pub read_call : Bool → Call → Call
read_call is_read call = if is_read || not (never_faults call.function) then peer_call call else count_of call

abbrev pub read_calls : Read → List Call → List Call
read_calls read [] = []
read_calls read (call ∷ calls) = read_call (read 0) call ∷ read_calls (next read) calls

-- a Window with such calls, of which these columns are read; over an input without rows all its calls are COUNT(*)
abbrev pub read_window : Bool → Read → WindowRule → WindowRule
read_window has_none read w = record { classes = w.classes; calls = if has_none then map count_of w.calls else read_calls read w.calls }

-- the columns that a Window reads: those of its classes, and its calls' arguments
abbrev pub window_reads : WindowRule → List ℕ
window_reads w = flat_map class_columns w.classes ++ flat_map (λ (call : Call). option_to_list (argument_of call.function)) w.calls

-- ---- calls of a Group

-- an aggregate, or COUNT(*) in its place where it is not read and can't fault
abbrev pub read_aggregate : Bool → AggregateFunction → AggregateFunction
read_aggregate is_read a = if is_read || not (is_total a) then a else CountRows

abbrev pub read_group_call : Bool → GroupCall → GroupCall
read_group_call is_read (OfRows a) = OfRows (read_aggregate is_read a)
read_group_call is_read (Grouping columns) = Grouping columns

abbrev pub read_group_calls : Read → List GroupCall → List GroupCall
read_group_calls read [] = []
read_group_calls read (call ∷ calls) = read_group_call (read 0) call ∷ read_group_calls (next read) calls

-- a Group with such calls, of which these columns are read
abbrev pub read_group : Read → GroupRule → GroupRule
read_group read rule = record { columns = rule.columns; sets = rule.sets; calls = read_group_calls read rule.calls }

-- the column that a call of a Group reads, besides the columns that show its group
abbrev pub group_argument : GroupCall → Option ℕ
group_argument (OfRows a) = argument_of_aggregate a
group_argument (Grouping columns) = None

-- the columns that a Group reads: its grouping columns, and its calls' arguments
abbrev pub group_reads : GroupRule → List ℕ
group_reads rule = positions rule.columns ++ flat_map (λ call. option_to_list (group_argument call)) rule.calls

-- ---- Limits

-- whether a limit takes no row
abbrev pub takes_none : Option ℕ → Bool
takes_none None = false
takes_none (Some zero) = true
takes_none (Some (suc n)) = false

-- a Limit; a Limit of no rows has no offset, and with sort keys it has ties
abbrev pub plain_limit : LimitRule → LimitRule
plain_limit limit = by_count limit.count
  where
    by_count : Option ℕ → LimitRule
    by_count None = limit
    by_count (Some zero) = record { keys = limit.keys; offset = 0; count = Some 0; ties = nat_lt 0 (length limit.keys) }
    by_count (Some (suc n)) = limit

-- a Limit that takes all rows
abbrev pub whole_limit : LimitRule → LimitRule
whole_limit limit = record { keys = limit.keys; offset = 0; count = None; ties = false }

-- over an input without rows a Limit takes all
abbrev pub read_limit : Bool → LimitRule → LimitRule
read_limit has_none limit = if has_none then whole_limit limit else plain_limit limit

-- ---- conditions that no row meets

-- the greatest number is at most this one, or less than it; false where there is none
abbrev pub all_up_to : Option ℤ → ℤ → Bool
all_up_to None n = false
all_up_to (Some greatest) n = int_le greatest n

abbrev pub all_below : Option ℤ → ℤ → Bool
all_below None n = false
all_below (Some greatest) n = not (int_le n greatest)

-- the comparison with this number holds for none of the numbers
abbrev pub never : ComparisonOp → Numbers → ℤ → Bool
never Equal numbers n = all_below numbers.greatest n || not (int_le numbers.least n)
never NotEqual numbers n = false
never Less numbers n = int_le n numbers.least
never LessOrEqual numbers n = not (int_le numbers.least n)
never Greater numbers n = all_up_to numbers.greatest n
never GreaterOrEqual numbers n = all_below numbers.greatest n

-- a comparison with its sides exchanged
abbrev pub turned : ComparisonOp → ComparisonOp
turned Equal = Equal
turned NotEqual = NotEqual
turned Less = Greater
turned LessOrEqual = GreaterOrEqual
turned Greater = Less
turned GreaterOrEqual = LessOrEqual

-- the comparison with a literal holds for none of a column's numbers
abbrev pub never_at : ComparisonOp → Option Numbers → Value → Bool
never_at op None v = false
never_at op (Some numbers) (Int n) = never op numbers n
never_at op (Some numbers) Null = false
never_at op (Some numbers) (Text t) = false
never_at op (Some numbers) (TruthValue b) = false

-- the comparison of two numbers does not hold
abbrev pub never_fixed : ComparisonOp → Value → Value → Bool
never_fixed op (Int m) (Int n) = not (holds op (int_cmp m n))
never_fixed op (Int m) Null = false
never_fixed op (Int m) (Text t) = false
never_fixed op (Int m) (TruthValue b) = false
never_fixed op Null w = false
never_fixed op (Text t) w = false
never_fixed op (TruthValue b) w = false

-- a comparison of a column with a literal, or of two literals, that is never true
abbrev pub never_compares : (ℕ → Option Numbers) → ComparisonOp → Side → Side → Bool
never_compares numbers op (Plain c) (Fixed v) = never_at op (numbers c) v
never_compares numbers op (Plain c) (Plain d) = false
never_compares numbers op (Plain c) Other = false
never_compares numbers op (Fixed v) (Plain c) = never_at (turned op) (numbers c) v
never_compares numbers op (Fixed v) (Fixed w) = never_fixed op v w
never_compares numbers op (Fixed v) Other = false
never_compares numbers op Other b = false

-- the numbers; where NULL is not allowed only if it is not among them
abbrev pub allowing : Bool → Option Numbers → Option Numbers
allowing true numbers = numbers
allowing false None = None
allowing false (Some numbers) = if numbers.nullable then None else Some numbers

-- a condition that is true over no row: a literal that is not true, a comparison that is never true, an AND with such a side, or an OR of
-- two such sides
abbrev pub is_never : (ℕ → Option Numbers) → Expression → Bool
is_never numbers (Literal v kind) = not (is_true v)
is_never numbers (Compare op a b) = never_compares numbers op (side_of a) (side_of b)
is_never numbers (And a b) = is_never numbers b || is_never numbers a
is_never numbers (Or a b) = is_never numbers b && is_never numbers a
is_never numbers e = false

-- the truth value FALSE
abbrev pub is_false_value : Value → Bool
is_false_value (TruthValue b) = not b
is_false_value Null = false
is_false_value (Int n) = false
is_false_value (Text t) = false

-- a condition that is FALSE over each row, without a fault: the literal, a comparison that is never true of a column without NULL, or an
-- AND with such a side; if that is the right side, the left one has no fault or is FALSE itself, so that the right one is not evaluated
abbrev pub is_false : (ℕ → Option Numbers) → Expression → Bool
is_false numbers (Literal v kind) = is_false_value v
is_false numbers (Compare op a b) = never_compares (λ c. allowing false (numbers c)) op (side_of a) (side_of b)
is_false numbers (And a b) = is_false numbers a || (not (has_arithmetic a) && is_false numbers b)
is_false numbers e = false

-- no row meets a condition, and it has no fault over any of them
abbrev pub is_unmet : (ℕ → Option Numbers) → Expression → Bool
is_unmet numbers condition = (not (has_arithmetic condition) && is_never numbers condition) || is_false numbers condition

-- a condition, or FALSE in its place where no row meets it
abbrev pub read_condition : Bool → Expression → Expression
read_condition unmet condition = if unmet then Literal (TruthValue false) Truth else condition

-- ---- plans

-- a plan without rows: a condition that no row meets, a Limit of no rows, and the steps above these, up to a Group
abbrev pub is_empty : List TableRule → PlanTree → Bool
is_empty tables (Scan table columns) = false
is_empty tables (Join condition left right) = is_empty tables right || is_empty tables left
is_empty tables (Over (Filter condition) input) = is_unmet (numbers_of tables input) condition || is_empty tables input
is_empty tables (Over (Group rule) input) = false
is_empty tables (Over (Limit limit) input) = takes_none limit.count || is_empty tables input
is_empty tables (Over step input) = is_empty tables input

-- the columns that a condition reads
abbrev pub condition_reads : Option Expression → List ℕ
condition_reads None = []
condition_reads (Some condition) = used condition

-- the simpler plan of which only these columns are read
abbrev pub narrowed : List TableRule → PlanTree → Read → PlanTree
narrowed tables (Scan table columns) read = Scan table columns
narrowed tables (Join condition left right) read = let more = and_also read (condition_reads condition) in Join condition (narrowed tables left more) (narrowed tables right (after (width left) more))
narrowed tables (Over (Filter condition) input) read =
    let unmet = is_unmet (numbers_of tables input) condition in
    let own = read_condition unmet condition in
    Over (Filter own) (narrowed tables input (and_also (kept_reads unmet read) (used own)))
narrowed tables (Over (Map outputs) input) read = let own = read_outputs read outputs in Over (Map own) (narrowed tables input (has (flat_map used own)))
narrowed tables (Over (Group rule) input) read = let own = read_group (after rule.columns read) rule in Over (Group own) (narrowed tables input (has (group_reads own)))
narrowed tables (Over (Window w) input) read = let own = read_window (is_empty tables input) (after (width input) read) (keyed_window input w) in Over (Window own) (narrowed tables input (and_also read (window_reads own)))
narrowed tables (Over Distinct input) read = Over Distinct (narrowed tables input every)
narrowed tables (Over (Limit limit) input) read = let own = keyed_limit input limit in Over (Limit (read_limit (is_empty tables input) own)) (narrowed tables input (and_also (kept_reads (takes_none limit.count) read) (key_columns own.keys)))

-- the plan without what nothing reads
abbrev pub simpler : List TableRule → PlanTree → PlanTree
simpler tables plan = narrowed tables plan every
