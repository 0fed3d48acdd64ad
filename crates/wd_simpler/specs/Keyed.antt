-- Sort keys that are computed from a column, as `c + 1`, `10 - c` or `- c`. Rows that tie on such a key tie on the column too, so the
-- column may follow the key as a sort key of its own: the same orderings are lawful, and the same rows are peers.
use Rattle.std.specs.Prelude.{ℕ, suc, nat_lt, map, flat_map, option_map, option_and_then, option_to_list, slice_get, Bool, true, false, ◌||◌, List, [], ◌∷◌, ◌++◌, Option, Some, None, if◌then◌else◌}
use Rattle.std.specs.List.{list_any}
use Rattle.wd_value.specs.declared.order.SortColumn.{SortColumn}
use Rattle.wd_value.specs.declared.value.Value.{Value}
use Rattle.wd_value.specs.declared.value.Value.TheVariants.{Null, Int, Text, Bool as TruthValue}
use Rattle.wd_value.specs.Keys.{ascending}
use Rattle.wd_plan.specs.declared.expression.ArithmeticOp.{ArithmeticOp}
use Rattle.wd_plan.specs.declared.expression.ArithmeticOp.TheVariants.{Add, Subtract, Multiply, Divide, Remainder}
use Rattle.wd_plan.specs.declared.window.Call.{Call}
use Rattle.wd_plan.specs.declared.window.Frame.{Frame}
use Rattle.wd_plan.specs.declared.window.FrameMode.{FrameMode}
use Rattle.wd_plan.specs.declared.window.FrameMode.TheVariants as mode
use Rattle.wd_plan.specs.Expressions.{Expression, Column, Literal, Negate, Arithmetic}
use Rattle.wd_plan.specs.Fits.{has_offset, width}
use Rattle.wd_plan.specs.Plans.{ClassRule, WindowRule, LimitRule, PlanTree, Scan, Join, Over, Map, Group, Window, Limit, has}

-- ---- columns that others determine

-- a literal that is a whole number
abbrev pub is_whole : Value → Bool
is_whole (Int n) = true
is_whole Null = false
is_whole (Text t) = false
is_whole (TruthValue b) = false

abbrev pub is_number : Expression → Bool
is_number (Literal v kind) = is_whole v
is_number e = false

-- sums and differences; not products, which may be zero
abbrev pub is_shift : ArithmeticOp → Bool
is_shift Add = true
is_shift Subtract = true
is_shift Multiply = false
is_shift Divide = false
is_shift Remainder = false

-- the column from which an expression differs only by a sign and by added or subtracted whole numbers
abbrev pub shifted : Expression → Option ℕ
shifted (Column c) = Some c
shifted (Negate a) = shifted a
shifted (Arithmetic o a b) = if is_shift o then (if is_number b then shifted a else (if is_number a then shifted b else None)) else None
shifted e = None

-- the column that an output shows
abbrev pub column_shown : Expression → Option ℕ
column_shown (Column c) = Some c
column_shown e = None

-- the first output that shows this column
abbrev pub place_of : ℕ → List Expression → Option ℕ
place_of c [] = None
place_of c (e ∷ outputs) = if has (option_to_list (column_shown e)) c then Some 0 else option_map suc (place_of c outputs)

-- the column of a Map's input that an output determines: the one that it is computed from, or the one that the shown column determines
abbrev pub origin : (ℕ → Option ℕ) → Expression → Option ℕ
origin below e = of_column (column_shown e)
  where
    of_column : Option ℕ → Option ℕ
    of_column (Some c) = below c
    of_column None = shifted e

-- the column of a plan that another one of its columns determines, being computed from it
abbrev pub source_column : PlanTree → ℕ → Option ℕ
source_column (Scan table columns) c = None
source_column (Join condition left right) c = None
source_column (Over (Map outputs) input) c = option_and_then (λ (d : ℕ). place_of d outputs) (option_and_then (origin (source_column input)) (slice_get outputs c))
source_column (Over (Group rule) input) c = None
source_column (Over (Window w) input) c = if nat_lt c (width input) then source_column input c else None
source_column (Over (Limit limit) input) c = None
source_column (Over step input) c = source_column input c

-- ---- sort keys

-- the columns that sort keys determine, as sort keys
abbrev pub added_keys : PlanTree → List SortColumn → List SortColumn
added_keys input keys = flat_map (λ (item : SortColumn). option_to_list (option_map ascending (source_column input item.column))) keys

-- sort keys, followed by the columns that they determine
abbrev pub keyed : PlanTree → List SortColumn → List SortColumn
keyed input keys = keys ++ added_keys input keys

-- a frame that counts by the distance of keys, which needs exactly one key
abbrev pub goes_by_distance : Frame → Bool
goes_by_distance frame = by_mode frame.mode
  where
    by_mode : FrameMode → Bool
    by_mode mode.Rows = false
    by_mode mode.Range = has_offset frame.start || has_offset frame.end
    by_mode mode.Groups = false

abbrev pub keyed_class : PlanTree → ClassRule → ClassRule
keyed_class input class = record { partition = class.partition; order = keyed input class.order }

-- a Window with these sort keys, if no frame counts by the distance of keys
abbrev pub keyed_window : PlanTree → WindowRule → WindowRule
keyed_window input w = if list_any (λ (call : Call). goes_by_distance call.frame) w.calls then w else record { classes = map (keyed_class input) w.classes; calls = w.calls }

abbrev pub keyed_limit : PlanTree → LimitRule → LimitRule
keyed_limit input limit = record { keys = keyed input limit.keys; offset = limit.offset; count = limit.count; ties = limit.ties }
