-- Where the columns of a plan's node come from: the table columns that they copy, and those from which they are computed.
use Rattle.std.specs.Prelude.{ℕ, ◌+◌, ◌-◌, Bool, false, ◌&&◌, ◌||◌, List, [], ◌∷◌, ◌++◌, map, nat_eq, nat_lt, slice_get, if◌then◌else◌, Option, Some, None, option_and_then, option_to_list}
use Rattle.wd_value.specs.Bags.{positions}
use Rattle.wd_plan.specs.declared.window.Call.{Call}
use Rattle.wd_plan.specs.Expressions.{Expression}
use Rattle.wd_plan.specs.Fits.{width}
use Rattle.wd_plan.specs.Functions.{argument_of, argument_of_aggregate}
use Rattle.wd_plan.specs.Outcomes.{class_at}
use Rattle.wd_plan.specs.Plans.{GroupCall, OfRows, Grouping, GroupRule, WindowRule, PlanTree, Scan, Join, Over, Map, Group, Window, has}
use Rattle.wd_plan.specs.Sorting.{class_columns}
use Rattle.wd_step_facts.specs.Steps.{Side, Plain, Fixed, Other, side_of, used}
use Rattle.wd_candidates.specs.declared.origins.TableColumn.{TableColumn}

-- ---- copies

-- the column that an expression is, where it is one
abbrev pub plain_column : Expression → Option ℕ
plain_column e = of_side (side_of e)
  where
    of_side : Side → Option ℕ
    of_side (Plain c) = Some c
    of_side (Fixed v) = None
    of_side Other = None

-- the table column that a column of a node copies, through plain columns alone
abbrev pub origin : PlanTree → ℕ → Option TableColumn
origin (Scan table columns) c = if nat_lt c columns then Some (record { table = table; column = c }) else None
origin (Join condition left right) c = if nat_lt c (width left) then origin left c else origin right (c - width left)
origin (Over (Map outputs) input) c = option_and_then (origin input) (option_and_then plain_column (slice_get outputs c))
origin (Over (Group g) input) c = if nat_lt c g.columns then origin input c else None
origin (Over (Window w) input) c = if nat_lt c (width input) then origin input c else None
origin (Over step input) c = origin input c

-- ---- what columns are computed from

-- whether a column is in one of the wanted lists; the test says by number which lists are wanted
abbrev pub is_in_wanted : List (List ℕ) → (ℕ → Bool) → ℕ → Bool
is_in_wanted [] wanted c = false
is_in_wanted (columns ∷ lists) wanted c = (wanted 0 && has columns c) || is_in_wanted lists (λ n. wanted (n + 1)) c

-- what a call is computed from: its argument, and the columns of its class
abbrev pub call_columns : WindowRule → Call → List ℕ
call_columns w call = option_to_list (argument_of call.function) ++ class_columns (class_at w call.class)

-- what a Group's call is computed from: an aggregate from its argument, COUNT(*) and GROUPING from nothing
abbrev pub group_call_columns : GroupCall → List ℕ
group_call_columns (OfRows aggregate) = option_to_list (argument_of_aggregate aggregate)
group_call_columns (Grouping arguments) = []

-- what each column of a Group is computed from: a grouping column from itself
abbrev pub group_columns : GroupRule → List (List ℕ)
group_columns g = map (λ c. c ∷ []) (positions g.columns) ++ map group_call_columns g.calls

-- whether a table's column is a source of a wanted column of a node: an output of a Map from all columns that it uses, a grouping
-- column from itself, a group's call from its argument, a window call from its argument, its partition and its sort keys
abbrev pub is_source : PlanTree → (ℕ → Bool) → ℕ → ℕ → Bool
is_source (Scan of columns) wanted table c = nat_eq of table && (nat_lt c columns && wanted c)
is_source (Join condition left right) wanted table c = is_source left wanted table c || is_source right (λ n. wanted (width left + n)) table c
is_source (Over (Map outputs) input) wanted table c = is_source input (is_in_wanted (map used outputs) wanted) table c
is_source (Over (Group g) input) wanted table c = is_source input (is_in_wanted (group_columns g) wanted) table c
is_source (Over (Window w) input) wanted table c = is_source input (λ n. wanted n || is_in_wanted (map (call_columns w) w.calls) (λ call. wanted (width input + call)) n) table c
is_source (Over step input) wanted table c = is_source input wanted table c
