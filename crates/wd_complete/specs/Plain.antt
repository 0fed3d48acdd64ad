-- The plain class of plans: columns of one table are selected, and one ROW_NUMBER over a window of columns.
use Rattle.std.specs.Prelude.{◌≢◌, ◌⊎◌, ℕ, ◌<◌, AllPairs, Contains, List, [], ◌∷◌, length, map}
use Rattle.wd_plan.specs.declared.window.Call.{Call}
use Rattle.wd_plan.specs.declared.window.Frame.{Frame}
use Rattle.wd_plan.specs.declared.function.Function.TheVariants.{Ranking as Ranked}
use Rattle.wd_plan.specs.declared.function.Ranking.TheVariants.{RowNumber}
use Rattle.wd_plan.specs.Expressions.{Column}
use Rattle.wd_plan.specs.Plans.{ClassRule, WindowRule, PlanTree, Over, Scan, Map, Window}
use Rattle.wd_plan.specs.Sorting.{class_columns}

pub record PlainPlan : Type 0 where
  -- the table by its number, and its number of columns
  pub table : ℕ
  pub columns : ℕ
  -- the columns of the table that are read below the Window
  pub read : List ℕ
  -- the window, over the columns that are read
  pub class : ClassRule
  pub frame : Frame
  -- what is selected: columns that are read, and the row number, which follows them
  pub shown : List ℕ

-- ROW_NUMBER of the Window's one class
abbrev pub number_call : Frame → Call
number_call frame = record { class = 0; function = Ranked RowNumber; frame = frame }

abbrev pub window_rule : PlainPlan → WindowRule
window_rule p = record { classes = p.class ∷ []; calls = number_call p.frame ∷ [] }

-- the input of the Window
abbrev pub input_of : PlainPlan → PlanTree
input_of p = Over (Map (map Column p.read)) (Scan p.table p.columns)

-- the plan: a Scan, a Map of the columns that are read, the Window, and a Map of what is selected
abbrev pub plan_by : PlainPlan → PlanTree
plan_by p = Over (Map (map Column p.shown)) (Over (Window (window_rule p)) (input_of p))

-- each column is read once, the number is selected, and each column that is read is used by the window or the select list
pub record IsPlain (p : PlainPlan) : Type 0 where
  pub once : AllPairs (λ a b. a ≢ b) p.read
  pub number : Contains p.shown (length p.read)
  pub asked : (c : ℕ) → c < length p.read → Contains (class_columns p.class) c ⊎ Contains p.shown c
