-- The values of a Window's calls at all rows, one call after another.
use Rattle.std.specs.Prelude.{◌≡◌, ℕ, ◌+◌, ◌<◌, List, length, slice_index_or, IsErr, IsTrue, Result, ⊤}
use Rattle.wd_value.specs.declared.value.Value.{Value}
use Rattle.wd_value.specs.declared.value.Fault.{Fault}
use Rattle.wd_value.specs.Rows.{Row}
use Rattle.wd_plan.specs.declared.window.Call.{Call}
use Rattle.wd_plan.specs.Calls.{value_at}
use Rattle.wd_plan.specs.Outcomes.{call_at}
use Rattle.wd_plan.specs.Partitions.{members}
use Rattle.wd_plan.specs.Plans.{ClassRule, WindowRule}
use Rattle.wd_calls.specs.declared.column.CallColumn.{CallColumn}
use Rattle.wd_calls.specs.CallColumns.{StandsAt}

-- the first row of a row's partition, as the ordering has it
abbrev pub first_of : ClassRule → List Row → List ℕ → ℕ → ℕ
first_of class rows ordering p = slice_index_or (members class rows ordering p) 0 0

-- a column of n rows has the values of those in a set, and says that it has a fault only where one of these is
pub record HasValues (In : ℕ → Type 0) (value : ℕ → Result Value Fault) (n : ℕ) (column : CallColumn) : Type 0 where
  pub long : length column.values.items ≡ n
  pub each : (p : ℕ) → p < n → In p → StandsAt column p (value p)
  pub said : IsTrue column.out_of_range → (p : ℕ) × (p < n) × In p × IsErr (value p)

-- the values of a call at the rows whose partitions begin at positions below n
abbrev pub AreFilled : ClassRule → Call → List Row → List ℕ → ℕ → CallColumn → Type 0
AreFilled class call rows ordering n column = HasValues (λ p. first_of class rows ordering p < n) (value_at class call.frame call.function rows ordering) (length rows) column

-- where a column is filled as far as n, the new one is filled one position further
abbrev pub FillsNext : ClassRule → Call → List Row → List ℕ → ℕ → CallColumn → CallColumn → Type 0
FillsNext class call rows ordering n old new = AreFilled class call rows ordering n old → AreFilled class call rows ordering (n + 1) new

-- the values of a call at all rows
abbrev pub IsColumn : WindowRule → List Row → List (List ℕ) → Call → CallColumn → Type 0
IsColumn w rows orderings call column = HasValues (λ p. ⊤) (λ p. call_at w rows orderings p call) (length rows) column

-- of each call of a Window
pub record AreColumns (w : WindowRule) (rows : List Row) (orderings : List (List ℕ)) (columns : List CallColumn) : Type 0 where
  pub many : length columns ≡ length w.calls
  pub each : (k : ℕ) (call : Call) (column : CallColumn) → k < length w.calls → IsColumn w rows orderings (slice_index_or w.calls k call) (slice_index_or columns k column)
