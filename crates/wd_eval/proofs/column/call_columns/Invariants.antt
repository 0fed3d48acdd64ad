use Rattle.std.proofs.Common.{◌≡◌, ℕ, ◌<◌, length, get_or}
use Rattle.wd_plan.specs.declared.window.Call.{Call}
use Rattle.wd_plan.specs.Plans.{window_of}
use Rattle.wd_calls.specs.declared.column.CallColumn.{CallColumn}
use Rattle.wd_eval.specs.Columns.{IsColumn}
use Rattle.wd_eval.specs.ClassIndexes.{WhereIndexed}
use Rattle.wd_eval.proofs.column.call_columns.Given as goal

abbrev pub invariant-loop-call : goal.invariant-loop-call
invariant-loop-call l = (length l.columns.items ≡ l.call-index)
    × WhereIndexed (window_of l.window) l.rows l.indexes
    (λ orderings. (k : ℕ) (call : Call) (column : CallColumn) → k < l.call-index → IsColumn (window_of l.window) l.rows orderings (get_or l.window.calls.items k call) (get_or l.columns.items k column))
