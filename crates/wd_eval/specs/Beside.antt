-- Rows with the values of a Window's calls after their own.
use Rattle.std.specs.Prelude.{◌≡◌, ℕ, List, ◌++◌, map, length, Result, Ok}
use Rattle.std.specs.declared.alloc.Global.{Global}
use Rattle.std.specs.declared.vec.Vec.{Vec}
use Rattle.wd_value.specs.declared.value.Value.{Value}
use Rattle.wd_value.specs.declared.value.Fault.{Fault}
use Rattle.wd_value.specs.Bags.{positions}
use Rattle.wd_value.specs.Rows.{Row, row_at}
use Rattle.wd_column_store.specs.Along.{row_along}
use Rattle.wd_plan.specs.Faults.{and_then}
use Rattle.wd_plan.specs.Outcomes.{window_outcome}
use Rattle.wd_plan.specs.Plans.{WindowRule}
use Rattle.wd_calls.specs.declared.column.CallColumn.{CallColumn}

-- the values of a column of the code
abbrev pub values_of : CallColumn → List Value
values_of column = column.values.items

-- each row with its values in the columns after its own
abbrev pub with_columns : List Row → List (List Value) → List Row
with_columns rows columns = map (λ p. row_at rows p ++ row_along columns p) (positions (length rows))

-- the columns, beside the rows, make what a Window gives, or the fault is what it gives
abbrev pub IsBeside : WindowRule → List Row → List (List ℕ) → Result (Vec CallColumn Global) Fault → Type 0
IsBeside w rows orderings columns = and_then columns (λ columns. Ok (with_columns rows (map values_of columns.items))) ≡ window_outcome w rows orderings
