-- The rows at positions that are found, or the fault in their place.
use Rattle.std.specs.Prelude.{ℕ, List, Result, Ok, Err}
use Rattle.std.specs.declared.alloc.Global.{Global}
use Rattle.std.specs.declared.vec.Vec.{Vec}
use Rattle.wd_value.specs.declared.value.Fault.{Fault}
use Rattle.wd_value.specs.Rows.{Row, rows_at}
use Rattle.wd_plan.specs.Outcomes.{RowsOrFault}

abbrev pub found_in : List Row → Result (Vec ℕ Global) Fault → RowsOrFault
found_in rows (Ok positions) = Ok (rows_at rows positions.items)
found_in rows (Err fault) = Err fault
