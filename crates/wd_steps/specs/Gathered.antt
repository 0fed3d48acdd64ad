-- The values of a row or a column, or a fault, as contracts see them.
use Rattle.std.specs.Prelude.{Result, Ok, Err}
use Rattle.std.specs.declared.alloc.Global.{Global}
use Rattle.std.specs.declared.vec.Vec.{Vec}
use Rattle.wd_value.specs.declared.value.Value.{Value}
use Rattle.wd_value.specs.declared.value.Fault.{Fault}
use Rattle.wd_value.specs.Rows.{Row}

-- the row or column, or the fault, that a result of the code shows
abbrev pub row_of : Result (Vec Value Global) Fault → Result Row Fault
row_of (Ok row) = Ok row.items
row_of (Err fault) = Err fault
