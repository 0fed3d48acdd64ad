-- The least fault of a step, result by result.
use Rattle.std.specs.Prelude.{Option, Some, None, Result, Ok, Err}
use Rattle.wd_value.specs.declared.value.Fault.{Fault}
use Rattle.wd_value.specs.declared.value.Fault.TheVariants.{DivisionByZero, OutOfRange}

-- the least fault, where one more is met: division by zero comes before a result out of range
abbrev pub with_fault : Option Fault → Fault → Option Fault
with_fault None found = Some found
with_fault (Some DivisionByZero) found = Some DivisionByZero
with_fault (Some OutOfRange) found = Some found

-- the least fault, where one result more is looked at
abbrev pub with_result : {X : Type 0} → Option Fault → Result X Fault → Option Fault
with_result fault (Ok x) = fault
with_result fault (Err found) = with_fault fault found
