-- A result that 64 bits may not hold.
use Rattle.std.specs.Prelude.{ℤ, Option, Some, None, Result, Ok, Err}
use Rattle.wd_value.specs.declared.value.Value.{Value}
use Rattle.wd_value.specs.declared.value.Value.TheVariants.{Int}
use Rattle.wd_value.specs.declared.value.Fault.{Fault}
use Rattle.wd_value.specs.declared.value.Fault.TheVariants.{OutOfRange}

-- the number, or the fault where there is none
abbrev pub number_or_fault : Option ℤ → Result Value Fault
number_or_fault (Some n) = Ok (Int n)
number_or_fault None = Err OutOfRange
