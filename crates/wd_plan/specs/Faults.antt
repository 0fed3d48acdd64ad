-- Values or faults: the least fault of several, and all their values where there is none.
use Rattle.std.specs.Prelude.{Bool, true, false, List, [], ◌∷◌, Option, Some, None, Result, Ok, Err, if◌then◌else◌}
use Rattle.std.specs.List.{list_any}
use Rattle.wd_value.specs.declared.value.Fault.{Fault}
use Rattle.wd_value.specs.declared.value.Fault.TheVariants.{DivisionByZero, OutOfRange}

abbrev pub has_fault : {X : Type 0} → Fault → Result X Fault → Bool
has_fault DivisionByZero (Err DivisionByZero) = true
has_fault OutOfRange (Err OutOfRange) = true
has_fault fault r = false

-- the least fault among several results: division by zero comes before a result out of range
abbrev pub least_fault : {X : Type 0} → List (Result X Fault) → Option Fault
least_fault rs = if list_any (has_fault DivisionByZero) rs then Some DivisionByZero else (if list_any (has_fault OutOfRange) rs then Some OutOfRange else None)

-- the values among several results, in their order
abbrev pub values_among : {X : Type 0} → List (Result X Fault) → List X
values_among [] = []
values_among (Ok x ∷ rs) = x ∷ values_among rs
values_among (Err fault ∷ rs) = values_among rs

-- a fault where there is one, else the value
abbrev pub unless : {X : Type 0} → Option Fault → X → Result X Fault
unless None x = Ok x
unless (Some fault) x = Err fault

-- all the values, or the least fault
abbrev pub all_ok : {X : Type 0} → List (Result X Fault) → Result (List X) Fault
all_ok rs = unless (least_fault rs) (values_among rs)

-- a step above a fault has that fault
abbrev pub and_then : {X Y : Type 0} → Result X Fault → (X → Result Y Fault) → Result Y Fault
and_then (Ok x) f = f x
and_then (Err fault) f = Err fault
