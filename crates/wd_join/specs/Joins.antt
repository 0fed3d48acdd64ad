-- Joins of not too many rows.
use Rattle.std.specs.Prelude.{◌≡◌, ℕ, ◌+◌, Bool, false, List, [], ◌∷◌, ◌++◌, map, filter, length, take, Option, Some, None, Result, Ok, Err, nat_le, nat_lt, ◌&&◌, if◌then◌else◌}
use Rattle.std.specs.declared.alloc.Global.{Global}
use Rattle.std.specs.declared.vec.Vec.{Vec}
use Rattle.wd_value.specs.declared.value.Fault.{Fault}
use Rattle.wd_value.specs.Rows.{Row}
use Rattle.wd_plan.specs.Expressions.{Expression, value_of}
use Rattle.wd_plan.specs.Faults.{least_fault}
use Rattle.wd_plan.specs.Outcomes.{RowsOrFault, filter_outcome, pairs, passes}
use Rattle.wd_join.specs.declared.error.StepError.{StepError}
use Rattle.wd_join.specs.declared.error.StepError.TheVariants.{TooManyRows}
use Rattle.wd_joined.specs.declared.pairs.Pair.{Pair}
use Rattle.wd_joined.specs.Pairs.{rows_paired}

-- whether an outcome has more rows than this; a fault has no rows
abbrev pub has_more_rows : ℕ → RowsOrFault → Bool
has_more_rows most (Ok rows) = nat_lt most (length rows)
has_more_rows most (Err fault) = false

-- the list, and one more element if it passes and there are not more than `most` yet
abbrev pub with_next : {X : Type 0} → ℕ → Bool → List X → X → List X
with_next most passing xs x = if passing && nat_le (length xs) most then xs ++ x ∷ [] else xs

-- the first rows that pass, up to one more than `most`, and the least fault among all
pub record AreKept (condition : Expression) (most : ℕ) (all rows : List Row) (fault : Option Fault) : Type 0 where
  pub rows_are : rows ≡ take (most + 1) (filter (λ row. passes (value_of condition row)) all)
  pub fault_is : fault ≡ least_fault (map (value_of condition) all)

-- the rows of pairs, or the fault
abbrev pub pairs_or_fault_of : List Row → List Row → Result (Vec Pair Global) Fault → RowsOrFault
pairs_or_fault_of left right (Ok pairs) = Ok (rows_paired left right pairs.items)
pairs_or_fault_of left right (Err fault) = Err fault

-- the same, or the error
abbrev pub result_of : List Row → List Row → Result (Result (Vec Pair Global) Fault) StepError → Result RowsOrFault StepError
result_of left right (Ok found) = Ok (pairs_or_fault_of left right found)
result_of left right (Err error) = Err error

-- the fault where there is one, else the rows where there are not more than `most`, else an error
abbrev pub within : ℕ → List Row → Option Fault → Result RowsOrFault StepError
within most rows (Some fault) = Ok (Err fault)
within most rows None = if nat_lt most (length rows) then Err TooManyRows else Ok (Ok rows)

-- the condition has the same outcome over these rows as over all, whatever rows they are joined with next
abbrev pub AreEnough : Expression → List Row → List Row → Type 0
AreEnough condition all rows = (right : List Row) → filter_outcome condition (pairs rows right) ≡ filter_outcome condition (pairs all right)
