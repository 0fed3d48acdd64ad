-- The numbers of the refusals, and the place that each names.
use Rattle.std.specs.Prelude.{ℕ, Option, Some, None}
use Rattle.wd_join.specs.declared.error.StepError.{StepError}
use Rattle.wd_join.specs.declared.error.StepError.TheVariants as step
use Rattle.wd_eval.specs.declared.error.EvalError.{EvalError}
use Rattle.wd_eval.specs.declared.error.EvalError.TheVariants.{NotValid, TooManyRows, OutOfMemory}

abbrev pub number_of : EvalError → Option ℕ
number_of (NotValid ordering) = Some 801
number_of TooManyRows = Some 802
number_of OutOfMemory = None

abbrev pub place_of : EvalError → Option ℕ
place_of (NotValid ordering) = Some ordering
place_of TooManyRows = None
place_of OutOfMemory = None

-- the error that a step's error is here
abbrev pub error_of : StepError → EvalError
error_of step.TooManyRows = TooManyRows
error_of step.OutOfMemory = OutOfMemory
