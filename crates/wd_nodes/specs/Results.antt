-- Answers that may be an error.
use Rattle.std.specs.Prelude.{Result, IfErr, IfOk}

-- What is answered holds, or the error has its cause.
pub record OkOr {A E : Type 0} (Holds : A → Type 0) (IsCause : E → Type 0) (r : Result A E) : Type 0 where
  pub ok : IfOk r Holds
  pub refused : IfErr r IsCause
