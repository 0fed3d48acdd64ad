-- What is meant, after what was meant before it.
use Rattle.std.proofs.Common.{List, ◌++◌, Ok}
use Rattle.wd_resolve_operand.specs.Causes.{Meant, ◌>>=◌}

abbrev pub prefixed : {A : Type 0} → List A → Meant (List A) → Meant (List A)
prefixed xs m = m >>= λ ys. Ok (xs ++ ys)
