-- What waits last is resumed first.
use Rattle.std.proofs.Common.{◌≡◌, refl, ap, List, [], ◌∷◌, ◌++◌, Result}
use Rattle.wd_value.specs.declared.value.Value.{Value}
use Rattle.wd_value.specs.declared.value.Fault.{Fault}
use Rattle.wd_value.specs.Rows.{Row}
use Rattle.wd_scalar.specs.declared.deep.Waiting.{Waiting}
use Rattle.wd_scalar.specs.Waiting.{all_resumed, resumed}

pub all_resumed_push : (row : Row) (outer : List Waiting) (last : Waiting) (r : Result Value Fault) → all_resumed row (outer ++ last ∷ []) r ≡ all_resumed row outer (resumed row last r)
all_resumed_push row [] last r = refl
all_resumed_push row (first ∷ outer) last r = ap (resumed row first) (all_resumed_push row outer last r)
