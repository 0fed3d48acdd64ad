-- What waits last is closed first.
use Rattle.std.proofs.Common.{◌≡◌, refl, ap, List, [], ◌∷◌, ◌++◌}
use Rattle.wd_plan.specs.Expressions.{Expression}
use Rattle.wd_plan.specs.declared.copy.Waiting.{Waiting}
use Rattle.wd_plan.specs.Copies.{all_closed, closed_tree}

pub all_closed_push : (outer : List Waiting) (last : Waiting) (x : Expression) → all_closed (outer ++ last ∷ []) x ≡ all_closed outer (closed_tree last x)
all_closed_push [] last x = refl
all_closed_push (first ∷ outer) last x = ap (closed_tree first) (all_closed_push outer last x)
