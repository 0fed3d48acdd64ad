use Rattle.wd_resolve_scope.proofs.TypedTrees.{resolved_is}
use Rattle.wd_resolve_scope.proofs.laws.meanings_are_typed.Goals as goal

pub returns : goal.returns
returns c = resolved_is
