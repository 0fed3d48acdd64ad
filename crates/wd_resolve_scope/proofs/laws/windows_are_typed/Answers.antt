use Rattle.wd_resolve_scope.proofs.TypedTrees.{window_resolved_is}
use Rattle.wd_resolve_scope.proofs.laws.windows_are_typed.Goals as goal

pub returns : goal.returns
returns c = window_resolved_is
