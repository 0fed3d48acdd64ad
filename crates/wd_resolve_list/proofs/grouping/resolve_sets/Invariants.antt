use Rattle.std.proofs.Common.{◌≡◌, ◌++◌, Ok, drop, map}
use Rattle.wd_plan.specs.Plans.{sets_of}
use Rattle.wd_syntax.specs.View.{view_set}
use Rattle.wd_resolve_operand.specs.Causes.{◌>>=◌}
use Rattle.wd_resolve_scope.specs.Scopes.{scope_of}
use Rattle.wd_resolve_list.specs.Grouping.{sets_meant}
use Rattle.wd_resolve_list.proofs.grouping.resolve_sets.Given as goal

abbrev pub invariant-loop-set : goal.invariant-loop-set
invariant-loop-set l = (sets_meant (scope_of l.scope) (map view_set (drop l.set-index l.sets)) >>= λ ss. Ok (sets_of l.meant.items ++ ss)) ≡ sets_meant (scope_of l.scope) (map view_set l.sets)
