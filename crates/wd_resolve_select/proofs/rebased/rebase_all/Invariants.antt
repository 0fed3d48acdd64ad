use Rattle.std.proofs.Common.{◌≡◌, map, take}
use Rattle.wd_plan.specs.Expressions.{expression_of}
use Rattle.wd_resolve_call.specs.References.{bound_expression_of}
use Rattle.wd_resolve_list.specs.Grouping.{below_of}
use Rattle.wd_resolve_list.specs.SelectLists.{projected_shown, over, row_place}
use Rattle.wd_resolve_select.proofs.rebased.rebase_all.Given as goal

abbrev pub invariant-loop-expression : goal.invariant-loop-expression
invariant-loop-expression l = map expression_of l.rebased.items ≡ map (over (row_place (below_of l.below).grouped (projected_shown l.projected).groups) (projected_shown l.projected)) (map bound_expression_of (take l.expression-index l.expressions))
