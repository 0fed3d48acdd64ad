use Rattle.std.proofs.Common.{◌≡◌, map, take}
use Rattle.wd_plan.specs.Expressions.{expression_of}
use Rattle.wd_plan.specs.Plans.{group_call_of}
use Rattle.wd_resolve_list.specs.SelectLists.{shared_call}
use Rattle.wd_resolve_select.specs.Steps.{group_call_over}
use Rattle.wd_resolve_select.proofs.steps.group_calls_over.Given as goal

abbrev pub invariant-loop-call : goal.invariant-loop-call
invariant-loop-call l = map group_call_of l.planned.items ≡ map (group_call_over l.columns (map expression_of l.inputs)) (map shared_call (take l.call-index l.calls))
