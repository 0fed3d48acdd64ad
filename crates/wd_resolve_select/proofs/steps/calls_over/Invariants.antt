use Rattle.std.proofs.Common.{◌≡◌, map}
use Rattle.wd_resolve_call.specs.Rows.{row_expression_of}
use Rattle.wd_plan.specs.Plans.{class_of}
use Rattle.wd_resolve_call.specs.Calls.{call_of}
use Rattle.wd_resolve_select.specs.Steps.{call_over}
use Rattle.wd_resolve_select.proofs.steps.calls_over.Given as goal

abbrev pub invariant-loop-call : goal.invariant-loop-call
invariant-loop-call l = l.planned.items ≡ map (call_over (map row_expression_of l.inputs) (map class_of l.classes)) (map call_of l.yielded)
