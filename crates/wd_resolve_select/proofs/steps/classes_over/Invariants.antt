use Rattle.std.proofs.Common.{◌≡◌, ◌≤◌, drop, map, vec_len, []}
use Rattle.wd_resolve_call.specs.Rows.{row_expression_of}
use Rattle.wd_plan.specs.Plans.{class_of}
use Rattle.wd_resolve_call.specs.Calls.{call_of}
use Rattle.wd_resolve_select.specs.Steps.{same_class, class_over}
use Rattle.wd_resolve_list.specs.SelectLists.{with_new}
use Rattle.wd_resolve_select.proofs.steps.classes_over.Given as goal

abbrev pub invariant-loop-call : goal.invariant-loop-call
invariant-loop-call l = record {
  meant : with_new same_class (map class_of l.classes.items) (map (class_over (map row_expression_of l.inputs)) (map call_of (drop l.call-index l.calls))) ≡ with_new same_class [] (map (class_over (map row_expression_of l.inputs)) (map call_of l.calls));
  within : vec_len l.classes ≤ l.call-index;
}
