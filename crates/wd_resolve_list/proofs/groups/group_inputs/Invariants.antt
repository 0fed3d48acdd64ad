use Rattle.std.proofs.Common.{◌≡◌, drop, map}
use Rattle.std.specs.Prelude.{flat_map}
use Rattle.wd_plan.specs.Expressions.{Column, expression_of}
use Rattle.wd_plan.specs.Equality.{same_expression}
use Rattle.wd_resolve_list.specs.SelectLists.{group_argument_of, shared_call, with_new}
use Rattle.wd_resolve_list.proofs.groups.group_inputs.Given as goal

abbrev pub invariant-loop-call : goal.invariant-loop-call
invariant-loop-call l = with_new same_expression (map expression_of l.inputs.items) (flat_map group_argument_of (map shared_call (drop l.call-index l.calls))) ≡ with_new same_expression (map Column l.columns) (flat_map group_argument_of (map shared_call l.calls))
