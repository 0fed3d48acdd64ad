use Rattle.std.proofs.Common.{◌≡◌, drop, map}
use Rattle.wd_resolve_call.specs.Rows.{row_expression_of, same_group_call}
use Rattle.wd_resolve_list.specs.SelectLists.{all_row_references, group_calls_among, shared_call, with_new}
use Rattle.wd_resolve_list.proofs.groups.add_partition_calls.Given as goal

abbrev pub invariant-loop-expression : goal.invariant-loop-expression
invariant-loop-expression l = with_new same_group_call (map shared_call l.calls.items) (group_calls_among (all_row_references (map row_expression_of (drop l.expression-index l.expressions)))) ≡ with_new same_group_call (map shared_call l.initial.calls.items) (group_calls_among (all_row_references (map row_expression_of (l.expressions))))
