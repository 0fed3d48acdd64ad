use Rattle.std.proofs.Common.{◌≡◌, drop, map}
use Rattle.wd_resolve_call.specs.Rows.{row_expression_of, same_row_expression}
use Rattle.wd_resolve_list.specs.SelectLists.{with_new}
use Rattle.wd_resolve_list.proofs.inputs.add_partition.Given as goal

abbrev pub invariant-loop-expression : goal.invariant-loop-expression
invariant-loop-expression l = with_new same_row_expression (map row_expression_of l.inputs.items) (map row_expression_of (drop l.expression-index l.expressions)) ≡ with_new same_row_expression (map row_expression_of l.initial.inputs.items) (map row_expression_of l.expressions)
