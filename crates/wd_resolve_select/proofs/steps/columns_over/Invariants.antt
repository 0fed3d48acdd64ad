use Rattle.std.proofs.Common.{◌≡◌, map, take}
use Rattle.wd_resolve_call.specs.Rows.{row_expression_of}
use Rattle.wd_resolve_list.specs.SelectLists.{input_number}
use Rattle.wd_resolve_select.proofs.steps.columns_over.Given as goal

abbrev pub invariant-loop-expression : goal.invariant-loop-expression
invariant-loop-expression l = l.columns.items ≡ map (input_number (map row_expression_of l.inputs)) (map row_expression_of (take l.expression-index l.expressions))
