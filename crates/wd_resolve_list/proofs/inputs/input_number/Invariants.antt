use Rattle.std.proofs.Common.{◌≡◌, ◌+◌, drop, map}
use Rattle.std.specs.List.{position_or_len}
use Rattle.wd_resolve_call.specs.Rows.{row_expression_of, same_row_expression}
use Rattle.wd_resolve_list.proofs.inputs.input_number.Given as goal

abbrev pub invariant-loop-number : goal.invariant-loop-number
invariant-loop-number l = l.number + position_or_len (same_row_expression (row_expression_of l.expression)) (map row_expression_of (drop l.number l.inputs)) ≡ position_or_len (same_row_expression (row_expression_of l.expression)) (map row_expression_of l.inputs)
