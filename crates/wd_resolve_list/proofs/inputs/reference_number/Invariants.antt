use Rattle.std.proofs.Common.{◌≡◌, ◌+◌, drop, map}
use Rattle.std.specs.List.{position_or_len}
use Rattle.wd_resolve_operand.specs.BoundExpressions.{Reference}
use Rattle.wd_resolve_call.specs.Rows.{row_expression_of, row_reference_of, same_row_expression}
use Rattle.wd_resolve_list.proofs.inputs.reference_number.Given as goal

abbrev pub invariant-loop-number : goal.invariant-loop-number
invariant-loop-number l = l.number + position_or_len (same_row_expression (Reference (row_reference_of l.reference))) (map row_expression_of (drop l.number l.inputs)) ≡ position_or_len (same_row_expression (Reference (row_reference_of l.reference))) (map row_expression_of l.inputs)
