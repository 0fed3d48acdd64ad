use Rattle.std.proofs.Common.{◌≡◌, drop, map}
use Rattle.wd_resolve_call.specs.References.{operand_of}
use Rattle.wd_resolve_scope.specs.Resolving.{all_settled}
use Rattle.wd_resolve_call.specs.Rows.{row_expression_of}
use Rattle.wd_resolve_call.proofs.Prefixed.{prefixed}
use Rattle.wd_resolve_scope.proofs.expression.settle_all.Given as goal

abbrev pub invariant-loop-operand : goal.invariant-loop-operand
invariant-loop-operand l = prefixed (map row_expression_of l.expressions.items) (all_settled (map operand_of (drop l.operand-index l.operands))) ≡ all_settled (map operand_of l.operands)
