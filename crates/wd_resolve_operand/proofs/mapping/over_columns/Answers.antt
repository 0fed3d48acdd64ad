use Rattle.std.proofs.Common.{subst}
use Rattle.wd_plan.specs.Expressions.{expression_of}
use Rattle.wd_resolve_operand.specs.Causes.{Gives}
use Rattle.wd_resolve_operand.specs.BoundExpressions.{bound_expression_of}
use Rattle.wd_resolve_operand.proofs.Mapped.{mapped_over_columns}
use Rattle.wd_resolve_operand.proofs.mapping.over_columns.Goals as goal

pub returns : goal.returns
returns g c = subst (λ meant. Gives expression_of c.make.result meant) (mapped_over_columns (g.M.ColumnMap.meaning c.args.map.now) (bound_expression_of g.M.ColumnMap.read c.args.expression.now)) c.make.ensures
