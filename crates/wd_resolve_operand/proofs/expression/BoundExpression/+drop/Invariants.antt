use Rattle.std.proofs.Common.{◌≤◌}
use Rattle.wd_resolve_operand.proofs.expression.BoundExpression.TheLaws.{the_size}
use Rattle.wd_resolve_operand.proofs.expression.BoundExpression.+drop.Given as goal

abbrev pub invariant-loop-self : goal.invariant-loop-self
invariant-loop-self g l = the_size g.row.L g.L.laws l.self ≤ the_size g.row.L g.L.laws l.fn.self
