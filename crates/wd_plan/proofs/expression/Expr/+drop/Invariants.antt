use Rattle.std.proofs.Common.{◌≤◌}
use Rattle.wd_plan.proofs.expression.Expr.TheLaws.{the_size}
use Rattle.wd_plan.proofs.expression.Expr.+drop.Given as goal

abbrev pub invariant-loop-self : goal.invariant-loop-self
invariant-loop-self l = the_size l.self ≤ the_size l.fn.self
