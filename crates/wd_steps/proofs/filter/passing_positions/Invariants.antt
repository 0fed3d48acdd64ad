use Rattle.wd_plan.specs.Expressions.{expression_of}
use Rattle.wd_steps.proofs.Filtering.{ArePassingTo}
use Rattle.wd_steps.proofs.filter.passing_positions.Given as goal

abbrev pub invariant-loop-i : goal.invariant-loop-i
invariant-loop-i l = ArePassingTo (expression_of l.condition) l.rows l.kept.items l.i l.fault
