use Rattle.std.proofs.Common.{◌≡◌, ◌+◌, ◌^◌, ◌≤◌, drop, map, min}
use Rattle.wd_plan.specs.Expressions.{expression_of}
use Rattle.wd_varied.specs.Work.{expressions_work}
use Rattle.wd_varied.proofs.work.with_expressions.Given as goal

abbrev pub invariant-loop-expression : goal.invariant-loop-expression
invariant-loop-expression l = (l.counted ≤ 2 ^ 28)
    × (min (l.counted + expressions_work (map expression_of (drop l.expression-index l.expressions))) (2 ^ 28) ≡ min (l.before + expressions_work (map expression_of l.expressions)) (2 ^ 28))
