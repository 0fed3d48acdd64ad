use Rattle.std.proofs.Common.{◌≡◌, ◌+◌, drop, map}
use Rattle.std.specs.List.{position_or_len}
use Rattle.wd_plan.specs.Expressions.{expression_of}
use Rattle.wd_plan.specs.Equality.{same_expression}
use Rattle.wd_resolve_list.proofs.groups.expression_number.Given as goal

abbrev pub invariant-loop-number : goal.invariant-loop-number
invariant-loop-number l = l.number + position_or_len (same_expression (expression_of l.expression)) (map expression_of (drop l.number l.expressions)) ≡ position_or_len (same_expression (expression_of l.expression)) (map expression_of l.expressions)
