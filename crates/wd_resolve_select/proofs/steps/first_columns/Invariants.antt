use Rattle.std.proofs.Common.{◌≡◌, map}
use Rattle.wd_plan.specs.Expressions.{expression_of}
use Rattle.wd_resolve_select.specs.Steps.{columns_from}
use Rattle.wd_resolve_select.proofs.steps.first_columns.Given as goal

abbrev pub invariant-loop-number : goal.invariant-loop-number
invariant-loop-number l = map expression_of l.columns.items ≡ columns_from 0 l.number
