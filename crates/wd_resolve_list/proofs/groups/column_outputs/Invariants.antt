use Rattle.std.proofs.Common.{◌≡◌, map, take}
use Rattle.wd_plan.specs.Expressions.{Column, expression_of}
use Rattle.wd_resolve_list.proofs.groups.column_outputs.Given as goal

abbrev pub invariant-loop-column : goal.invariant-loop-column
invariant-loop-column l = map expression_of l.expressions.items ≡ map Column (take l.column-index l.columns)
