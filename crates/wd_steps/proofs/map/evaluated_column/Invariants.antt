use Rattle.std.proofs.Common.{map, take}
use Rattle.wd_plan.specs.Expressions.{expression_of, value_of}
use Rattle.wd_steps.proofs.Results.{IsGathered}
use Rattle.wd_steps.proofs.map.evaluated_column.Given as goal

abbrev pub invariant-loop-position : goal.invariant-loop-position
invariant-loop-position l = IsGathered (map (value_of (expression_of l.output)) (take l.position l.rows)) l.values.items l.fault
