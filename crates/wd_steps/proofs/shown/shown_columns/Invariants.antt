use Rattle.std.proofs.Common.{◌≡◌, map, take}
use Rattle.wd_plan.specs.Expressions.{Column, expression_of}
use Rattle.wd_steps.proofs.shown.shown_columns.Given as goal

abbrev pub invariant-loop-output : goal.invariant-loop-output
invariant-loop-output l = map expression_of (take l.output-index l.outputs) ≡ map Column l.columns.items
