use Rattle.std.proofs.Common.{◌≡◌, map, take}
use Rattle.wd_plan.specs.Expressions.{expression_of}
use Rattle.wd_lighter.proofs.copied.copied_outputs.Given as goal

abbrev pub invariant-loop-output : goal.invariant-loop-output
invariant-loop-output l = map expression_of l.copied.items ≡ map expression_of (take l.output-index l.outputs)
