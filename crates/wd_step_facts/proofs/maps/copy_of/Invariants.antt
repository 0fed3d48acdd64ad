use Rattle.std.proofs.Common.{◌≡◌, drop, map}
use Rattle.wd_plan.specs.Expressions.{expression_of}
use Rattle.wd_step_facts.specs.Steps.{copy_from}
use Rattle.wd_step_facts.proofs.maps.copy_of.Given as goal

abbrev pub invariant-loop-number : goal.invariant-loop-number
invariant-loop-number l = copy_from l.number (map expression_of (drop l.number l.outputs)) l.column ≡ copy_from 0 (map expression_of l.outputs) l.column
