use Rattle.std.proofs.Common.{◌≡◌, ◌++◌, flat_map, map, take}
use Rattle.wd_plan.specs.Expressions.{expression_of}
use Rattle.wd_varied.specs.Literals.{literals_in}
use Rattle.wd_varied.proofs.literals.add_of_outputs.Given as goal

abbrev pub invariant-loop-output : goal.invariant-loop-output
invariant-loop-output l = l.literals.items ≡ l.initial.literals.items ++ flat_map literals_in (map expression_of (take l.output-index l.outputs))
