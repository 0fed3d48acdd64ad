use Rattle.std.proofs.Common.{flat_map, map, take}
use Rattle.wd_plan.specs.Expressions.{expression_of}
use Rattle.wd_step_facts.specs.Steps.{used}
use Rattle.wd_simpler.specs.Sets.{HasAlso}
use Rattle.wd_simpler.proofs.columns.add_all_used.Given as goal

abbrev pub invariant-loop-expression : goal.invariant-loop-expression
invariant-loop-expression l = HasAlso l.initial.set (flat_map used (take l.expression-index (map expression_of l.expressions))) l.set
