use Rattle.std.proofs.Common.{◌≡◌, drop, map}
use Rattle.wd_plan.specs.Expressions.{expression_of}
use Rattle.wd_step_facts.specs.Steps.{copies}
use Rattle.wd_facts.proofs.Added.{after}
use Rattle.wd_facts.proofs.nullable.copies.Given as goal

abbrev pub invariant-loop-column : goal.invariant-loop-column
invariant-loop-column l = after l.list.items (copies (map expression_of l.outputs) (drop l.column-index l.key)) ≡ copies (map expression_of l.outputs) l.key
