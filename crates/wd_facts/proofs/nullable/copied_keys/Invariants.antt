use Rattle.std.proofs.Common.{◌≡◌, ◌++◌, drop, map}
use Rattle.wd_plan.specs.Expressions.{expression_of}
use Rattle.wd_step_facts.specs.Steps.{copied_keys}
use Rattle.wd_facts.proofs.nullable.copied_keys.Given as goal

abbrev pub invariant-loop-key : goal.invariant-loop-key
invariant-loop-key l = map (λ k. k.items) l.list.items ++ copied_keys (map expression_of l.outputs) (map (λ k. k.items) (drop l.key-index l.keys)) ≡ copied_keys (map expression_of l.outputs) (map (λ k. k.items) l.keys)
