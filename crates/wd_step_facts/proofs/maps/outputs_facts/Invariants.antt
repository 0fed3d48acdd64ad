use Rattle.std.proofs.Common.{◌≡◌, ◌+◌, ◌-◌, ◌++◌, true, drop, length, map, nat_lt}
use Rattle.std.specs.List.{list_all}
use Rattle.wd_plan.specs.Expressions.{expression_of}
use Rattle.wd_step_facts.specs.Facts.{fact_of}
use Rattle.wd_step_facts.specs.Steps.{outputs_facts, used}
use Rattle.wd_step_facts.proofs.maps.outputs_facts.Given as goal

abbrev pub invariant-loop-output : goal.invariant-loop-output
invariant-loop-output l = record {
  at : l.number + length (drop l.output-index l.outputs) ≡ length l.outputs;
  below : list_all (λ e. list_all (λ c. nat_lt c (65536 - l.by)) (used e)) (map expression_of (drop l.output-index l.outputs)) ≡ true;
  facts : map fact_of l.list.items ++ outputs_facts l.by l.number (map expression_of (drop l.output-index l.outputs)) ≡ outputs_facts l.by 0 (map expression_of l.outputs);
}
