use Rattle.std.proofs.Common.{◌≡◌, ◌++◌, drop, flat_map, map}
use Rattle.wd_step_facts.specs.Facts.{fact_of}
use Rattle.wd_step_facts.specs.Steps.{restrict_fact}
use Rattle.wd_step_facts.proofs.groups.add_facts_of_group.Given as goal

abbrev pub invariant-loop-fact : goal.invariant-loop-fact
invariant-loop-fact l = map fact_of l.list.items ++ flat_map (restrict_fact l.group.columns) (map fact_of (drop l.fact-index l.kept)) ≡ map fact_of l.initial.list.items ++ flat_map (restrict_fact l.group.columns) (map fact_of l.kept)
