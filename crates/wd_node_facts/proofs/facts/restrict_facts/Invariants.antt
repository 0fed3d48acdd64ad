use Rattle.std.proofs.Common.{◌≡◌, ◌++◌, drop, flat_map, map}
use Rattle.wd_step_facts.specs.Steps.{restrict_fact}
use Rattle.wd_node_facts.specs.Seen.{each_columns, fact_by}
use Rattle.wd_node_facts.proofs.facts.restrict_facts.Given as goal

abbrev pub invariant-loop-fact : goal.invariant-loop-fact
invariant-loop-fact l =
    map (fact_by (each_columns l.traces)) l.list.items ++ flat_map (restrict_fact l.columns) (map (fact_by (each_columns l.traces)) (drop l.fact-index l.kept))
    ≡ flat_map (restrict_fact l.columns) (map (fact_by (each_columns l.traces)) l.kept)
