use Rattle.std.proofs.Common.{◌≡◌, ◌-◌, ◌++◌, true, drop, map, vec_items}
use Rattle.std.specs.List.{list_all}
use Rattle.wd_step_facts.specs.Facts.{fact_of, is_plain_fact}
use Rattle.wd_analyse.specs.Sources.{unions_with}
use Rattle.wd_analyse.proofs.sources.add_unions_with.Given as goal

abbrev pub invariant-loop-fact : goal.invariant-loop-fact
invariant-loop-fact l = record {
  list : map vec_items l.list.items ++ unions_with l.columns l.by (map fact_of (drop l.fact-index l.right)) ≡ map vec_items l.fn.list.items ++ unions_with l.columns l.by (map fact_of l.right);
  plain : list_all (is_plain_fact (65536 - l.by)) (map fact_of (drop l.fact-index l.right)) ≡ true;
}
