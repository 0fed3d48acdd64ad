use Rattle.std.proofs.Common.{◌≡◌, ◌++◌, map, drop, length, vec_items}
use Rattle.wd_step_facts.specs.Facts.{fact_of}
use Rattle.wd_close.specs.Reached as spec
use Rattle.wd_close.proofs.watchers.watch_all.Given as goal

abbrev pub invariant-loop-fact : goal.invariant-loop-fact
invariant-loop-fact l = record {
  long : length l.counters.items ≡ l.fact-index;
  watchers : spec.watched (map vec_items l.watchers.items) l.fact-index (map fact_of (drop l.fact-index l.list)) ≡ spec.watched (map vec_items l.fn.watchers.items) 0 (map fact_of l.list);
  counters : l.counters.items ++ spec.counted (map vec_items l.watchers.items) l.fact-index (map fact_of (drop l.fact-index l.list)) ≡ spec.counted (map vec_items l.fn.watchers.items) 0 (map fact_of l.list);
}
