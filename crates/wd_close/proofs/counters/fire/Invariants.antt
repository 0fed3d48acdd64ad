use Rattle.std.proofs.Common.{◌≡◌, drop, map}
use Rattle.wd_step_facts.specs.Facts.{fact_of}
use Rattle.wd_close.specs.Reached.{Mirrors}
use Rattle.wd_close.specs.Reached as spec
use Rattle.wd_close.proofs.counters.fire.Given as goal

abbrev pub invariant-loop-fact : goal.invariant-loop-fact
invariant-loop-fact l = record {
  mirrors : Mirrors l.set l.queue.items;
  queue : spec.fired (map fact_of l.list) l.counters l.queue.items (drop l.fact-index l.watchers) ≡ spec.fired (map fact_of l.list) l.counters l.fn.queue.items l.watchers;
  uses : spec.used (map fact_of l.list) l.counters l.queue.items l.uses.items (drop l.fact-index l.watchers) ≡ spec.used (map fact_of l.list) l.counters l.fn.queue.items l.fn.uses.items l.watchers;
}
