use Rattle.std.proofs.Common.{◌≡◌, ◌+◌, ◌-◌, ◌*◌, ◌≤◌, map, take, length}
use Rattle.wd_step_facts.specs.Facts.{columns_named, fact_of, facts_of}
use Rattle.wd_close.specs.Closure.{all_members}
use Rattle.wd_close.specs.Reached.{Mirrors}
use Rattle.wd_close.proofs.Derivations.{IsDerived}
use Rattle.wd_close.proofs.Loop.{lacks, total}
use Rattle.wd_close.proofs.Steps.{State}
use Rattle.wd_close.proofs.prepared.Prepared.close.Given as goal

abbrev pub invariant-loop-at : goal.invariant-loop-at
invariant-loop-at l = record {
  mirrors : Mirrors l.set l.queue.items;
  state : State (facts_of l.facts) (columns_named l.columns) l.at l.queue.items l.counters.items;
  derived : IsDerived (facts_of l.facts) (columns_named l.columns) l.queue.items l.uses.items;
  small : l.steps ≤ l.at * 18446744073709551616;
  count : l.steps + lacks (map fact_of l.facts.list.items) (take l.at l.queue.items) ≡ l.at + total (map fact_of l.facts.list.items);
}

abbrev pub decreases-loop-at : goal.decreases-loop-at
decreases-loop-at l = length (all_members l.facts.columns) - l.at
