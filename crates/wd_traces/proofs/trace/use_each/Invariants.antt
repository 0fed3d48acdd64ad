use Rattle.std.proofs.Common.{◌≡◌, drop}
use Rattle.wd_sets.specs.Sets.{has}
use Rattle.wd_rules.specs.Traces.{with_uses}
use Rattle.wd_node_facts.specs.Seen.{seen_of}
use Rattle.wd_traces.specs.Used.{AreUsed}
use Rattle.wd_traces.proofs.trace.use_each.Given as goal

abbrev pub invariant-loop-number : goal.invariant-loop-number
invariant-loop-number l = record {
  from : l.followed.from.items ≡ l.fn.followed.from.items;
  used : AreUsed l.node (seen_of l.known.facts) (has l.followed.set) l.used;
  uses : with_uses l.node (seen_of l.known.facts) (has l.followed.set) (drop l.number-index l.uses) ≡ with_uses l.node (seen_of l.known.facts) (has l.fn.followed.set) l.uses;
}
