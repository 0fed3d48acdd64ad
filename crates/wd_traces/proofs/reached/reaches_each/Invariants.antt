use Rattle.std.proofs.Common.{◌≡◌, drop}
use Rattle.wd_node_facts.specs.Seen.{seen_of}
use Rattle.wd_sets.specs.Reaches.{reaches_each}
use Rattle.wd_sets.specs.Sets.{has}
use Rattle.wd_traces.proofs.reached.reaches_each.Given as goal

abbrev pub invariant-loop-member : goal.invariant-loop-member
invariant-loop-member l = reaches_each (seen_of l.facts) (has l.set) (drop l.member-index l.members) ≡ reaches_each (seen_of l.facts) (has l.set) l.members
