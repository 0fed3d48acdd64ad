use Rattle.std.proofs.Common.{◌≡◌, drop, map}
use Rattle.wd_node_facts.specs.Seen.{seen_of}
use Rattle.wd_rules.specs.Rules.{member_of}
use Rattle.wd_sets.specs.Reaches.{reaches_each}
use Rattle.wd_sets.specs.Sets.{has}
use Rattle.wd_verify.proofs.kept.reaches_targets.Given as goal

abbrev pub invariant-loop-target : goal.invariant-loop-target
invariant-loop-target l = reaches_each (seen_of l.facts) (has l.set) (map member_of (drop l.target-index l.targets)) ≡ reaches_each (seen_of l.facts) (has l.set) (map member_of l.targets)
