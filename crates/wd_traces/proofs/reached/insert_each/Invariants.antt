use Rattle.std.proofs.Common.{◌≡◌, drop}
use Rattle.wd_step_facts.specs.declared.facts.Member.{Member}
use Rattle.wd_sets.specs.Sets.{has}
use Rattle.wd_sets.specs.Reaches.{also}
use Rattle.wd_traces.proofs.reached.insert_each.Given as goal

abbrev pub invariant-loop-member : goal.invariant-loop-member
invariant-loop-member l = (m : Member) → also (has l.set) (drop l.member-index l.members) m ≡ also (has l.fn.set) l.members m
