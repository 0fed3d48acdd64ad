use Rattle.std.proofs.Common.{◌≡◌, map, take}
use Rattle.wd_step_facts.specs.Facts.{fact_of}
use Rattle.wd_step_facts.proofs.members.copied_facts.Given as goal

abbrev pub invariant-loop-fact : goal.invariant-loop-fact
invariant-loop-fact l = map fact_of l.list.items ≡ map fact_of (take l.fact-index l.facts)
