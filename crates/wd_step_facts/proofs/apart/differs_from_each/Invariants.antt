use Rattle.std.proofs.Common.{◌≡◌, drop}
use Rattle.std.specs.List.{list_all}
use Rattle.wd_step_facts.specs.Apart.{differ, marked_sets}
use Rattle.wd_step_facts.proofs.apart.differs_from_each.Given as goal

abbrev pub invariant-loop-other : goal.invariant-loop-other
invariant-loop-other l = list_all (differ l.marks) (marked_sets (drop l.other-index l.others)) ≡ list_all (differ l.marks) (marked_sets l.others)
