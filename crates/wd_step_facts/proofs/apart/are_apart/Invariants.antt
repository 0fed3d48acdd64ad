use Rattle.std.proofs.Common.{◌≡◌, drop}
use Rattle.wd_step_facts.specs.Apart.{are_marked_apart, marked_sets}
use Rattle.wd_step_facts.proofs.apart.are_apart.Given as goal

abbrev pub invariant-loop-number : goal.invariant-loop-number
invariant-loop-number l = are_marked_apart (marked_sets (drop l.number l.marked)) ≡ are_marked_apart (marked_sets l.marked)
