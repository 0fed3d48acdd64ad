use Rattle.std.proofs.Common.{◌≡◌, map, take}
use Rattle.wd_plan.specs.Plans.{sets_of}
use Rattle.wd_step_facts.specs.Apart.{marked_sets, marks}
use Rattle.wd_step_facts.proofs.apart.all_marks.Given as goal

abbrev pub invariant-loop-set : goal.invariant-loop-set
invariant-loop-set l = marked_sets l.marked.items ≡ map (marks l.columns) (sets_of (take l.set-index l.sets))
