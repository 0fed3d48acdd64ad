use Rattle.std.proofs.Common.{◌≡◌, ◌++◌, drop}
use Rattle.wd_plan.specs.Plans.{sets_of}
use Rattle.wd_resolve_list.specs.Grouping.{cross_sets}
use Rattle.wd_resolve_list.proofs.grouping.cross_sets.Given as goal

abbrev pub invariant-loop-set : goal.invariant-loop-set
invariant-loop-set l = sets_of l.all.items ++ cross_sets (sets_of (drop l.set-index l.sets)) (sets_of l.others) ≡ cross_sets (sets_of l.sets) (sets_of l.others)
