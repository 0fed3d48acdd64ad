use Rattle.std.proofs.Common.{◌≡◌, ◌++◌, map, take}
use Rattle.wd_plan.specs.Plans.{sets_of}
use Rattle.wd_resolve_list.proofs.grouping.with_each.Given as goal

abbrev pub invariant-loop-other : goal.invariant-loop-other
invariant-loop-other l = sets_of l.all.items ≡ map (λ t. l.set ++ t) (sets_of (take l.other-index l.others))
