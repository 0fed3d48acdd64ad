use Rattle.std.proofs.Common.{◌≡◌, ◌+◌, ◌^◌, ◌≤◌, drop, min}
use Rattle.wd_plan.specs.Plans.{sets_of}
use Rattle.wd_varied.specs.Work.{sets_work}
use Rattle.wd_varied.proofs.work.with_group.Given as goal

abbrev pub invariant-loop-set : goal.invariant-loop-set
invariant-loop-set l = (l.counted ≤ 2 ^ 28)
    × (min (l.counted + sets_work (sets_of (drop l.set-index l.group.sets.items))) (2 ^ 28) ≡ min (l.before + sets_work (sets_of l.group.sets.items)) (2 ^ 28))
