use Rattle.std.proofs.Common.{◌≡◌, ◌+◌, ◌^◌, ◌≤◌, drop, map, min}
use Rattle.wd_plan.specs.Plans.{class_of}
use Rattle.wd_varied.specs.Work.{classes_work}
use Rattle.wd_varied.proofs.work.with_window.Given as goal

abbrev pub invariant-loop-class : goal.invariant-loop-class
invariant-loop-class l = (l.counted ≤ 2 ^ 28)
    × (min (l.counted + classes_work (map class_of (drop l.class-index l.window.classes.items))) (2 ^ 28) ≡ min (l.before + classes_work (map class_of l.window.classes.items)) (2 ^ 28))
