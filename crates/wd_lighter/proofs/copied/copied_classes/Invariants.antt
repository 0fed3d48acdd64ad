use Rattle.std.proofs.Common.{◌≡◌, map, take}
use Rattle.wd_plan.specs.Plans.{class_of}
use Rattle.wd_lighter.proofs.copied.copied_classes.Given as goal

abbrev pub invariant-loop-class : goal.invariant-loop-class
invariant-loop-class l = map class_of l.copied.items ≡ map class_of (take l.class-index l.classes)
