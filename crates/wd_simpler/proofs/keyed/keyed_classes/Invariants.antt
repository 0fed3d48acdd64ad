use Rattle.std.proofs.Common.{◌≡◌, map}
use Rattle.wd_plan.specs.Plans.{class_of, plan_of}
use Rattle.wd_simpler.specs.Keyed.{keyed_class}
use Rattle.wd_simpler.proofs.keyed.keyed_classes.Given as goal

abbrev pub invariant-loop-class : goal.invariant-loop-class
invariant-loop-class l = map class_of l.kept.items ≡ map (keyed_class (plan_of l.input)) (map class_of l.yielded)
