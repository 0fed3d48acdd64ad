use Rattle.std.proofs.Common.{◌≡◌, take}
use Rattle.wd_plan.specs.Plans.{sets_of}
use Rattle.wd_lighter.proofs.copied.copied_sets.Given as goal

abbrev pub invariant-loop-set : goal.invariant-loop-set
invariant-loop-set l = sets_of l.copied.items ≡ sets_of (take l.set-index l.sets)
