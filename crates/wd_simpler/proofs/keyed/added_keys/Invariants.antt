use Rattle.std.proofs.Common.{◌≡◌, take}
use Rattle.wd_plan.specs.Plans.{plan_of}
use Rattle.wd_simpler.specs.Keyed.{added_keys as added}
use Rattle.wd_simpler.proofs.keyed.added_keys.Given as goal

abbrev pub invariant-loop-key : goal.invariant-loop-key
invariant-loop-key l = l.added.items ≡ added (plan_of l.input) (take l.key-index l.keys)
