use Rattle.std.proofs.Common.{◌≡◌, take}
use Rattle.wd_plan.specs.Outcomes.{mask}
use Rattle.wd_group.proofs.mask.mask.Given as goal

abbrev pub invariant-loop-column : goal.invariant-loop-column
invariant-loop-column l = l.mask ≡ mask l.set (take l.column-index l.columns)
