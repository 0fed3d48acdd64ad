use Rattle.std.proofs.Common.{◌≡◌, drop}
use Rattle.wd_plan.specs.Plans.{has}
use Rattle.wd_plan.proofs.group.has_column.Given as goal

abbrev pub invariant-loop-other : goal.invariant-loop-other
invariant-loop-other l = has (drop l.other-index l.set) l.column ≡ has l.set l.column
