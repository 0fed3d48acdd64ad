use Rattle.std.proofs.Common.{◌≡◌, drop}
use Rattle.std.specs.List.{list_any}
use Rattle.wd_plan.specs.Plans.{has, sets_of}
use Rattle.wd_plan.proofs.fits.is_in_some.Given as goal

abbrev pub invariant-loop-set : goal.invariant-loop-set
invariant-loop-set l = list_any (λ set. has set l.column) (sets_of (drop l.set-index l.sets)) ≡ list_any (λ set. has set l.column) (sets_of l.sets)
