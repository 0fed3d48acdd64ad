use Rattle.std.proofs.Common.{◌≡◌, ℕ, drop, nat_lt}
use Rattle.std.specs.List.{list_all}
use Rattle.wd_plan.specs.Plans.{sets_of}
use Rattle.wd_plan.proofs.fits.are_each_below.Given as goal

abbrev pub invariant-loop-set : goal.invariant-loop-set
invariant-loop-set l = let test = list_all (λ (c : ℕ). nat_lt c l.columns) in list_all test (sets_of (drop l.set-index l.sets)) ≡ list_all test (sets_of l.sets)
