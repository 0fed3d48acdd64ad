use Rattle.std.proofs.Common.{◌≡◌, ℕ, drop, nat_lt}
use Rattle.std.specs.List.{list_all}
use Rattle.wd_plan.proofs.fits.are_below.Given as goal

abbrev pub invariant-loop-column : goal.invariant-loop-column
invariant-loop-column l = let test = λ (c : ℕ). nat_lt c l.count in list_all test (drop l.column-index l.columns) ≡ list_all test l.columns
