use Rattle.std.proofs.Common.{◌≡◌, ℕ, ◌-◌}
use Rattle.std.specs.List.{list_all, list_any, range_with_len}
use Rattle.wd_value.specs.Bags.{positions}
use Rattle.wd_plan.specs.Plans.{has, sets_of}
use Rattle.wd_plan.proofs.fits.is_each_in_some.Given as goal

abbrev pub invariant-loop-column : goal.invariant-loop-column
invariant-loop-column l = let test = λ (c : ℕ). list_any (λ set. has set c) (sets_of l.sets) in list_all test (range_with_len l.column (l.columns - l.column)) ≡ list_all test (positions l.columns)
