use Rattle.std.proofs.Common.{◌≡◌, ◌-◌, filter}
use Rattle.std.specs.List.{range_with_len}
use Rattle.wd_plan.specs.Plans.{plan_of}
use Rattle.wd_varied.specs.Sizes.{is_size}
use Rattle.wd_varied.proofs.size.sizes.Given as goal

abbrev pub invariant-loop-rows : goal.invariant-loop-rows
invariant-loop-rows l = l.sizes.items ≡ filter (is_size (plan_of l.plan)) (range_with_len 2 (l.rows - 2))
