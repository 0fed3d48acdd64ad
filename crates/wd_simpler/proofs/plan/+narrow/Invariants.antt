use Rattle.std.proofs.Common.{◌+◌, ◌*◌}
use Rattle.wd_plan.specs.Plans.{node_count, plan_of}
use Rattle.wd_simpler.proofs.plan.+narrow.Given as goal

-- A node is worth 3: a step stands above its input, and that above the plan in it.
abbrev pub decreases-narrow_plan : goal.decreases-narrow_plan
decreases-narrow_plan l = 3 * node_count (plan_of l.plan)

abbrev pub decreases-narrow_input : goal.decreases-narrow_input
decreases-narrow_input l = 3 * node_count (plan_of l.input.value) + 1

abbrev pub decreases-narrow_join : goal.decreases-narrow_join
decreases-narrow_join l = 3 * (node_count (plan_of l.left.value) + node_count (plan_of l.right.value)) + 2

abbrev pub decreases-narrow_filter : goal.decreases-narrow_filter
decreases-narrow_filter l = 3 * node_count (plan_of l.input.value) + 2

abbrev pub decreases-narrow_map : goal.decreases-narrow_map
decreases-narrow_map l = 3 * node_count (plan_of l.input.value) + 2

abbrev pub decreases-narrow_group : goal.decreases-narrow_group
decreases-narrow_group l = 3 * node_count (plan_of l.input.value) + 2

abbrev pub decreases-narrow_window : goal.decreases-narrow_window
decreases-narrow_window l = 3 * node_count (plan_of l.input.value) + 2

abbrev pub decreases-narrow_limit : goal.decreases-narrow_limit
decreases-narrow_limit l = 3 * node_count (plan_of l.input.value) + 2
