use Rattle.std.proofs.Common.{take}
use Rattle.std.specs.Prelude.{flat_map}
use Rattle.wd_plan.specs.Outcomes.{set_rows}
use Rattle.wd_plan.specs.Plans.{grouping_of, sets_of}
use Rattle.wd_group.specs.Gathered.{AreFirst}
use Rattle.wd_group.specs.Sets.{row_width}
use Rattle.wd_group.proofs.step.group_rows.Given as goal

abbrev pub invariant-loop-set : goal.invariant-loop-set
invariant-loop-set l = AreFirst (row_width (grouping_of l.group)) l.most (flat_map (set_rows (grouping_of l.group) l.rows) (sets_of (take l.set-index l.group.sets.items))) l.gathered
