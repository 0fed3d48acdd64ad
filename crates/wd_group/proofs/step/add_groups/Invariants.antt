use Rattle.wd_plan.specs.Plans.{grouping_of}
use Rattle.wd_group.specs.Gathered.{AreAdded}
use Rattle.wd_group.specs.Sets.{row_width, rows_from}
use Rattle.wd_group.proofs.step.add_groups.Given as goal

abbrev pub invariant-loop-position : goal.invariant-loop-position
invariant-loop-position l = AreAdded (row_width (grouping_of l.group)) l.most (rows_from (grouping_of l.group) l.set l.rows l.position) l.initial.gathered l.gathered
