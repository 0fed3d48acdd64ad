use Rattle.std.proofs.Common.{take}
use Rattle.wd_plan.specs.Plans.{grouping_of}
use Rattle.wd_candidates.specs.Marks.{MarksMore, is_marked}
use Rattle.wd_candidates.specs.Origins.{group_columns, is_in_wanted}
use Rattle.wd_candidates.proofs.tied.mark_groups.Given as goal

abbrev pub invariant-loop-number : goal.invariant-loop-number
invariant-loop-number l = MarksMore l.initial.marks (is_in_wanted (take l.number (group_columns (grouping_of l.group))) (is_marked l.wanted)) l.marks
