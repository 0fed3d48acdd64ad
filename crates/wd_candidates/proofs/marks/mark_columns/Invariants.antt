use Rattle.std.proofs.Common.{take}
use Rattle.wd_plan.specs.Plans.{has}
use Rattle.wd_candidates.specs.Marks.{MarksMore}
use Rattle.wd_candidates.proofs.marks.mark_columns.Given as goal

abbrev pub invariant-loop-column : goal.invariant-loop-column
invariant-loop-column l = MarksMore l.initial.marks (λ c. has (take l.column-index l.columns) c) l.marks
