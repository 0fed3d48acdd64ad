use Rattle.std.proofs.Common.{take}
use Rattle.wd_value.specs.Keys.{key_columns}
use Rattle.wd_plan.specs.Plans.{has}
use Rattle.wd_candidates.specs.Marks.{MarksMore}
use Rattle.wd_candidates.proofs.marks.mark_keys.Given as goal

abbrev pub invariant-loop-key : goal.invariant-loop-key
invariant-loop-key l = MarksMore l.initial.marks (λ c. has (take l.key-index (key_columns l.keys)) c) l.marks
