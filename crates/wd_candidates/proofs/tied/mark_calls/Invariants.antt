use Rattle.std.proofs.Common.{map, take}
use Rattle.wd_plan.specs.Plans.{window_of}
use Rattle.wd_candidates.specs.Marks.{MarksMore, is_marked}
use Rattle.wd_candidates.specs.Origins.{call_columns, is_in_wanted}
use Rattle.wd_candidates.proofs.tied.mark_calls.Given as goal

abbrev pub invariant-loop-number : goal.invariant-loop-number
invariant-loop-number l = MarksMore l.initial.marks (is_in_wanted (take l.number (map (call_columns (window_of l.window)) l.window.calls.items)) (is_marked l.wanted)) l.marks
