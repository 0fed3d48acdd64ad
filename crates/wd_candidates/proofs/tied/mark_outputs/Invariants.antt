use Rattle.std.proofs.Common.{map, take}
use Rattle.wd_plan.specs.Expressions.{expression_of}
use Rattle.wd_step_facts.specs.Steps.{used}
use Rattle.wd_candidates.specs.Marks.{MarksMore, is_marked}
use Rattle.wd_candidates.specs.Origins.{is_in_wanted}
use Rattle.wd_candidates.proofs.tied.mark_outputs.Given as goal

abbrev pub invariant-loop-number : goal.invariant-loop-number
invariant-loop-number l = MarksMore l.initial.marks (is_in_wanted (take l.number (map used (map expression_of l.outputs))) (is_marked l.wanted)) l.marks
