use Rattle.std.proofs.Common.{map}
use Rattle.wd_frame.specs.Slides.{IsAnswer, sum_over}
use Rattle.wd_calls.specs.Answers.{addend}
use Rattle.wd_calls.specs.Parts.{partition_of}
use Rattle.wd_calls.specs.Values.{first_values}
use Rattle.wd_calls.proofs.aggregate.total_over_rows.Given as goal

abbrev pub invariant-loop-place : goal.invariant-loop-place
invariant-loop-place l = IsAnswer sum_over (map addend (first_values (partition_of l.partition) l.column l.place)) l.answer
