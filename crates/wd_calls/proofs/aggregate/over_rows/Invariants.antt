use Rattle.wd_frame.specs.Slides.{IsAnswer}
use Rattle.wd_calls.specs.Parts.{partition_of}
use Rattle.wd_calls.specs.Values.{first_values}
use Rattle.wd_calls.proofs.aggregate.over_rows.Given as goal

abbrev pub invariant-loop-place : goal.invariant-loop-place
invariant-loop-place g l = IsAnswer g.S.Slide.plain (first_values (partition_of l.partition) l.column l.place) l.answer
