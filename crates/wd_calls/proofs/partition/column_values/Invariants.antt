use Rattle.std.proofs.Common.{◌≡◌}
use Rattle.wd_frame.specs.Slides.{seen}
use Rattle.wd_calls.specs.Parts.{partition_of}
use Rattle.wd_calls.specs.Values.{first_values}
use Rattle.wd_calls.proofs.partition.column_values.Given as goal

abbrev pub invariant-loop-place : goal.invariant-loop-place
invariant-loop-place l = seen l.values.items ≡ first_values (partition_of l.partition) l.column l.place
