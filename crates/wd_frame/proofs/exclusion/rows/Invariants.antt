use Rattle.wd_frame.specs.IndexRanges.{AreRows}
use Rattle.wd_frame.proofs.exclusion.rows.Given as goal

abbrev pub invariant-loop-place : goal.invariant-loop-place
invariant-loop-place l = AreRows l.place l.length l.rows.items
