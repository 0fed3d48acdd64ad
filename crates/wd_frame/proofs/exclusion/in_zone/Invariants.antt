use Rattle.wd_frame.proofs.Zones.{AreSharedUpTo}
use Rattle.wd_frame.proofs.exclusion.in_zone.Given as goal

abbrev pub invariant-loop-place : goal.invariant-loop-place
invariant-loop-place l = AreSharedUpTo l.zone l.bounds l.left_out l.place l.list.items
