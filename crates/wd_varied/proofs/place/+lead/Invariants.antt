use Rattle.std.proofs.Common.{length}
use Rattle.wd_varied.proofs.place.+lead.Given as goal

abbrev pub decreases-lead : goal.decreases-lead
decreases-lead l = length l.equated.now
