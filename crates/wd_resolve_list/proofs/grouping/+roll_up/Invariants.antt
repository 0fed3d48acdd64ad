use Rattle.std.proofs.Common.{length}
use Rattle.wd_resolve_list.proofs.grouping.+roll_up.Given as goal

abbrev pub decreases-roll_up : goal.decreases-roll_up
decreases-roll_up l = length l.sets.now
