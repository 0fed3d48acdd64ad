use Rattle.std.proofs.Common.{length}
use Rattle.wd_resolve_list.proofs.grouping.+all_subsets.Given as goal

abbrev pub decreases-all_subsets : goal.decreases-all_subsets
decreases-all_subsets l = length l.sets.now
