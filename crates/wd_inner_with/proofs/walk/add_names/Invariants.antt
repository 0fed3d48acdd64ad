use Rattle.std.proofs.Common.{◌≡◌, ◌++◌, length}
use Rattle.wd_inner_with.proofs.walk.add_names.Given as goal

abbrev pub invariant-loop-more : goal.invariant-loop-more
invariant-loop-more l = l.names.items ++ l.more ≡ l.initial.names.items ++ l.initial.more

abbrev pub decreases-loop-more : goal.decreases-loop-more
decreases-loop-more l = length l.more
