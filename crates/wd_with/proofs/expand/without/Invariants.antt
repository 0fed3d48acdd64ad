use Rattle.std.proofs.Common.{◌≡◌, length, map}
use Rattle.wd_with.specs.Expanded.{said, unchanged, without}
use Rattle.wd_with.specs.Named.{named_query}
use Rattle.wd_with.proofs.expand.without.Given as goal

abbrev pub invariant-loop-member : goal.invariant-loop-member
invariant-loop-member l = without (map named_query l.members.items) (said l.expanded) ≡ without (map named_query l.fn.members.items) (unchanged l.fn.query)

abbrev pub decreases-loop-member : goal.decreases-loop-member
decreases-loop-member l = length l.members.items
