use Rattle.std.proofs.Common.{◌≡◌, length, map}
use Rattle.wd_with.specs.Members.{are_distinct}
use Rattle.wd_with.specs.Named.{named_query}
use Rattle.wd_with.proofs.member.are_distinct.Given as goal

abbrev pub invariant-loop-members : goal.invariant-loop-members
invariant-loop-members l = are_distinct (map named_query l.members) ≡ are_distinct (map named_query l.initial.members)

abbrev pub decreases-loop-members : goal.decreases-loop-members
decreases-loop-members l = length l.members
